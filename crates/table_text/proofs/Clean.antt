-- A line without a fault passes each test; and the names of the types as a table.
use Rattle.std.proofs.Common.{◌≡◌, ℕ, suc, ◌+◌, ◌-◌, ◌^◌, min, ◌<◌, ◌≤◌, ◌||◌, not, Bool, true, false, cond, List, []}
use Rattle.std.proofs.Common.{◌∷◌, length, map, Option, Some, None, refl, ap, sym, ◌∙◌, arith}
use Rattle.std.specs.Prelude.{slice_get, unwrap_or, option_map}
use Rattle.std.specs.Str.{bytes_eq}
use Rattle.table_text.specs.LineTests.{TypeNames, NamesBefore, line_fault, has_syntax_fault, has_number_fault, has_duplicate, has_unknown_type, has_map_key_fault, exceeds_limit, is_among}
use Rattle.mrpc_table.specs.Text.{message_name, enum_name}
use Rattle.table_text.specs.NameIndex.{index_from, index_or_next, capped_index}
use Rattle.mrpc_table.specs.declared.table.Message.{Message as TheMessage}
use Rattle.mrpc_table.specs.declared.table.Choices.{Choices}
use Rattle.mrpc_table.specs.declared.table.Table.{Table}
use Rattle.table_text.specs.declared.fault.TableReason.{TableReason}
use Rattle.table_text.specs.declared.fault.TableReason.TheVariants.{Syntax, Number, Duplicate, UnknownType, MapKey, Limit}
use Rattle.table_text.specs.declared.line.TableLine.{TableLine}
use Rattle.std.proofs.lemmas.Option.{slice_get-map}
use Rattle.table_text.proofs.PlaceLemmas.{same_bytes}

pub record IsClean (t : TypeNames) (b : NamesBefore) (bytes : ℕ) (l : TableLine) : Type 0 where
  pub syntax : has_syntax_fault b l ≡ false
  pub number : has_number_fault b l ≡ false
  pub duplicate : has_duplicate b l ≡ false
  pub unknown : has_unknown_type t l ≡ false
  pub map_key : has_map_key_fault l ≡ false
  pub limit : exceeds_limit b bytes l ≡ false

passes : (b : Bool) (r : TableReason) (rest : Option TableReason) → cond b (Some r) rest ≡ None → (b ≡ false) × (rest ≡ None)
passes true r rest e = absurd cc
passes false r rest e = (refl, e)

pub is_clean : (t : TypeNames) (b : NamesBefore) (bytes : ℕ) (l : TableLine) → line_fault t b bytes (Some l) ≡ None → IsClean t b bytes l
is_clean t b bytes l e =
    let p6 = cond (exceeds_limit b bytes l) (Some Limit) None in
    let p5 = cond (has_map_key_fault l) (Some MapKey) p6 in
    let p4 = cond (has_unknown_type t l) (Some UnknownType) p5 in
    let p3 = cond (has_duplicate b l) (Some Duplicate) p4 in
    let p2 = cond (has_number_fault b l) (Some Number) p3 in
    let h1 = passes (has_syntax_fault b l) Syntax p2 e in
    let h2 = passes (has_number_fault b l) Number p3 h1.1 in
    let h3 = passes (has_duplicate b l) Duplicate p4 h2.1 in
    let h4 = passes (has_unknown_type t l) UnknownType p5 h3.1 in
    let h5 = passes (has_map_key_fault l) MapKey p6 h4.1 in
    let h6 = passes (exceeds_limit b bytes l) Limit None h5.1 in
    record { syntax = h1.0; number = h2.0; duplicate = h3.0; unknown = h4.0; map_key = h5.0; limit = h6.0 }

pub clean_is : (t : TypeNames) (b : NamesBefore) (bytes : ℕ) (l : TableLine) → IsClean t b bytes l → line_fault t b bytes (Some l) ≡ None
clean_is t b bytes l h =
    let e1 = h.syntax in
    let e2 = h.number in
    let e3 = h.duplicate in
    let e4 = h.unknown in
    let e5 = h.map_key in
    let e6 = h.limit in
    rw (e1, e2, e3, e4, e5, e6) refl

-- ---- parts of tests

pub left_no : (a b : Bool) → (a || b) ≡ false → a ≡ false
left_no true b e = e
left_no false b e = refl

pub right_no : (a b : Bool) → (a || b) ≡ false → b ≡ false
right_no true b e = absurd cc
right_no false b e = e

pub both_no : (a b : Bool) → a ≡ false → b ≡ false → (a || b) ≡ false
both_no true b e f = e
both_no false b e f = f

pub not_no : (b : Bool) → not b ≡ false → b ≡ true
not_no true e = refl
not_no false e = absurd cc

pub no_not : (b : Bool) → b ≡ true → not b ≡ false
no_not true e = refl
no_not false e = absurd cc

-- ---- names and their indices

abbrev pub named_message : List ℕ → TheMessage
named_message n = record { name = n; fields = []; oneofs = [] }

abbrev pub named_enum : List ℕ → Choices
named_enum n = record { name = n; values = [] }

-- a table of messages and enums of these names
abbrev pub names_table : TypeNames → Table
names_table t = record { messages = map named_message t.messages; enums = map named_enum t.enums; methods = [] }

pub place_within : (k : ℕ) (n : List ℕ) (ns : List (List ℕ)) → is_among n ns ≡ true
    → (p : ℕ) × (index_from k n ns ≡ Some (k + p)) × (p < length ns) × (slice_get ns p ≡ Some n)
place_within k n [] e = absurd cc
place_within k n (m ∷ ns) e =
    elim (bytes_eq n m) as (λ (b : Bool). bytes_eq n m ≡ b → (b || is_among n ns) ≡ true
    → (p : ℕ) × (cond b (Some k) (index_from (k + 1) n ns) ≡ Some (k + p)) × (p < length (m ∷ ns))
    × (slice_get (m ∷ ns) p ≡ Some n)) [
      | true ↦ λ is f. let z : k ≡ k + 0 = omega arith in (0, ap Some z, omega arith, ap Some (sym (same_bytes n m is)))
      | false ↦ λ is f.
          let r = place_within (k + 1) n ns f in
          let z : k + 1 + r.0 ≡ k + suc r.0 = omega arith in
          (suc r.0, r.1 ∙ ap Some z, omega (arith, r.2), r.3)
    ] refl e

pub place_known : (n : List ℕ) (ns : List (List ℕ)) → length ns ≤ 65536 → is_among n ns ≡ true → (index_or_next n ns < length ns) × (slice_get ns (index_or_next n ns) ≡ Some n)
place_known n ns small e =
    let r = place_within 0 n ns e in
    let at : index_or_next n ns ≡ r.0 = ap (λ (o : Option ℕ). capped_index (unwrap_or o (length ns))) r.1 ∙ let z : min (0 + r.0) (2 ^ 32 - 1) ≡ r.0 = omega (arith, r.2) in z in
    (omega (arith, at, r.2), ap (slice_get ns) at ∙ r.3)

pub place_new : (k : ℕ) (n : List ℕ) (ns : List (List ℕ)) → is_among n ns ≡ false → index_from k n ns ≡ None
place_new k n [] e = refl
place_new k n (m ∷ ns) e =
    let other : bytes_eq n m ≡ false = left_no (bytes_eq n m) (is_among n ns) e in
    rw other (place_new (k + 1) n ns (right_no (bytes_eq n m) (is_among n ns) e))

pub message_named : (t : TypeNames) (i : ℕ) (n : List ℕ) → slice_get t.messages i ≡ Some n → message_name (names_table t) i ≡ n
message_named t i n e = ap (λ (o : Option TheMessage). unwrap_or (option_map (λ m. m.name) o) []) (slice_get-map named_message t.messages i ∙ ap (option_map named_message) e)

pub enum_named : (t : TypeNames) (i : ℕ) (n : List ℕ) → slice_get t.enums i ≡ Some n → enum_name (names_table t) i ≡ n
enum_named t i n e = ap (λ (o : Option Choices). unwrap_or (option_map (λ m. m.name) o) []) (slice_get-map named_enum t.enums i ∙ ap (option_map named_enum) e)
