-- If a line is at fault for a reason, the tests find a reason that is no later in the order.
use Rattle.std.proofs.Common.{◌≡◌, ◌≢◌, ℕ, ℤ, ◌<◌, ◌≤◌, ◌==◌, ◌||◌, ◌&&◌, not, Bool, true, false, cond, List, [], ◌∷◌}
use Rattle.std.proofs.Common.{◌++◌, codes, length, Option, Some, None, refl, ap, sym, subst, ◌∙◌, arith, inl, inr}
use Rattle.std.specs.Prelude.{nat_lt, IsTrue, FitsSigned}
use Rattle.std.specs.Int.{w32}
use Rattle.std.specs.List.{Contains}
use Rattle.std.proofs.lemmas.Bool.{le-leb, ne_eqb}
use Rattle.std.proofs.lemmas.Bool.Decides.{leb_tells}
use Rattle.std.proofs.lemmas.List.Elements.{Contains-append_cases}
use Rattle.mrpc_table.specs.Names.{is_full_form, is_short, is_short_full}
use Rattle.mrpc_table.specs.Valid.{IsFieldNumber}
use Rattle.table_text.specs.Faults.{IsFaultyLine, is_packable_word, is_key_kind, order_of_reason, no_form, enum_after_message}
use Rattle.table_text.specs.Faults.{enum_after_method, message_after_method, enum_out_of_order, message_out_of_order}
use Rattle.table_text.specs.Faults.{value_outside, value_out_of_order, field_outside, field_out_of_order, optional_message}
use Rattle.table_text.specs.Faults.{packed_no_number, enum_without_value, value_out_of_range, no_field_number}
use Rattle.table_text.specs.Faults.{index_out_of_turn, enum_without_zero, type_twice, value_twice, field_twice}
use Rattle.table_text.specs.Faults.{number_twice, method_twice, unknown_type, map_key, long_name, long_full_name}
use Rattle.table_text.specs.Faults.{too_many_enums, too_many_messages, too_many_methods, too_many_values}
use Rattle.table_text.specs.Faults.{too_many_fields}
use Rattle.table_text.specs.Forms.{TableLineForm, enum, value, message, field, method, HasLineForm, is_method_line, continues, type_named}
use Rattle.table_text.specs.Forms.{type_of_kind, types_of_label, types_used, names_of_label, names_in}
use Rattle.table_text.specs.Forms.{full_name_of_kind, full_names_of_label, full_names_in}
use Rattle.table_text.specs.LineTests.{TypeNames, NamesBefore, types_of, line_fault, has_syntax_fault, has_number_fault, has_duplicate}
use Rattle.table_text.specs.LineTests.{has_unknown_type, has_map_key_fault, exceeds_limit, is_among, is_empty, is_below_last, lacks_value}
use Rattle.table_text.specs.LineTests.{lacks_zero, is_enum_number, has_field_number, is_index, clashes, is_field_out_of_order}
use Rattle.table_text.specs.LineTests.{is_type_before, is_field_before, repeats_number, is_unknown_kind}
use Rattle.table_text.specs.LineTests.{is_unknown_label, is_short_kind, is_short_label}
use Rattle.table_text.specs.LineTests.{has_short_names, has_one_too_many}
use Rattle.table_text.specs.Lines.{in_32_bits, without_prefix, line_of}
use Rattle.table_text.specs.declared.fault.TableReason.{TableReason}
use Rattle.table_text.specs.declared.fault.TableReason.TheVariants.{Syntax, Number, Duplicate, UnknownType, MapKey, Limit}
use Rattle.table_text.specs.declared.line.KindWord.{KindWord}
use Rattle.table_text.specs.declared.line.KindWord.TheVariants as kinds
use Rattle.table_text.specs.declared.line.LabelWord.{LabelWord}
use Rattle.table_text.specs.declared.line.LabelWord.TheVariants as labels
use Rattle.table_text.specs.declared.line.TableLine.{TableLine}
use Rattle.table_text.proofs.FormLines.{kept, kept_whole, kept_within, in_32, says_line, line_said}
use Rattle.table_text.proofs.FormParts.{Fits, enum_name, message_name, method_key_of, named_in, in_names}
use Rattle.table_text.proofs.FormPlaces.{left_true, right_true, not_is}
use Rattle.table_text.proofs.FormReasons.{enums_counted, messages_counted, methods_counted, behind_message, behind_enum}
use Rattle.table_text.proofs.FormTests.{said_lacks_value, said_lacks_zero, outside_falls, below_falls}
use Rattle.table_text.proofs.FormTests.{outside_field_falls, below_field_falls, said_value_before, said_field_before}
use Rattle.table_text.proofs.FormTests.{said_repeats, said_many, said_enum_falls, said_message_falls}
use Rattle.table_text.proofs.OrderLemmas.{contains_nothing, contains_cases, contains_among, among_not}
use Rattle.table_text.proofs.SpellLemmas.{KindIs, LabelIs, kind_is, label_is}
use Rattle.table_text.proofs.Soundness.{number_fits}

-- a reason is found that is no later than this one
pub record AtMost (found : Option TableReason) (q : TableReason) : Type 0 where
  pub reason : TableReason
  pub is : found ≡ Some reason
  pub le : order_of_reason reason ≤ order_of_reason q

first : (b : Bool) (r q : TableReason) (rest : Option TableReason) → order_of_reason r ≤ order_of_reason q → b ≡ true → AtMost (cond b (Some r) rest) q
first true r q rest le e = record { reason = r; is = refl; le = le }
first false r q rest le e = absurd cc

later : (b : Bool) (r q : TableReason) (rest : Option TableReason) → order_of_reason r ≤ order_of_reason q → AtMost rest q → AtMost (cond b (Some r) rest) q
later true r q rest le h = record { reason = r; is = refl; le = le }
later false r q rest le h = h

pub syntax_least : (q : TableReason) → 1 ≤ order_of_reason q
syntax_least Syntax = omega arith
syntax_least Number = omega arith
syntax_least Duplicate = omega arith
syntax_least UnknownType = omega arith
syntax_least MapKey = omega arith
syntax_least Limit = omega arith

-- ---- the tests in order

module _ (t : TypeNames) (b : NamesBefore) (bytes : ℕ) (l : TableLine) where
  at_syntax : (q : TableReason) → has_syntax_fault b l ≡ true → AtMost (line_fault t b bytes (Some l)) q
  at_syntax q e = first (has_syntax_fault b l) Syntax q _ (syntax_least q) e

  at_number : has_number_fault b l ≡ true → AtMost (line_fault t b bytes (Some l)) Number
  at_number e = later (has_syntax_fault b l) Syntax Number _ (omega arith) (first (has_number_fault b l) Number Number _ (omega arith) e)

  at_duplicate : has_duplicate b l ≡ true → AtMost (line_fault t b bytes (Some l)) Duplicate
  at_duplicate e = later (has_syntax_fault b l) Syntax Duplicate _ (omega arith)
      (later (has_number_fault b l) Number Duplicate _ (omega arith)
      (first (has_duplicate b l) Duplicate Duplicate _ (omega arith) e))

  at_unknown : has_unknown_type t l ≡ true → AtMost (line_fault t b bytes (Some l)) UnknownType
  at_unknown e =
      later (has_syntax_fault b l) Syntax UnknownType _ (omega arith) (later (has_number_fault b l) Number UnknownType _ (omega arith) (later (has_duplicate b l) Duplicate UnknownType _ (omega arith)
      (first (has_unknown_type t l) UnknownType UnknownType _ (omega arith) e)))

  at_map_key : has_map_key_fault l ≡ true → AtMost (line_fault t b bytes (Some l)) MapKey
  at_map_key e =
      later (has_syntax_fault b l) Syntax MapKey _ (omega arith) (later (has_number_fault b l) Number MapKey _ (omega arith) (later (has_duplicate b l) Duplicate MapKey _ (omega arith)
      (later (has_unknown_type t l) UnknownType MapKey _ (omega arith) (first (has_map_key_fault l) MapKey MapKey _ (omega arith) e))))

  pub at_limit : exceeds_limit b bytes l ≡ true → AtMost (line_fault t b bytes (Some l)) Limit
  at_limit e =
      later (has_syntax_fault b l) Syntax Limit _ (omega arith) (later (has_number_fault b l) Number Limit _ (omega arith) (later (has_duplicate b l) Duplicate Limit _ (omega arith)
      (later (has_unknown_type t l) UnknownType Limit _ (omega arith) (later (has_map_key_fault l) MapKey Limit _ (omega arith) (first (exceeds_limit b bytes l) Limit Limit None (omega arith) e)))))

  at_full : has_one_too_many b l ≡ true → AtMost (line_fault t b bytes (Some l)) Limit
  at_full e = at_limit (left_true (not (has_short_names l) || has_one_too_many b l) (nat_lt 65536 bytes) (right_true (not (has_short_names l)) (has_one_too_many b l) e))

  at_long : has_short_names l ≡ false → AtMost (line_fault t b bytes (Some l)) Limit
  at_long e = at_limit (left_true (not (has_short_names l) || has_one_too_many b l) (nat_lt 65536 bytes) (left_true (not (has_short_names l)) (has_one_too_many b l) (not_is (has_short_names l) e)))

-- ---- Syntax

pub not_empty : {X : Type 0} (xs : List X) (x : X) → Contains xs x → not (is_empty xs) ≡ true
not_empty [] x c = absurd (contains_nothing x c)
not_empty (y ∷ ys) x c = let some : (length (y ∷ ys) == 0) ≡ false = ne_eqb (length (y ∷ ys)) 0 (omega arith) in rw some refl

key_in : (fs : List TableLineForm) (b : NamesBefore) (f : TableLineForm) → Fits fs b → Contains fs f → is_method_line f ≡ true → not (is_empty b.methods) ≡ true
key_in fs b (method i s n x y) fits c e =
    let key = subst (λ (xs : List (List ℕ)). Contains xs (s ++ 32 ∷ n)) fits.methods (in_names method_key_of fs (method i s n x y) (s ++ 32 ∷ n) c refl) in
    not_empty b.methods (s ++ 32 ∷ n) key
key_in fs b (enum n) fits c e = absurd cc
key_in fs b (value z n) fits c e = absurd cc
key_in fs b (message n) fits c e = absurd cc
key_in fs b (field i l k m) fits c e = absurd cc

lacking : (b : NamesBefore) (f : TableLineForm) → continues f ≡ false → lacks_value b.open_part ≡ true → has_syntax_fault b (kept f) ≡ true
lacking b (enum n) goes e =
    let o = b.open_part in
    left_true ((lacks_value o || not (is_empty b.messages)) || not (is_empty b.methods)) (is_below_last n b.enums)
    (left_true (lacks_value o || not (is_empty b.messages)) (not (is_empty b.methods)) (left_true (lacks_value o) (not (is_empty b.messages)) e))
lacking b (message n) goes e =
    let o = b.open_part in
    left_true (lacks_value o || not (is_empty b.methods)) (is_below_last n b.messages) (left_true (lacks_value o) (not (is_empty b.methods)) e)
lacking b (method i s n x y) goes e = e
lacking b (value z n) goes e = absurd cc
lacking b (field i l k m) goes e = absurd cc

zeroless : (b : NamesBefore) (f : TableLineForm) → continues f ≡ false → lacks_zero b.open_part ≡ true → has_number_fault b (kept f) ≡ true
zeroless b (enum n) goes e = e
zeroless b (message n) goes e = e
zeroless b (method i s n x y) goes e = left_true (lacks_zero b.open_part) (not (is_index (in_32_bits i) (length b.methods))) e
zeroless b (value z n) goes e = absurd cc
zeroless b (field i l k m) goes e = absurd cc

-- ---- Number

out_of_range : (z : ℤ) → (FitsSigned w32 z → ⊥) → not (is_enum_number (kept_whole z)) ≡ true
out_of_range z wrong = go (is_enum_number (kept_whole z)) refl
  where
    go : (b : Bool) → is_enum_number (kept_whole z) ≡ b → not b ≡ true
    go false e = refl
    go true e = absurd (wrong (kept_within z e).1)

bad_number : (n : ℕ) → (IsFieldNumber n → ⊥) → not (has_field_number (in_32_bits n)) ≡ true
bad_number n wrong = elim (in_32 n) [
  | inl small ↦ ap (λ (o : Option ℕ). not (has_field_number o)) small.0 ∙ go (has_field_number (Some n)) refl
  | inr large ↦ ap (λ (o : Option ℕ). not (has_field_number o)) large.0
]
  where
    go : (b : Bool) → has_field_number (Some n) ≡ b → not b ≡ true
    go false e = refl
    go true e = absurd (wrong (number_fits n e))

bad_index : (i n : ℕ) → i ≢ n → not (is_index (in_32_bits i) n) ≡ true
bad_index i n other = elim (in_32 i) [
  | inl small ↦ ap (λ (o : Option ℕ). not (is_index o n)) small.0 ∙ not_is (i == n) (ne_eqb i n other)
  | inr large ↦ ap (λ (o : Option ℕ). not (is_index o n)) large.0
]

-- ---- Duplicate

type_before : (fs : List TableLineForm) (b : NamesBefore) (g : TableLineForm) (n : List ℕ) → Fits fs b → Contains fs g → type_named g ≡ Some n → is_type_before b n ≡ true
type_before fs b (enum m) n s c e =
    let name = subst (λ (xs : List (List ℕ)). Contains xs n) s.enums (in_names enum_name fs (enum m) n c e) in
    left_true (is_among n b.enums) (is_among n b.messages) (contains_among n b.enums name)
type_before fs b (message m) n s c e =
    let name = subst (λ (xs : List (List ℕ)). Contains xs n) s.messages (in_names message_name fs (message m) n c e) in
    right_true (is_among n b.enums) (is_among n b.messages) (contains_among n b.messages name)
type_before fs b (value z m) n s c e = absurd cc
type_before fs b (field i l k m) n s c e = absurd cc
type_before fs b (method i sv m x y) n s c e = absurd cc

type_duplicate : (b : NamesBefore) (f : TableLineForm) (n : List ℕ) → type_named f ≡ Some n → is_type_before b n ≡ true → has_duplicate b (kept f) ≡ true
type_duplicate b (enum m) n e h = let same : m ≡ n = cc in subst (λ (w : List ℕ). is_type_before b w ≡ true) (sym same) h
type_duplicate b (message m) n e h = let same : m ≡ n = cc in subst (λ (w : List ℕ). is_type_before b w ≡ true) (sym same) h
type_duplicate b (value z m) n e h = absurd cc
type_duplicate b (field i l k m) n e h = absurd cc
type_duplicate b (method i s m x y) n e h = absurd cc

-- ---- UnknownType

message_unknown : (lines : List (List ℕ)) (n : List ℕ) → IsTrue (is_full_form n)
    → ((other : List ℕ) → Contains lines other → HasLineForm other (message n) → ⊥)
    → not (is_among n (types_of lines).messages) ≡ true
message_unknown lines n form none =
    not_is (is_among n (types_of lines).messages) (among_not n (types_of lines).messages (λ c.
    let r = named_in (without_prefix (codes "message ")) lines n c in
    none r.0 r.1 (behind_message r.0 n r.2 form)))

enum_unknown : (lines : List (List ℕ)) (n : List ℕ) → IsTrue (is_full_form n)
    → ((other : List ℕ) → Contains lines other → HasLineForm other (enum n) → ⊥)
    → not (is_among n (types_of lines).enums) ≡ true
enum_unknown lines n form none =
    not_is (is_among n (types_of lines).enums) (among_not n (types_of lines).enums (λ c.
    let r = named_in (without_prefix (codes "enum ")) lines n c in
    none r.0 r.1 (behind_enum r.0 n r.2 form)))

abbrev pub NoneSays : List (List ℕ) → TableLineForm → Type 0
NoneSays lines type = (other : List ℕ) → Contains lines other → HasLineForm other type → ⊥

kind_unknown : (lines : List (List ℕ)) (w : List ℕ) (k : KindWord) (type : TableLineForm) → KindIs w k
    → Contains (type_of_kind k) type → NoneSays lines type → is_unknown_kind (types_of lines) k ≡ true
kind_unknown lines w (kinds.Scalar k) type is c none = absurd (contains_nothing type c)
kind_unknown lines w (kinds.Message n) type is c none = elim (contains_cases (message n) type [] c) [
  | inl same ↦ message_unknown lines n is.1 (subst (NoneSays lines) (sym same) none)
  | inr more ↦ absurd (contains_nothing type more)
]
kind_unknown lines w (kinds.Choice n) type is c none = elim (contains_cases (enum n) type [] c) [
  | inl same ↦ enum_unknown lines n is.1 (subst (NoneSays lines) (sym same) none)
  | inr more ↦ absurd (contains_nothing type more)
]

label_unknown : (lines : List (List ℕ)) (w : List ℕ) (l : LabelWord) (type : TableLineForm) → LabelIs w l
    → Contains (types_of_label l) type → NoneSays lines type → is_unknown_label (types_of lines) l ≡ true
label_unknown lines w labels.Plain type is c none = absurd (contains_nothing type c)
label_unknown lines w labels.Optional type is c none = absurd (contains_nothing type c)
label_unknown lines w labels.Repeated type is c none = absurd (contains_nothing type c)
label_unknown lines w labels.Packed type is c none = absurd (contains_nothing type c)
label_unknown lines w (labels.Map key) type is c none = kind_unknown lines is.0 key type is.2 c none
label_unknown lines w (labels.Member o) type is c none = absurd (contains_nothing type c)

unknown_found : (lines : List (List ℕ)) (line : List ℕ) (f type : TableLineForm) → HasLineForm line f → Contains (types_used f) type
    → NoneSays lines type → has_unknown_type (types_of lines) (kept f) ≡ true
unknown_found lines line (enum n) type says c none = absurd (contains_nothing type c)
unknown_found lines line (value z n) type says c none = absurd (contains_nothing type c)
unknown_found lines line (message n) type says c none = absurd (contains_nothing type c)
unknown_found lines line (field i l k m) type says c none =
    let t = types_of lines in
    elim (Contains-append_cases (types_of_label l) (type_of_kind k) type c) [
      | inl label ↦ left_true (is_unknown_label t l) (is_unknown_kind t k) (label_unknown lines says.1 l type (label_is says.1 l says.5) label none)
      | inr kind ↦ right_true (is_unknown_label t l) (is_unknown_kind t k) (kind_unknown lines says.2 k type (kind_is says.2 k says.6) kind none)
    ]
unknown_found lines line (method i s n x y) type says c none =
    let ms = (types_of lines).messages in
    elim (contains_cases (message x) type (message y ∷ []) c) [
      | inl input ↦ left_true (not (is_among x ms)) (not (is_among y ms)) (message_unknown lines x says.5 (subst (NoneSays lines) (sym input) none))
      | inr more ↦ elim (contains_cases (message y) type [] more) [
        | inl output ↦ right_true (not (is_among x ms)) (not (is_among y ms)) (message_unknown lines y says.6 (subst (NoneSays lines) (sym output) none))
        | inr last ↦ absurd (contains_nothing type last)
      ]
    ]

-- ---- Limit

and_left : (a b : Bool) → a ≡ false → (a && b) ≡ false
and_left true b e = absurd cc
and_left false b e = refl

and_right : (a b : Bool) → b ≡ false → (a && b) ≡ false
and_right true b e = e
and_right false b e = refl

only : {X : Type 0} (x y : X) → Contains (x ∷ []) y → x ≡ y
only x y c = elim (contains_cases x y [] c) [ inl same ↦ same | inr none ↦ absurd (contains_nothing y none) ]

not_short : (n : List ℕ) → 64 < length n → is_short n ≡ false
not_short n long = elim (leb_tells (length n) 64) [ inl le ↦ absurd (omega (arith, le.1, long)) | inr gt ↦ gt.0 ]

member_long : (l : LabelWord) (n : List ℕ) → Contains (names_of_label l) n → is_short n ≡ false → is_short_label l ≡ false
member_long labels.Plain n c e = absurd (contains_nothing n c)
member_long labels.Optional n c e = absurd (contains_nothing n c)
member_long labels.Repeated n c e = absurd (contains_nothing n c)
member_long labels.Packed n c e = absurd (contains_nothing n c)
member_long (labels.Map key) n c e = absurd (contains_nothing n c)
member_long (labels.Member o) n c e = ap is_short (only o n c) ∙ e

kind_long : (k : KindWord) (n : List ℕ) → Contains (full_name_of_kind k) n → is_short_full n ≡ false → is_short_kind k ≡ false
kind_long (kinds.Scalar k) n c e = absurd (contains_nothing n c)
kind_long (kinds.Message m) n c e = ap is_short_full (only m n c) ∙ e
kind_long (kinds.Choice m) n c e = ap is_short_full (only m n c) ∙ e

label_long : (l : LabelWord) (n : List ℕ) → Contains (full_names_of_label l) n → is_short_full n ≡ false → is_short_label l ≡ false
label_long labels.Plain n c e = absurd (contains_nothing n c)
label_long labels.Optional n c e = absurd (contains_nothing n c)
label_long labels.Repeated n c e = absurd (contains_nothing n c)
label_long labels.Packed n c e = absurd (contains_nothing n c)
label_long (labels.Map key) n c e = kind_long key n c e
label_long (labels.Member o) n c e = absurd (contains_nothing n c)

names_long : (f : TableLineForm) (n : List ℕ) → Contains (names_in f) n → is_short n ≡ false → has_short_names (kept f) ≡ false
names_long (enum m) n c e = absurd (contains_nothing n c)
names_long (value z m) n c e = ap is_short (only m n c) ∙ e
names_long (message m) n c e = absurd (contains_nothing n c)
names_long (field i l k m) n c e = elim (contains_cases m n (names_of_label l) c) [
  | inl name ↦ and_right (is_short_label l && is_short_kind k) (is_short m) (ap is_short name ∙ e)
  | inr oneof ↦ and_left (is_short_label l && is_short_kind k) (is_short m) (and_left (is_short_label l) (is_short_kind k) (member_long l n oneof e))
]
names_long (method i s m x y) n c e =
    let short : is_short m ≡ false = ap is_short (only m n c) ∙ e in
    and_left ((is_short_full s && is_short m) && is_short_full x) (is_short_full y)
    (and_left (is_short_full s && is_short m) (is_short_full x) (and_right (is_short_full s) (is_short m) short))

full_names_long : (f : TableLineForm) (n : List ℕ) → Contains (full_names_in f) n → is_short_full n ≡ false → has_short_names (kept f) ≡ false
full_names_long (enum m) n c e = ap is_short_full (only m n c) ∙ e
full_names_long (value z m) n c e = absurd (contains_nothing n c)
full_names_long (message m) n c e = ap is_short_full (only m n c) ∙ e
full_names_long (field i l k m) n c e = elim (Contains-append_cases (full_names_of_label l) (full_name_of_kind k) n c) [
  | inl label ↦ and_left (is_short_label l && is_short_kind k) (is_short m) (and_left (is_short_label l) (is_short_kind k) (label_long l n label e))
  | inr kind ↦ and_left (is_short_label l && is_short_kind k) (is_short m) (and_right (is_short_label l) (is_short_kind k) (kind_long k n kind e))
]
full_names_long (method i s m x y) n c e = elim (contains_cases s n (x ∷ y ∷ []) c) [
  | inl service ↦
      and_left ((is_short_full s && is_short m) && is_short_full x) (is_short_full y)
      (and_left (is_short_full s && is_short m) (is_short_full x)
      (and_left (is_short_full s) (is_short m) (ap is_short_full service ∙ e)))
  | inr types ↦ elim (contains_cases x n (y ∷ []) types) [
    | inl input ↦ and_left ((is_short_full s && is_short m) && is_short_full x) (is_short_full y)
        (and_right (is_short_full s && is_short m) (is_short_full x) (ap is_short_full input ∙ e))
    | inr output ↦ and_right ((is_short_full s && is_short m) && is_short_full x) (is_short_full y) (ap is_short_full (only y n output) ∙ e)
  ]
]

-- ---- a line

-- a line of the right form is checked by its form
pub by_form : (t : TypeNames) (b : NamesBefore) (bytes : ℕ) (line : List ℕ) (f : TableLineForm) (q r : TableReason) → HasLineForm line f
    → r ≡ q → AtMost (line_fault t b bytes (Some (kept f))) q → AtMost (line_fault t b bytes (line_of line)) r
by_form t b bytes line f q r says e h =
    subst (λ (s : TableReason). AtMost (line_fault t b bytes (line_of line)) s) (sym e) (subst (λ (o : Option TableLine). AtMost (line_fault t b bytes o) q) (sym (says_line line f says)) h)

formless : (t : TypeNames) (b : NamesBefore) (bytes : ℕ) (line : List ℕ) → ((f : TableLineForm) → HasLineForm line f → ⊥) → (o : Option TableLine)
    → line_of line ≡ o → AtMost (line_fault t b bytes o) Syntax
formless t b bytes line none None e = record { reason = Syntax; is = refl; le = omega arith }
formless t b bytes line none (Some l) e = let said = line_said line l e in absurd (none said.form said.words)

pub stands_found : (lines : List (List ℕ)) (fs : List TableLineForm) (b : NamesBefore) (bytes : ℕ) (line : List ℕ) (r : TableReason)
    → Fits fs b → IsFaultyLine lines fs line r → AtMost (line_fault (types_of lines) b bytes (line_of line)) r
stands_found lines fs b bytes line r s (no_form none e) =
    subst (λ (q : TableReason). AtMost (line_fault (types_of lines) b bytes (line_of line)) q) (sym e) (formless (types_of lines) b bytes line none (line_of line) refl)
stands_found lines fs b bytes line r s (enum_after_message n other says c e) =
    let t = types_of lines in
    let name = subst (λ (xs : List (List ℕ)). Contains xs other) s.messages (in_names message_name fs (message other) other c refl) in
    let lacks = lacks_value b.open_part in
    by_form t b bytes line (enum n) Syntax r says e (at_syntax t b bytes (kept (enum n)) Syntax
    (left_true ((lacks || not (is_empty b.messages)) || not (is_empty b.methods)) (is_below_last n b.enums)
    (left_true (lacks || not (is_empty b.messages)) (not (is_empty b.methods)) (right_true lacks (not (is_empty b.messages)) (not_empty b.messages other name)))))
stands_found lines fs b bytes line r s (enum_after_method n m says c is e) =
    let t = types_of lines in
    let lacks = lacks_value b.open_part in
    by_form t b bytes line (enum n) Syntax r says e (at_syntax t b bytes (kept (enum n)) Syntax
    (left_true ((lacks || not (is_empty b.messages)) || not (is_empty b.methods)) (is_below_last n b.enums)
    (right_true (lacks || not (is_empty b.messages)) (not (is_empty b.methods)) (key_in fs b m s c is))))
stands_found lines fs b bytes line r s (message_after_method n m says c is e) =
    let t = types_of lines in
    let lacks = lacks_value b.open_part in
    by_form t b bytes line (message n) Syntax r says e (at_syntax t b bytes (kept (message n)) Syntax
    (left_true (lacks || not (is_empty b.methods)) (is_below_last n b.messages) (right_true lacks (not (is_empty b.methods)) (key_in fs b m s c is))))
stands_found lines fs b bytes line r s (enum_out_of_order n other says above less e) =
    let t = types_of lines in
    let falling = said_enum_falls fs b.enums b.open_part n other s.enums s.part above less in
    by_form t b bytes line (enum n) Syntax r says e (at_syntax t b bytes (kept (enum n)) Syntax
    (right_true ((lacks_value b.open_part || not (is_empty b.messages)) || not (is_empty b.methods)) (is_below_last n b.enums) falling))
stands_found lines fs b bytes line r s (message_out_of_order n other says above less e) =
    let t = types_of lines in
    let falling = said_message_falls fs b.messages b.open_part n other s.messages s.part above less in
    by_form t b bytes line (message n) Syntax r says e (at_syntax t b bytes (kept (message n)) Syntax
    (right_true (lacks_value b.open_part || not (is_empty b.methods)) (is_below_last n b.messages) falling))
stands_found lines fs b bytes line r s (value_outside z n says none e) =
    let t = types_of lines in
    by_form t b bytes line (value z n) Syntax r says e (at_syntax t b bytes (kept (value z n)) Syntax (outside_falls fs b.open_part (kept_whole z) n s.part none))
stands_found lines fs b bytes line r s (value_out_of_order z last n other says is_last less e) =
    let t = types_of lines in
    by_form t b bytes line (value z n) Syntax r says e (at_syntax t b bytes (kept (value z n)) Syntax (below_falls fs b.open_part z n (last, other) s.part is_last less))
stands_found lines fs b bytes line r s (field_outside i l k m says none e) =
    let t = types_of lines in
    by_form t b bytes line (field i l k m) Syntax r says e (at_syntax t b bytes (kept (field i l k m)) Syntax
    (right_true (clashes l k) (is_field_out_of_order b.open_part (in_32_bits i)) (outside_field_falls fs b.open_part (in_32_bits i) s.part none)))
stands_found lines fs b bytes line r s (field_out_of_order i last l l2 k k2 m other says is_last less e) =
    let t = types_of lines in
    by_form t b bytes line (field i l k m) Syntax r says e (at_syntax t b bytes (kept (field i l k m)) Syntax
    (right_true (clashes l k) (is_field_out_of_order b.open_part (in_32_bits i))
    (below_field_falls fs b.open_part i (record { number = last; label = l2; kind = k2; name = other }) s.part
    is_last less)))
stands_found lines fs b bytes line r s (optional_message i type m says e) =
    let t = types_of lines in
    by_form t b bytes line (field i labels.Optional (kinds.Message type) m) Syntax r says e (at_syntax t b bytes (kept (field i labels.Optional (kinds.Message type) m)) Syntax refl)
stands_found lines fs b bytes line r s (packed_no_number i k m says no_number e) =
    let t = types_of lines in
    by_form t b bytes line (field i labels.Packed k m) Syntax r says e (at_syntax t b bytes (kept (field i labels.Packed k m)) Syntax
    (left_true (not (is_packable_word k)) (is_field_out_of_order b.open_part (in_32_bits i)) (not_is (is_packable_word k) no_number)))
stands_found lines fs b bytes line r s (enum_without_value f says goes lacks e) =
    let t = types_of lines in
    by_form t b bytes line f Syntax r says e (at_syntax t b bytes (kept f) Syntax (lacking b f goes (said_lacks_value fs b.open_part s.part lacks)))
stands_found lines fs b bytes line r s (value_out_of_range z n says wrong e) =
    let t = types_of lines in
    by_form t b bytes line (value z n) Number r says e (at_number t b bytes (kept (value z n)) (out_of_range z wrong))
stands_found lines fs b bytes line r s (no_field_number i l k m says wrong e) =
    let t = types_of lines in
    by_form t b bytes line (field i l k m) Number r says e (at_number t b bytes (kept (field i l k m)) (bad_number i wrong))
stands_found lines fs b bytes line r s (index_out_of_turn i sv n x y says other e) =
    let t = types_of lines in
    let wrong : i ≢ length b.methods = λ same. other (same ∙ sym (methods_counted fs b s)) in
    by_form t b bytes line (method i sv n x y) Number r says e (at_number t b bytes (kept (method i sv n x y))
    (right_true (lacks_zero b.open_part) (not (is_index (in_32_bits i) (length b.methods))) (bad_index i (length b.methods) wrong)))
stands_found lines fs b bytes line r s (enum_without_zero f says goes lacks e) =
    let t = types_of lines in
    by_form t b bytes line f Number r says e (at_number t b bytes (kept f) (zeroless b f goes (said_lacks_zero fs b.open_part s.part lacks)))
stands_found lines fs b bytes line r s (type_twice f g n says is c of e) =
    let t = types_of lines in
    by_form t b bytes line f Duplicate r says e (at_duplicate t b bytes (kept f) (type_duplicate b f n is (type_before fs b g n s c of)))
stands_found lines fs b bytes line r s (value_twice z other n says above e) =
    let t = types_of lines in
    by_form t b bytes line (value z n) Duplicate r says e (elim (said_value_before fs b.open_part (kept_whole z) other n s.part above) [
      | inl falling ↦ at_syntax t b bytes (kept (value z n)) Duplicate falling
      | inr twice ↦ at_duplicate t b bytes (kept (value z n)) twice
    ])
stands_found lines fs b bytes line r s (field_twice i other l l2 k k2 m says above e) =
    let t = types_of lines in
    by_form t b bytes line (field i l k m) Duplicate r says e
    (elim (said_field_before fs b.open_part (in_32_bits i) (record {
      number = other;
      label = l2;
      kind = k2;
      name = m;
    }) s.part above) [
      | inl falling ↦ at_syntax t b bytes (kept (field i l k m)) Duplicate (right_true (clashes l k) (is_field_out_of_order b.open_part (in_32_bits i)) falling)
      | inr twice ↦ at_duplicate t b bytes (kept (field i l k m)) (left_true (is_field_before b.open_part m) (repeats_number b.open_part (in_32_bits i)) twice)
    ])
stands_found lines fs b bytes line r s (number_twice i l l2 k k2 m other says last e) =
    let t = types_of lines in
    by_form t b bytes line (field i l k m) Duplicate r says e (at_duplicate t b bytes (kept (field i l k m))
    (right_true (is_field_before b.open_part m) (repeats_number b.open_part (in_32_bits i))
    (said_repeats fs b.open_part (record { number = i; label = l2; kind = k2; name = other }) s.part last)))
stands_found lines fs b bytes line r s (method_twice i j sv n x y u v says c e) =
    let t = types_of lines in
    let key = subst (λ (xs : List (List ℕ)). Contains xs (sv ++ 32 ∷ n)) s.methods (in_names method_key_of fs (method j sv n u v) (sv ++ 32 ∷ n) c refl) in
    by_form t b bytes line (method i sv n x y) Duplicate r says e (at_duplicate t b bytes (kept (method i sv n x y)) (contains_among (sv ++ 32 ∷ n) b.methods key))
stands_found lines fs b bytes line r s (unknown_type f type says c none e) =
    let t = types_of lines in
    by_form t b bytes line f UnknownType r says e (at_unknown t b bytes (kept f) (unknown_found lines line f type says c none))
stands_found lines fs b bytes line r s (map_key i key k m says no_way e) =
    let t = types_of lines in
    by_form t b bytes line (field i (labels.Map key) k m) MapKey r says e (at_map_key t b bytes (kept (field i (labels.Map key) k m)) (not_is (is_key_kind key) no_way))
stands_found lines fs b bytes line r s (long_name f n says c long e) =
    let t = types_of lines in
    by_form t b bytes line f Limit r says e (at_long t b bytes (kept f) (names_long f n c (not_short n long)))
stands_found lines fs b bytes line r s (long_full_name f n says c long e) =
    let t = types_of lines in
    by_form t b bytes line f Limit r says e (at_long t b bytes (kept f) (full_names_long f n c long))
stands_found lines fs b bytes line r s (too_many_enums n says many e) =
    let t = types_of lines in
    by_form t b bytes line (enum n) Limit r says e (at_full t b bytes (kept (enum n)) (le-leb 256 (length b.enums) (omega (arith, many, enums_counted fs b s))))
stands_found lines fs b bytes line r s (too_many_messages n says many e) =
    let t = types_of lines in
    by_form t b bytes line (message n) Limit r says e (at_full t b bytes (kept (message n)) (le-leb 256 (length b.messages) (omega (arith, many, messages_counted fs b s))))
stands_found lines fs b bytes line r s (too_many_methods i sv n x y says many e) =
    let t = types_of lines in
    by_form t b bytes line (method i sv n x y) Limit r says e (at_full t b bytes (kept (method i sv n x y)) (le-leb 256 (length b.methods) (omega (arith, many, methods_counted fs b s))))
stands_found lines fs b bytes line r s (too_many_values z n says many e) =
    let t = types_of lines in
    by_form t b bytes line (value z n) Limit r says e (at_full t b bytes (kept (value z n)) (said_many fs b.open_part 1024 (omega arith) s.part many))
stands_found lines fs b bytes line r s (too_many_fields i l k m says many e) =
    let t = types_of lines in
    by_form t b bytes line (field i l k m) Limit r says e (at_full t b bytes (kept (field i l k m)) (said_many fs b.open_part 128 (omega arith) s.part many))
