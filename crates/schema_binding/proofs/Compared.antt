-- The results of tests of names.
use Rattle.std.proofs.Common.{◌≡◌, ℕ, ◌<◌, ◌↔◌, Bool, List, [], ◌++◌, codes, length, get_or, Option, sym, ap, ◌∙◌}
use Rattle.std.specs.Prelude.{IsTrue, option_map, slice_get, unwrap_or}
use Rattle.std.specs.Str.{bytes_eq}
use Rattle.std.proofs.lemmas.Option.{slice_get-get_or}
use Rattle.std.proofs.lemmas.Slice.Eq.{bytes_eq-Decides}
use Rattle.mrpc_table.specs.Text.{message_name, enum_name, label_text}
use Rattle.mrpc_table.specs.declared.table.Choices.{Choices}
use Rattle.mrpc_table.specs.declared.table.Label.TheVariants.{Member}
use Rattle.mrpc_table.specs.declared.table.Message.{Message}
use Rattle.mrpc_table.specs.declared.table.Table.{Table}
use Rattle.schema_binding.proofs.KindTexts.{one_oneof}
use Rattle.schema_binding.proofs.Order.{message_name_is}

-- ---- tests

-- `==` on two texts decides whether two lists that equal them are equal
pub equal_texts : (xs ys a b : List ℕ) (r : Bool) → a ≡ xs → b ≡ ys → r ≡ bytes_eq xs ys → IsTrue r ↔ (a ≡ b)
equal_texts xs ys a b r is_a is_b e = (
  λ h. is_a ∙ (bytes_eq-Decides xs ys).0 (sym e ∙ h) ∙ sym is_b,
  λ same. e ∙ (bytes_eq-Decides xs ys).1 (sym is_a ∙ same ∙ is_b),
)

pub both_ways : (r : Bool) (P Q : Type 0) → (P → Q) → (Q → P) → IsTrue r ↔ P → IsTrue r ↔ Q
both_ways r P Q there back h = (λ e. there (h.0 e), λ q. h.1 (back q))

-- ---- names

pub named : (T : Table) (i : ℕ) (m : Message) (ms : List Message) → ms ≡ T.messages → i < length T.messages → m ≡ get_or ms i m → message_name T i ≡ m.name
named T i m ms all within at = message_name_is T i m within ∙ ap (λ (n : Message). n.name) (ap (λ (ns : List Message). get_or ns i m) (sym all) ∙ sym at)

pub named_enum : (T : Table) (i : ℕ) (e : Choices) (es : List Choices) → es ≡ T.enums → i < length T.enums → e ≡ get_or es i e → enum_name T i ≡ e.name
named_enum T i e es all within at =
    ap (λ o. unwrap_or (option_map (λ (n : Choices). n.name) o) []) (slice_get-get_or T.enums i e within)
    ∙ ap (λ (n : Choices). n.name) (ap (λ (ns : List Choices). get_or ns i e) (sym all) ∙ sym at)

pub named_oneof : (os : List (List ℕ)) (o : ℕ) (name : List ℕ) (ns : List (List ℕ)) → ns ≡ os → o < length os
    → name ≡ get_or ns o name → unwrap_or (slice_get os o) [] ≡ name
named_oneof os o name ns all within at =
    ap (λ (p : Option (List ℕ)). unwrap_or p []) (slice_get-get_or os o name within) ∙ ap (λ (ms : List (List ℕ)). get_or ms o name) (sym all) ∙ sym at

pub same_oneofs : (T U : Table) (os ps : List (List ℕ)) (o p : ℕ) (r : Bool) → IsTrue r ↔ (unwrap_or (slice_get os o) [] ≡ unwrap_or (slice_get ps p) [])
    → IsTrue r ↔ (label_text T os (Member o) ≡ label_text U ps (Member p))
same_oneofs T U os ps o p r h =
    both_ways r (unwrap_or (slice_get os o) [] ≡ unwrap_or (slice_get ps p) []) (label_text T os (Member o) ≡ label_text U ps (Member p))
    (ap (λ (name : List ℕ). codes "oneof:" ++ name)) (one_oneof T U os ps o p) h
