-- The tokens that complete a name, by how much of it is read: together they are a name.
use Rattle.std.proofs.Common.{subst, ◌≡◌, ℕ, false, List, [], ◌∷◌, ◌++◌, codes, refl, ap, sym}
use Rattle.std.specs.Prelude.{Ok, Err, Result}
use Rattle.std.proofs.lemmas.List.{append_assoc}
use Rattle.proto_ast.specs.Dot.{dot}
use Rattle.proto_grammar.specs.Lexemes.{Lexeme, span_to, make_word, dotted_name, rooted, IsWord, IsPunctuator, is_the_word}
use Rattle.proto_grammar.specs.Grammar.{IsDottedName, one, more, IsTypeName, relative, absolute, starts_with_word, group_word}
use Rattle.proto_grammar.specs.Advancing.{is_punctuator, name_part, advance_full_name, advance_type_name, advance_field_type_name, proto_fault_at}
use Rattle.proto_schema.proofs.Choices.{either_is, named_is}
use Rattle.proto_schema.proofs.NameLemmas.{mark_is}
use Rattle.proto_ast.specs.declared.file.Span.{Span}
use Rattle.proto_ast.specs.declared.file.Word.{Word}
use Rattle.proto_grammar.specs.declared.fault.ProtoFault.{ProtoFault}
use Rattle.proto_grammar.specs.declared.fault.ProtoReason.TheVariants as reasons
use Rattle.proto_grammar.specs.declared.name.NameState.{NameState}
use Rattle.proto_grammar.specs.declared.name.NameState.TheVariants as names
use Rattle.proto_grammar.specs.declared.name.NameStep.{NameStep}
use Rattle.proto_grammar.specs.declared.name.NameStep.TheVariants as steps

-- a name after another and a dot
abbrev pub behind_dot : Word → Word → Word
behind_dot v w = make_word (v.name ++ dot ∷ w.name) (span_to v.span w.span)

-- nothing, or a dot and further names
pub data PartRest (v : Word) : List Lexeme → Word → Type 0 where
  ends : PartRest v [] v
  goes_on : (x : Lexeme) {ys : List Lexeme} {w : Word} → IsPunctuator x dot → IsDottedName ys w
      → PartRest v (x ∷ ys) (behind_dot v w)

abbrev pub FullRest : NameState → List Lexeme → Word → Type 0
FullRest names.Start ys w = IsDottedName ys w
FullRest (names.Rooted s) ys w = (u : Word) × IsDottedName ys u × (rooted s u ≡ w)
FullRest (names.Part v) ys w = PartRest v ys w
FullRest (names.Dot v) ys w = (u : Word) × IsDottedName ys u × (behind_dot v u ≡ w)

-- the step of a token is right: what completes the name after it completes it with the token
abbrev pub NameBack : (NameState → List Lexeme → Word → Type 0) → NameState → Lexeme → Result NameStep ProtoFault
    → Type 0
NameBack R s x (Ok (steps.More t)) = (ys : List Lexeme) (w : Word) → R t ys w → R s (x ∷ ys) w
NameBack R s x (Ok (steps.Whole w)) = R s [] w
NameBack R s x (Err e) = Unit {0}

pub from_start : (x : Lexeme) (n : List ℕ) → IsWord x n → (ys : List Lexeme) (w : Word)
    → PartRest (make_word n x.span) ys w → IsDottedName (x ∷ ys) w
from_start x n h ys w ends = one x n h
from_start x n h ys w (goes_on y {ys = zs} {w = u} d f) = more x y n zs u h d f

pub from_root : (s : Span) (x : Lexeme) (n : List ℕ) → IsWord x n → (ys : List Lexeme) (w : Word)
    → PartRest (make_word (dot ∷ n) (span_to s x.span)) ys w → (u : Word) × IsDottedName (x ∷ ys) u × (rooted s u ≡ w)
from_root s x n h ys w ends = (make_word n x.span, one x n h, refl)
from_root s x n h ys w (goes_on y {ys = zs} {w = u} d f) = (dotted_name n x.span u, more x y n zs u h d f, refl)

pub from_dot : (v : Word) (x : Lexeme) (n : List ℕ) → IsWord x n → (ys : List Lexeme) (w : Word)
    → PartRest (make_word (v.name ++ dot ∷ n) (span_to v.span x.span)) ys w
    → (u : Word) × IsDottedName (x ∷ ys) u × (behind_dot v u ≡ w)
from_dot v x n h ys w ends = (make_word n x.span, one x n h, refl)
from_dot v x n h ys w (goes_on y {ys = zs} {w = u} d f) =
    (dotted_name n x.span u, more x y n zs u h d f, ap (λ (b : List ℕ). make_word b (span_to v.span u.span)) (sym (append_assoc v.name (dot ∷ n) (dot ∷ u.name))))

pub from_part : (v : Word) (x : Lexeme) → IsPunctuator x dot → (ys : List Lexeme) (w : Word)
    → (u : Word) × IsDottedName ys u × (behind_dot v u ≡ w) → PartRest v (x ∷ ys) w
from_part v x d ys w (u, f, e) = subst (λ (w : Word). PartRest v (x ∷ ys) w) e (goes_on x d f)

pub full_back : (s : NameState) (x : Lexeme) → NameBack FullRest s x (advance_full_name s x)
unfolding advance_full_name
full_back names.Start x = named_is (NameBack FullRest names.Start x) x (λ n. name_part n x.span) (λ n h. from_start x n h) tt
full_back (names.Rooted s) x = named_is (NameBack FullRest (names.Rooted s) x) x (λ n. name_part (dot ∷ n) (span_to s x.span)) (λ n h. from_root s x n h) tt
full_back (names.Part v) x =
    either_is (NameBack FullRest (names.Part v) x) (is_punctuator x.means dot) (Ok (steps.More (names.Dot v))) (Ok (steps.Whole v)) (λ e. from_part v x (mark_is x.means dot e)) (λ e. ends)
full_back (names.Dot v) x = named_is (NameBack FullRest (names.Dot v) x) x (λ n. name_part (v.name ++ dot ∷ n) (span_to v.span x.span)) (λ n h. from_dot v x n h) tt

-- ---- a type's name

abbrev pub TypeRest : NameState → List Lexeme → Word → Type 0
TypeRest names.Start ys w = IsTypeName ys w
TypeRest (names.Rooted s) ys w = (u : Word) × IsDottedName ys u × (rooted s u ≡ w)
TypeRest (names.Part v) ys w = PartRest v ys w
TypeRest (names.Dot v) ys w = (u : Word) × IsDottedName ys u × (behind_dot v u ≡ w)

pub from_top : (x : Lexeme) → IsPunctuator x dot → (ys : List Lexeme) (w : Word)
    → (u : Word) × IsDottedName ys u × (rooted x.span u ≡ w) → IsTypeName (x ∷ ys) w
from_top x d ys w (u, f, e) = subst (λ (w : Word). IsTypeName (x ∷ ys) w) e (absolute x d f)

pub type_back : (s : NameState) (x : Lexeme) → NameBack TypeRest s x (advance_type_name s x)
unfolding advance_full_name
type_back names.Start x =
    either_is (NameBack TypeRest names.Start x) (is_punctuator x.means dot) (Ok (steps.More (names.Rooted x.span))) (advance_full_name names.Start x) (λ e. from_top x (mark_is x.means dot e))
    (λ e. named_is (NameBack TypeRest names.Start x) x (λ n. name_part n x.span) (λ n h. λ ys w r. relative (from_start x n h ys w r)) tt)
type_back (names.Rooted s) x = named_is (NameBack TypeRest (names.Rooted s) x) x (λ n. name_part (dot ∷ n) (span_to s x.span)) (λ n h. from_root s x n h) tt
type_back (names.Part v) x =
    either_is (NameBack TypeRest (names.Part v) x) (is_punctuator x.means dot) (Ok (steps.More (names.Dot v))) (Ok (steps.Whole v)) (λ e. from_part v x (mark_is x.means dot e)) (λ e. ends)
type_back (names.Dot v) x = named_is (NameBack TypeRest (names.Dot v) x) x (λ n. name_part (v.name ++ dot ∷ n) (span_to v.span x.span)) (λ n h. from_dot v x n h) tt

-- ---- a type's name that doesn't start with `group`

abbrev pub TypedRest : NameState → List Lexeme → Word → Type 0
TypedRest names.Start ys w = (IsTypeName ys w) × (starts_with_word group_word ys ≡ false)
TypedRest (names.Rooted s) ys w = (u : Word) × IsDottedName ys u × (rooted s u ≡ w)
TypedRest (names.Part v) ys w = PartRest v ys w
TypedRest (names.Dot v) ys w = (u : Word) × IsDottedName ys u × (behind_dot v u ≡ w)

pub no_group : (x : Lexeme) (ys : List Lexeme) → is_the_word x.means (codes "group") ≡ false
    → starts_with_word group_word (x ∷ ys) ≡ false
no_group x ys h = rw h refl

typed_is_type : (t : NameState) (ys : List Lexeme) (w : Word) → TypedRest t ys w → TypeRest t ys w
typed_is_type names.Start ys w h = h.0
typed_is_type (names.Rooted s) ys w h = h
typed_is_type (names.Part v) ys w h = h
typed_is_type (names.Dot v) ys w h = h

-- after a first token that isn't `group`
start_typed : (x : Lexeme) (r : Result NameStep ProtoFault) → is_the_word x.means (codes "group") ≡ false
    → NameBack TypeRest names.Start x r → NameBack TypedRest names.Start x r
start_typed x (Ok (steps.More t)) h b = λ ys w k. (b ys w (typed_is_type t ys w k), no_group x ys h)
start_typed x (Ok (steps.Whole w)) h b = (b, refl)
start_typed x (Err e) h b = tt

pub typed_back : (s : NameState) (x : Lexeme) → NameBack TypedRest s x (advance_field_type_name s x)
unfolding advance_full_name
typed_back names.Start x =
    either_is (NameBack TypedRest names.Start x) (is_the_word x.means (codes "group")) (Err (proto_fault_at reasons.Group x.span)) (advance_type_name names.Start x) (λ e. tt)
    (λ e. start_typed x (advance_type_name names.Start x) e (type_back names.Start x))
typed_back (names.Rooted s) x = named_is (NameBack TypedRest (names.Rooted s) x) x (λ n. name_part (dot ∷ n) (span_to s x.span)) (λ n h. from_root s x n h) tt
typed_back (names.Part v) x =
    either_is (NameBack TypedRest (names.Part v) x) (is_punctuator x.means dot) (Ok (steps.More (names.Dot v))) (Ok (steps.Whole v)) (λ e. from_part v x (mark_is x.means dot e)) (λ e. ends)
typed_back (names.Dot v) x = named_is (NameBack TypedRest (names.Dot v) x) x (λ n. name_part (v.name ++ dot ∷ n) (span_to v.span x.span)) (λ n h. from_dot v x n h) tt
