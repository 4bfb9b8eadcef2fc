-- A file alone has at most one first violation.
use Rattle.std.proofs.Common.{◌≡◌, ℕ, ◌≤◌, inl, inr, List, sym, ap, ◌∙◌, subst, arith}
use Rattle.std.proofs.lemmas.Option.{same_Some}
use Rattle.proto_ast.specs.Joined.{Joined, alone}
use Rattle.proto_ast.specs.declared.file.Span.{Span}
use Rattle.proto_ast.specs.declared.file.Import.{Import}
use Rattle.proto_ast.specs.declared.file.FieldDecl.{FieldDecl}
use Rattle.proto_ast.specs.declared.file.MessageDecl.{MessageDecl}
use Rattle.proto_ast.specs.declared.file.EnumDecl.{EnumDecl}
use Rattle.proto_ast.specs.declared.file.RpcDecl.{RpcDecl}
use Rattle.proto_ast.specs.declared.file.Word.{Word}
use Rattle.proto_ast.specs.declared.file.File.{File}
use Rattle.schema_validation.specs.Members
use Rattle.schema_validation.specs.Members.{Is, IsKeyViolation, IsTypeViolation, IsNumberViolation, IsValueViolation, IsNameViolation, IsMessageViolation, IsEnumViolation, IsMethodViolation}
use Rattle.schema_validation.specs.Violations
use Rattle.schema_validation.specs.Violations.{IsViolated, IsFileViolation, offends, has_import, violation_rank, IsNoLaterViolation, HasFirstFileViolation, HasFirstViolation}
use Rattle.schema_validation.specs.declared.reason.ResolveReason.{ResolveReason}
use Rattle.schema_validation.specs.declared.reason.ResolveReason.TheVariants.{UnknownName, NumberRange, DuplicateNumber, DuplicateName, Reserved, FirstEnum, MapKey, MapPlace, Limit}

-- ---- no violation of files that are resolved together is an import

ranked : (r q : ResolveReason) (span s : Span) → violation_rank r ≤ 9 → Is r span q s → violation_rank q ≤ 9
ranked r q span s l is = subst (λ (x : ResolveReason). violation_rank x ≤ 9) (sym is.0) l

key_ranked : {F : Joined} {file : ℕ} {scope : List (List ℕ)} {key : Word} {q : ResolveReason} {s : Span}
    → IsKeyViolation F file scope key q s → violation_rank q ≤ 9
key_ranked {q = q} {s = s} (Members.unknown_key n) = ranked UnknownName q _ s (omega arith) n.is
key_ranked {q = q} {s = s} (Members.scalar_key k a b is) = ranked MapKey q _ s (omega arith) is
key_ranked {q = q} {s = s} (Members.type_key sort full a b is) = ranked MapKey q _ s (omega arith) is

type_ranked : {F : Joined} {file : ℕ} {scope : List (List ℕ)} {f : FieldDecl} {q : ResolveReason} {s : Span}
    → IsTypeViolation F file scope f q s → violation_rank q ≤ 9
type_ranked {q = q} {s = s} (Members.unknown_type w e n) = ranked UnknownName q _ s (omega arith) n.is
type_ranked (Members.bad_key k v e o) = key_ranked o
type_ranked (Members.bad_outer_key k e o) = key_ranked o
type_ranked {q = q} {s = s} (Members.unknown_value k v e n) = ranked UnknownName q _ s (omega arith) n.is
type_ranked {q = q} {s = s} (Members.misplaced m is) = ranked MapPlace q _ s (omega arith) is

number_ranked : {m : MessageDecl} {i : ℕ} {q : ResolveReason} {s : Span} → IsNumberViolation m i q s → violation_rank q ≤ 9
number_ranked {q = q} {s = s} (Members.number_out_of_range f at none is) = ranked NumberRange q _ s (omega arith) is
number_ranked {q = q} {s = s} (Members.number_met_before f g j at l b e is) =
    ranked DuplicateNumber q _ s (omega arith) is
number_ranked {q = q} {s = s} (Members.number_reserved f at r is) = ranked Reserved q _ s (omega arith) is

value_ranked : {e : EnumDecl} {i : ℕ} {q : ResolveReason} {s : Span} → IsValueViolation e i q s → violation_rank q ≤ 9
value_ranked {q = q} {s = s} (Members.value_out_of_range v at none is) = ranked NumberRange q _ s (omega arith) is
value_ranked {q = q} {s = s} (Members.value_reserved v at r is) = ranked Reserved q _ s (omega arith) is
value_ranked {q = q} {s = s} (Members.first_not_zero v at z n is) = ranked FirstEnum q _ s (omega arith) is

name_ranked : {names : List Word} {limit i : ℕ} {w : Word} {q : ResolveReason} {s : Span}
    → IsNameViolation names limit i w q s → violation_rank q ≤ 9
name_ranked {q = q} {s = s} (Members.name_reserved r is) = ranked Reserved q _ s (omega arith) is
name_ranked {q = q} {s = s} (Members.name_long l) = ranked Limit q _ s (omega arith) l.1
name_ranked {q = q} {s = s} (Members.name_too_many l is) = ranked Limit q _ s (omega arith) is

message_ranked : {F : Joined} {file : ℕ} {scope : List (List ℕ)} {n : ℕ} {m : MessageDecl} {q : ResolveReason} {s : Span}
    → IsMessageViolation F file scope n m q s → violation_rank q ≤ 9
message_ranked {q = q} {s = s} (Members.too_many_messages l is) = ranked Limit q _ s (omega arith) is
message_ranked {q = q} {s = s} (Members.long_message l) = ranked Limit q _ s (omega arith) l.1
message_ranked (Members.of_type i f at o) = type_ranked o
message_ranked (Members.of_number i o) = number_ranked o
message_ranked (Members.of_name i f at o) = name_ranked o
message_ranked {q = q} {s = s} (Members.of_oneof i o at l) = ranked Limit q _ s (omega arith) l.1

enum_ranked : {n : ℕ} {e : EnumDecl} {q : ResolveReason} {s : Span} → IsEnumViolation n e q s → violation_rank q ≤ 9
enum_ranked {q = q} {s = s} (Members.too_many_enums l is) = ranked Limit q _ s (omega arith) is
enum_ranked {q = q} {s = s} (Members.long_enum l) = ranked Limit q _ s (omega arith) l.1
enum_ranked (Members.of_value i o) = value_ranked o
enum_ranked (Members.of_value_name i v at o) = name_ranked o

method_ranked : {F : Joined} {file : ℕ} {scope : List (List ℕ)} {n : ℕ} {r : RpcDecl} {q : ResolveReason} {s : Span}
    → IsMethodViolation F file scope n r q s → violation_rank q ≤ 9
method_ranked {q = q} {s = s} (Members.too_many_methods l is) = ranked Limit q _ s (omega arith) is
method_ranked {q = q} {s = s} (Members.long_method l) = ranked Limit q _ s (omega arith) l.1
method_ranked {q = q} {s = s} (Members.no_input n is) = ranked UnknownName q _ s (omega arith) is
method_ranked {q = q} {s = s} (Members.no_output n is) = ranked UnknownName q _ s (omega arith) is

offence_ranked : {F : Joined} {q : ResolveReason} {s : Span} → IsViolated F q s → violation_rank q ≤ 9
offence_ranked (Violations.of_message i m at up o) = message_ranked o
offence_ranked (Violations.of_enum i e at o) = enum_ranked o
offence_ranked {q = q} {s = s} (Violations.of_service i x at l) = ranked Limit q _ s (omega arith) l.1
offence_ranked (Violations.of_method i x r at o) = method_ranked o
offence_ranked {q = q} {s = s} (Violations.of_package k h w at e l is) = ranked Limit q _ s (omega arith) is
offence_ranked {q = q} {s = s} (Violations.twice span t is) = ranked DuplicateName q _ s (omega arith) is
offence_ranked {q = q} {s = s} (Violations.long_in_full span l is) = ranked Limit q _ s (omega arith) is
offence_ranked {q = q} {s = s} (Violations.long_text span p is) = ranked Limit q _ s (omega arith) is

-- ---- the first violation is unique

-- an import and another violation never both come first
import_alone : (q r : ResolveReason) (s t : Span) → violation_rank q ≤ 9 → violation_rank r ≡ 10 → IsNoLaterViolation q s r t
    → IsNoLaterViolation r t q s → ⊥
import_alone q r s t l e (inl a) (inl b) = omega arith
import_alone q r s t l e (inl a) (inr b) = let c : t.start ≡ s.start = b.0 in omega arith
import_alone q r s t l e (inr a) (inl b) = let c : s.start ≡ t.start = a.0 in omega arith
import_alone q r s t l e (inr a) (inr b) = let c : violation_rank r ≤ violation_rank q = b.1 in omega arith

abbrev pub IsOneFirst : Joined → Type 0
IsOneFirst F = (q r : ResolveReason) (s t : Span) → HasFirstViolation F q s → HasFirstViolation F r t → (q ≡ r) × (s ≡ t)

one_of : (F : File) (q r : ResolveReason) (s t : Span) → IsOneFirst (alone F) → IsFileViolation F q s → IsFileViolation F r t
    → ((p : ResolveReason) (u : Span) → IsFileViolation F p u → IsNoLaterViolation q s p u)
    → ((p : ResolveReason) (u : Span) → IsFileViolation F p u → IsNoLaterViolation r t p u) → (q ≡ r) × (s ≡ t)
one_of F q r s t one (offends a) (offends b) f g =
    one q r s t (record { offence = a; first = λ p u o. f p u (offends o) })
    (record { offence = b; first = λ p u o. g p u (offends o) })
one_of F q r s t one (offends a) (has_import y at is) f g =
    absurd (import_alone q r s t (offence_ranked a) (ap violation_rank is.0) (f r t (has_import y at is)) (g q s (offends a)))
one_of F q r s t one (has_import x at is) (offends b) f g =
    absurd (import_alone r q t s (offence_ranked b) (ap violation_rank is.0) (g q s (has_import x at is)) (f r t (offends b)))
one_of F q r s t one (has_import x at is) (has_import y at2 is2) f g =
    let e : x ≡ y = same_Some x y (sym at ∙ at2) in
    (is.0 ∙ sym is2.0, is.1 ∙ ap (λ (z : Import). z.span) e ∙ sym is2.1)

pub one_offence_of : (F : File) (q r : ResolveReason) (s t : Span) → IsOneFirst (alone F) → HasFirstFileViolation F q s
    → HasFirstFileViolation F r t → (q ≡ r) × (s ≡ t)
one_offence_of F q r s t one a b = one_of F q r s t one a.offence b.offence a.first b.first
