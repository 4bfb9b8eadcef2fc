-- The violation that is kept after all are recorded is the first one.
use Rattle.std.proofs.Common.{◌≡◌, ◌⊎◌, inl, inr, refl, sym, ◌∙◌, subst}
use Rattle.std.specs.Prelude.{Option, Some, None, slice_get}
use Rattle.std.proofs.lemmas.Option.{same_Some, none-some}
use Rattle.proto_ast.specs.declared.file.Span.{Span}
use Rattle.proto_ast.specs.declared.file.Import.{Import}
use Rattle.proto_ast.specs.declared.file.File.{File}
use Rattle.proto_ast.specs.Joined.{Joined, alone}
use Rattle.schema_validation.specs.Members.{Is}
use Rattle.schema_validation.specs.Violations
use Rattle.schema_validation.specs.Violations.{IsViolated, IsFileViolation, IsFirstViolation, IsFirstFileViolation}
use Rattle.schema_validation.specs.Recording.{first_violation_of, IsKeptBefore, HasRecorded}
use Rattle.schema_validation.specs.declared.reason.ResolveReason.{ResolveReason}
use Rattle.schema_validation.specs.declared.reason.ResolveReason.TheVariants.{Import as HasImport}
use Rattle.schema_validation.specs.declared.first.Violation.{Violation}
use Rattle.schema_validation.specs.declared.first.FirstViolation.{FirstViolation}
use Rattle.schema_validation.proofs.Meetings.{meets_noted, meets_kept, meets_then, meets_as, kept_is_one, kept_is_first, kept_is_none}

first_at : (F : Joined) (a b : FirstViolation) (found : Option Violation) → b.found ≡ found → a.found ≡ None
    → HasRecorded (IsViolated F) a b → IsFirstViolation F found
first_at F a b None e none m = λ q s p. kept_is_none (IsViolated F) a b m e q s p
first_at F a b (Some o) e none m = record {
  offence = kept_is_one (IsViolated F) a b o none m e;
  first = λ r t p. kept_is_first (IsViolated F) a b o m e r t p;
}

pub first_is : (F : Joined) (a b : FirstViolation) → a.found ≡ None → HasRecorded (IsViolated F) a b → IsFirstViolation F b.found
first_is F a b none m = first_at F a b b.found refl none m

-- ---- a file alone

abbrev pub ImportOffends : File → ResolveReason → Span → Type 0
ImportOffends F q s = (x : Import) × (slice_get F.imports 0 ≡ Some x) × Is HasImport x.span q s

pub meets_import : (F : File) (x : Import) (a b : FirstViolation) → slice_get F.imports 0 ≡ Some x
    → b.found ≡ Some (first_violation_of a.found (record { reason = HasImport; span = x.span })) → HasRecorded (ImportOffends F) a b
meets_import F x a b at is =
    meets_as (Is HasImport x.span) (ImportOffends F) a b (meets_noted HasImport x.span a b is) (λ q s p. (x, at, p))
    (λ q s p. subst (λ (y : Import). Is HasImport y.span q s) (same_Some p.0 x (sym p.1 ∙ at)) p.2)

pub meets_no_import : (F : File) (a b : FirstViolation) → slice_get F.imports 0 ≡ None → b.found ≡ a.found
    → HasRecorded (ImportOffends F) a b
meets_no_import F a b none is =
    meets_kept (ImportOffends F) a b (λ q s p. none-some p.0 (sym none ∙ p.1)) is

nothing : FirstViolation
nothing = record { found = None }

-- the first violation is recorded
met_at : (F : Joined) (a : FirstViolation) (found : Option Violation) → a.found ≡ found → IsFirstViolation F found
    → HasRecorded (IsViolated F) nothing a
unfolding nothing
met_at F a None e none = record {
  one = λ o k. absurd (none-some o (sym e ∙ k));
  first = λ q s p. absurd (none q s p);
  before = λ o k. absurd (none-some o k);
}
met_at F a (Some f) e h = record {
  one = λ o k. inr (subst (λ (x : Violation). IsViolated F x.reason x.span) (same_Some f o (sym e ∙ k)) h.offence);
  first = λ q s p. subst (λ (g : Option Violation). IsKeptBefore g q s) (sym e) (h.first q s p);
  before = λ o k. absurd (none-some o k);
}

alone_to : (F : File) (q : ResolveReason) (s : Span) → (IsViolated (alone F) q s ⊎ ImportOffends F q s) → IsFileViolation F q s
alone_to F q s (inl p) = Violations.offends p
alone_to F q s (inr p) = Violations.has_import p.0 p.1 p.2

alone_from : (F : File) (q : ResolveReason) (s : Span) → IsFileViolation F q s → IsViolated (alone F) q s ⊎ ImportOffends F q s
alone_from F q s (Violations.offends p) = inl p
alone_from F q s (Violations.has_import x at is) = inr (x, at, is)

file_first_at : (F : File) (a b : FirstViolation) (found : Option Violation) → b.found ≡ found → a.found ≡ None
    → HasRecorded (IsFileViolation F) a b → IsFirstFileViolation F found
file_first_at F a b None e none m = λ q s p. kept_is_none (IsFileViolation F) a b m e q s p
file_first_at F a b (Some o) e none m = record {
  offence = kept_is_one (IsFileViolation F) a b o none m e;
  first = λ r t p. kept_is_first (IsFileViolation F) a b o m e r t p;
}

-- the first violation of a file alone, after its first import is recorded
pub file_first_is : (F : File) (a b : FirstViolation) → IsFirstViolation (alone F) a.found → HasRecorded (ImportOffends F) a b
    → IsFirstFileViolation F b.found
unfolding nothing
file_first_is F a b is m =
    file_first_at F nothing b b.found refl refl
    (meets_as (λ q s. IsViolated (alone F) q s ⊎ ImportOffends F q s) (IsFileViolation F) nothing b
    (meets_then (IsViolated (alone F)) (ImportOffends F) nothing a b (met_at (alone F) a a.found refl is) m)
    (alone_to F) (alone_from F))
