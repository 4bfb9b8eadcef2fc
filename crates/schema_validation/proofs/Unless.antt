-- A violation that is recorded if a result is missing.
use Rattle.std.proofs.Common.{◌≡◌, Bool, true, false, cond, not, refl, subst}
use Rattle.std.specs.Prelude.{Option, Some, None, is_some, IfSome, IfNone, MatchOption}
use Rattle.proto_ast.specs.declared.file.Span.{Span}
use Rattle.schema_validation.specs.Members.{Is}
use Rattle.schema_validation.specs.Recording.{first_violation_of, HasRecorded}
use Rattle.schema_validation.specs.declared.reason.ResolveReason.{ResolveReason}
use Rattle.schema_validation.specs.declared.first.FirstViolation.{FirstViolation}
use Rattle.schema_validation.proofs.Meetings.{meets_when}

none_holds : (r : Bool) → false ≡ not r → r ≡ true
none_holds true e = refl
none_holds false e = absurd cc

some_fails : {P : Type 0} (r : Bool) → true ≡ not r → r ≡ true → P
some_fails true e t = absurd cc
some_fails false e t = absurd cc

-- one violation is recorded if there is no result
pub meets_unless : {X : Type 0} (P : Type 0) (Q : X → Type 0) (o : Option X) (missing : Bool) (reason : ResolveReason)
    (span : Span) (a b : FirstViolation) → is_some o ≡ not missing → MatchOption o P Q → ((x : X) → o ≡ Some x → Q x → P → ⊥)
    → b.found ≡ cond missing (Some (first_violation_of a.found (record { reason = reason; span = span }))) a.found
    → HasRecorded (λ q s. P × Is reason span q s) a b
meets_unless P Q None missing reason span a b e m apart is =
    meets_when P missing reason span a b (λ t. m) (λ p. none_holds missing e) is
meets_unless P Q (Some x) missing reason span a b e m apart is =
    meets_when P missing reason span a b (λ t. some_fails missing e t) (λ p. absurd (apart x refl m p)) is

pub of_both : {X : Type 0} (P : Type 0) (Q : X → Type 0) (o : Option X) → IfSome o Q → IfNone o P → MatchOption o P Q
of_both P Q None some none = none
of_both P Q (Some x) some none = some

pub some_fits : {X : Type 0} (o : Option X) (x : X) (P : X → Type 0) → o ≡ Some x → IfSome o P → P x
some_fits o x P e h = subst (λ y. IfSome y P) e h
