-- Which of the joined files contains a violation.
use Rattle.std.proofs.Common.{◌≡◌, ℕ, ◌<◌, ◌≤◌, List, refl, sum, length, get_or, ap, ◌∙◌, subst, arith}
use Rattle.std.proofs.lemmas.List.{length-map}
use Rattle.std.proofs.lemmas.Option.{slice_get-get_or}
use Rattle.proto_set.specs.Bundle.{BundledFile as PackedFile}
use Rattle.std.specs.Prelude.{slice_get, Option, Some, None, IsSome, IsNone, IfSome, ◌↔◌}
use Rattle.proto_ast.specs.Joined.{Joined}
use Rattle.proto_ast.specs.Order.{DeclPart as Piece}
use Rattle.proto_ast.specs.Together.{DeclIndex, IsPartSpan, IsInFile, package_name, message, field, oneof, enum}
use Rattle.proto_ast.specs.Together.{value, service, rpc, its_package, in_message_of, in_field_of, in_oneof_of}
use Rattle.proto_ast.specs.Together.{in_enum_of, in_value_of, in_service_of, in_rpc_of}
use Rattle.proto_ast.specs.declared.file.Span.{Span}
use Rattle.proto_set.specs.Joining.{joined, sizes_of, IsInText}
use Rattle.proto_set.specs.WellPlaced.{AreWellPlaced}
use Rattle.proto_set.specs.declared.linked_file.LinkedFile.{LinkedFile}
use Rattle.schema_validation.specs.Violations.{IsViolated, HasFirstViolation}
use Rattle.schema_validation.specs.declared.reason.ResolveReason.{ResolveReason}
use Rattle.proto_set.specs.Texts.{IsInTextOf}
use Rattle.schema_resolve.specs.Resolving.{IsFaultOfAll}
use Rattle.schema_resolve.specs.declared.fault.ResolveFault.{ResolveFault}
use Rattle.schema_resolve.specs.declared.fault.ResolveFault.TheVariants as fault
use Rattle.schema_files.specs.Resolving.{AreJoinedAs, HasFilesFault, unresolved}
use Rattle.schema_files.specs.declared.fault.FilesReason.TheVariants.{Resolve}
use Rattle.schema_files.proofs.Sizes.{in_all}

-- every part of a declaration is in a file
pub in_some_file : {F : Joined} {s : Span} {x : DeclIndex} {piece : Piece} → IsPartSpan F s x piece
    → (k : ℕ) × IsInFile F k x
in_some_file (package_name k h w at is e) = (k, its_package)
in_some_file (message i m at e) = (m.file, in_message_of i m at refl)
in_some_file (field i j m f at it is) = (m.file, in_field_of i j m at refl)
in_some_file (oneof i j m o at it e) = (m.file, in_oneof_of i j m at refl)
in_some_file (enum i e at is) = (e.file, in_enum_of i e at refl)
in_some_file (value i j e v at it is) = (e.file, in_value_of i j e at refl)
in_some_file (service i s at e) = (s.file, in_service_of i s at refl)
in_some_file (rpc i j s r at it is) = (s.file, in_rpc_of i j s at refl)

-- a violation is at a name or a number
abbrev pub OffencesStand : Type 0
OffencesStand = (F : Joined) (q : ResolveReason) (s : Span) → IsViolated F q s
    → (x : DeclIndex) × (piece : Piece) × IsPartSpan F s x piece

abbrev pub StandsInText : Type 0
StandsInText = (ps : List LinkedFile) (k : ℕ) (x : DeclIndex) (piece : Piece) (s : Span) → AreWellPlaced ps
    → IsInFile (joined ps) k x → IsPartSpan (joined ps) s x piece → IsInText ps k s.start

pub first_inside : OffencesStand → StandsInText → (ps : List LinkedFile) (q : ResolveReason) (s : Span) → AreWellPlaced ps
    → HasFirstViolation (joined ps) q s → s.start < sum (sizes_of ps)
first_inside stand own ps q s sound h =
    let at = stand (joined ps) q s h.offence in
    let file = in_some_file at.2 in
    in_all (sizes_of ps) file.0 s.start (own ps file.0 at.0 at.1 s sound file.1 at.2)

-- ---- the file that is found

pub some_unless : {X : Type 0} {P : Type 0} (r : Option X) → IsNone r ↔ P → (P → ⊥) → IsSome r
some_unless None h never = absurd (never (h.0 refl))
some_unless (Some x) h never = refl

pub if_some : {X : Type 0} (P : X → Type 0) (r : Option X) (x : X) → r ≡ Some x → IfSome r P → P x
if_some {X} P r x e h = subst (λ (o : Option X). IfSome o P) e h

-- the first violation of joined files, as a fault reports it
pub record IsFound (ps : List LinkedFile) (q : ResolveReason) (start line : ℕ) : Type 0 where
  pub span : Span
  pub first : HasFirstViolation (joined ps) q span
  pub start_is : start ≡ span.start
  pub line_is : line ≡ span.line

pub found_first : (F : Joined) (ps : List LinkedFile) (e : ResolveFault) (q : ResolveReason) (start end line : ℕ) → F ≡ joined ps
    → e ≡ fault.At q start end line → IsFaultOfAll F e → IsFound ps q start line
found_first F ps e q start end line f is h = record {
  span = record { start = start; end = end; line = line };
  first = subst (λ (G : Joined). IsFaultOfAll G (fault.At q start end line)) f (subst (IsFaultOfAll F) is h);
  start_is = refl;
  line_is = refl;
}

pub not_behind : OffencesStand → StandsInText → (ps : List LinkedFile) (q : ResolveReason) (start line : ℕ) (sizes : List ℕ)
    → AreWellPlaced ps → IsFound ps q start line → sizes ≡ sizes_of ps → sum sizes ≤ start → ⊥
not_behind stand own ps q start line sizes sound f e l =
    let m : f.span.start < sum (sizes_of ps) = first_inside stand own ps q f.span sound f.first in
    let n : sum sizes ≡ sum (sizes_of ps) = ap (λ (xs : List ℕ). sum xs) e in
    let same : start ≡ f.span.start = f.start_is in
    omega (arith, l, m, n, same)

pub stands_fault : (files : List PackedFile) (ps : List LinkedFile) (joins : AreJoinedAs files ps) (order sizes : List ℕ)
    (q : ResolveReason) (start line place : ℕ) → joins.reach.order ≡ order → sizes ≡ sizes_of ps → length order ≡ length ps
    → IsFound ps q start line → IsInTextOf sizes place start → place < length sizes
    → HasFilesFault files (get_or order place 0) line (Resolve q)
stands_fault files ps joins order sizes q start line place is e same f h l =
    let inside : IsInText ps place f.span.start =
    subst (λ (n : ℕ). IsInTextOf (sizes_of ps) place n) f.start_is
    (subst (λ (xs : List ℕ). IsInTextOf xs place start) e h) in
    let count : length sizes ≡ length ps =
    ap (λ (xs : List ℕ). length xs) e ∙ length-map ps (λ (p : LinkedFile). p.size) in
    let m : place < length order = omega (arith, l, count, same) in
    let at : slice_get joins.reach.order place ≡ Some (get_or order place 0) =
    ap (λ (xs : List ℕ). slice_get xs place) is ∙ slice_get-get_or order place 0 m in
    unresolved ps q f.span place joins f.first inside at f.line_is
