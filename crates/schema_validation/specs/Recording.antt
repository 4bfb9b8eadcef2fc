-- The code's own: the search for the first violation, and which of the recorded ones it keeps.
use Rattle.std.specs.Prelude.{◌≡◌, ◌⊎◌, ℕ, ◌<◌, ◌==◌, nat_lt, Bool, true, false, ◌&&◌, ◌||◌, if◌then◌else◌, List, Option, Some, None, slice_get}
use Rattle.std.specs.Option.{is_some}
use Rattle.std.specs.Ordering.{nat_cmp}
use Rattle.std.specs.BTreeMap.{BTreeMap, get_by}
use Rattle.proto_ast.specs.declared.file.Span.{Span}
use Rattle.mrpc_table.specs.Names.{is_short_full}
use Rattle.proto_ast.specs.declared.file.Word.{Word}
use Rattle.proto_ast.specs.declared.file.MessageDecl.{MessageDecl}
use Rattle.proto_ast.specs.declared.file.RpcDecl.{RpcDecl}
use Rattle.proto_ast.specs.declared.file.ServiceDecl.{ServiceDecl}
use Rattle.proto_ast.specs.declared.joined.Head.{Head}
use Rattle.proto_ast.specs.declared.joined.Enclosing.TheVariants as home
use Rattle.proto_ast.specs.Joined.{Joined, package_at}
use Rattle.schema_symbols.specs.Scopes.{IsScope}
use Rattle.schema_validation.specs.Members.{Is, IsLong, IsNoMessage, IsMessageViolation, IsMethodViolation}
use Rattle.schema_validation.specs.Lines.{IsPastTextLimit}
use Rattle.schema_validation.specs.Violations.{IsDuplicate, IsLongInFull, IsNoLaterViolation, violation_rank}
use Rattle.schema_validation.specs.declared.reason.ResolveReason.{ResolveReason}
use Rattle.schema_validation.specs.declared.reason.ResolveReason.TheVariants.{UnknownName, DuplicateName, Limit}
use Rattle.schema_validation.specs.declared.first.Violation.{Violation}
use Rattle.schema_validation.specs.declared.first.FirstViolation.{FirstViolation}

-- a violation if a test holds
abbrev pub IsWhere : Bool → ResolveReason → Span → ResolveReason → Span → Type 0
IsWhere holds reason span q s = (holds ≡ true) × Is reason span q s

-- it comes strictly first: at an earlier offset, or at the same one for an earlier reason
abbrev pub comes_before : Violation → Violation → Bool
comes_before a b =
    nat_lt a.span.start b.span.start || (a.span.start == b.span.start && nat_lt (violation_rank a.reason) (violation_rank b.reason))

abbrev pub first_violation_of : Option Violation → Violation → Violation
first_violation_of None other = other
first_violation_of (Some found) other = if comes_before other found then other else found

-- the kept one comes first, or is the same
abbrev pub IsKeptBefore : Option Violation → ResolveReason → Span → Type 0
IsKeptBefore None q s = ⊥
IsKeptBefore (Some o) q s = IsNoLaterViolation o.reason o.span q s

-- Some violations were recorded: the first one of these and of the earlier ones is kept.
pub record HasRecorded (offends : ResolveReason → Span → Type 0) (old new : FirstViolation) : Type 0 where
  pub one : (o : Violation) → new.found ≡ Some o → (old.found ≡ Some o) ⊎ offends o.reason o.span
  pub first : (q : ResolveReason) (s : Span) → offends q s → IsKeptBefore new.found q s
  pub before : (o : Violation) → old.found ≡ Some o → IsKeptBefore new.found o.reason o.span

-- the violations of the first n items
pub record IsOfFirst (n : ℕ) (offends : ℕ → ResolveReason → Span → Type 0) (q : ResolveReason) (s : Span) : Type 0 where
  pub place : ℕ
  pub below : place < n
  pub is : offends place q s

-- the violations of any item
pub record IsOfAny (offends : ℕ → ResolveReason → Span → Type 0) (q : ResolveReason) (s : Span) : Type 0 where
  pub place : ℕ
  pub is : offends place q s

-- the violations of the element with an index
pub record IsOfElement {X : Type 0} (xs : List X) (offends : ℕ → X → ResolveReason → Span → Type 0) (i : ℕ)
    (q : ResolveReason) (s : Span) : Type 0 where
  pub element : X
  pub at : slice_get xs i ≡ Some element
  pub is : offends i element q s

-- the violations of a message, and of a method
abbrev pub IsMessageViolationAt : Joined → ℕ → MessageDecl → ResolveReason → Span → Type 0
IsMessageViolationAt F i m q s =
    (scope : List (List ℕ)) × IsScope F (home.Message i) scope × IsMessageViolation F m.file scope i m q s

abbrev pub IsMethodViolationAt : Joined → ℕ → ServiceDecl × RpcDecl → ResolveReason → Span → Type 0
IsMethodViolationAt F i p q s = IsMethodViolation F p.0.file (package_at F p.0.file) i p.1 q s

abbrev pub IsLongService : ℕ → ServiceDecl → ResolveReason → Span → Type 0
IsLongService i x = IsLong x.name

-- no message has the name of the type of a file's rpc
abbrev pub IsUnknownMessage : Joined → ℕ → Word → ResolveReason → Span → Type 0
IsUnknownMessage F file w q s = IsNoMessage F file (package_at F file) w.name × Is UnknownName w.span q s

-- a long package
pub record IsPackageViolation (h : Head) (q : ResolveReason) (s : Span) : Type 0 where
  pub name : Word
  pub declared : h.package ≡ Some name
  pub long : is_short_full name.name ≡ false
  pub is : Is Limit name.span q s

abbrev pub IsPackageViolationAt : ℕ → Head → ResolveReason → Span → Type 0
IsPackageViolationAt i h = IsPackageViolation h

-- a duplicate name, a long full name, a name whose line exceeds the limit of a table's text
abbrev pub IsDuplicateViolation : Joined → ResolveReason → Span → Type 0
IsDuplicateViolation F q s = (span : Span) × IsDuplicate F span × Is DuplicateName span q s

abbrev pub IsLongNameViolation : Joined → ResolveReason → Span → Type 0
IsLongNameViolation F q s = (span : Span) × IsLongInFull F span × Is Limit span q s

abbrev pub IsLongTextViolation : Joined → ResolveReason → Span → Type 0
IsLongTextViolation F q s = (span : Span) × IsPastTextLimit F span × Is Limit span q s

-- the positions of numbers that were seen
abbrev pub has_seen : BTreeMap ℕ (Unit {0}) → ℕ → Bool
has_seen met place = is_some (get_by (nat_cmp place) met)
