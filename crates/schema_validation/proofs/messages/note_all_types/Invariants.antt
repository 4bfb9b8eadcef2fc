use Rattle.std.proofs.Common.{ℕ, List}
use Rattle.proto_ast.specs.declared.joined.Enclosing.TheVariants as home
use Rattle.schema_symbols.specs.Scopes.{IsScope}
use Rattle.schema_validation.specs.Members.{IsTypeViolation}
use Rattle.schema_validation.specs.Recording.{HasRecorded, IsOfFirst, IsOfElement}
use Rattle.schema_validation.proofs.messages.note_all_types.Given as goal

-- the violations of the elements so far are recorded
abbrev pub invariant-loop-i : goal.invariant-loop-i
invariant-loop-i l = (scope : List (List ℕ)) → IsScope l.scopes (home.Message l.message) scope
    → HasRecorded (IsOfFirst l.i (IsOfElement l.fields (λ i. IsTypeViolation l.scopes l.file scope))) l.initial.first l.first
