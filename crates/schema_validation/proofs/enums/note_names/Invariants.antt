use Rattle.mrpc_table.specs.declared.limits.TheConstants.{MAX_VALUES}
use Rattle.schema_validation.specs.Members.{IsNameViolation}
use Rattle.schema_validation.specs.Recording.{HasRecorded, IsOfFirst, IsOfElement}
use Rattle.schema_validation.proofs.enums.note_names.Given as goal

-- the violations of the elements so far are recorded
abbrev pub invariant-loop-i : goal.invariant-loop-i
invariant-loop-i l =
    HasRecorded (IsOfFirst l.i (IsOfElement l.fn.choices.values (λ i v. IsNameViolation l.fn.choices.names MAX_VALUES i v.name)))
    l.initial.first l.first
