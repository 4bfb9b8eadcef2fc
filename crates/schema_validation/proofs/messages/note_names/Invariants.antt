use Rattle.mrpc_table.specs.declared.limits.TheConstants.{MAX_FIELDS}
use Rattle.schema_validation.specs.Members.{IsNameViolation}
use Rattle.schema_validation.specs.Recording.{HasRecorded, IsOfFirst, IsOfElement}
use Rattle.schema_validation.proofs.messages.note_names.Given as goal

-- the violations of the elements so far are recorded
abbrev pub invariant-loop-i : goal.invariant-loop-i
invariant-loop-i l =
    HasRecorded (IsOfFirst l.i (IsOfElement l.fn.message.fields (λ i f. IsNameViolation l.fn.message.names MAX_FIELDS i f.name)))
    l.initial.first l.first
