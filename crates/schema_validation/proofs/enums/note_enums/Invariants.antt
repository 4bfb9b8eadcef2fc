use Rattle.schema_validation.specs.Members.{IsEnumViolation}
use Rattle.schema_validation.specs.Recording.{HasRecorded, IsOfFirst, IsOfElement}
use Rattle.schema_validation.proofs.enums.note_enums.Given as goal

-- the violations of the elements so far are recorded
abbrev pub invariant-loop-i : goal.invariant-loop-i
invariant-loop-i l = HasRecorded (IsOfFirst l.i (IsOfElement l.fn.files.enums IsEnumViolation)) l.initial.first l.first
