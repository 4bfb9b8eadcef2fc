use Rattle.schema_validation.specs.Recording.{IsLongService}
use Rattle.schema_validation.specs.Recording.{HasRecorded, IsOfFirst, IsOfElement}
use Rattle.schema_validation.proofs.services.note_services.Given as goal

-- the violations of the elements so far are recorded
abbrev pub invariant-loop-i : goal.invariant-loop-i
invariant-loop-i l = HasRecorded (IsOfFirst l.i (IsOfElement l.fn.files.services IsLongService)) l.initial.first l.first
