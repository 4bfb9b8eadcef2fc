use Rattle.schema_validation.specs.Recording.{HasRecorded, IsOfFirst, IsOfElement, IsMessageViolationAt}
use Rattle.schema_validation.proofs.messages.note_messages.Given as goal

-- the violations of the elements so far are recorded
abbrev pub invariant-loop-i : goal.invariant-loop-i
invariant-loop-i l = HasRecorded (IsOfFirst l.i (IsOfElement l.fn.files.messages (IsMessageViolationAt l.fn.files))) l.initial.first l.first
