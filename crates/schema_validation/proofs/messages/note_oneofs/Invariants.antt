use Rattle.schema_validation.specs.Members.{IsLong}
use Rattle.schema_validation.specs.Recording.{HasRecorded, IsOfFirst, IsOfElement}
use Rattle.schema_validation.proofs.messages.note_oneofs.Given as goal

-- the violations of the elements so far are recorded
abbrev pub invariant-loop-i : goal.invariant-loop-i
invariant-loop-i l = HasRecorded (IsOfFirst l.i (IsOfElement l.fn.message.oneofs (λ i. IsLong))) l.initial.first l.first
