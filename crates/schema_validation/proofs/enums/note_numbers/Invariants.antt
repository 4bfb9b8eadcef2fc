use Rattle.schema_validation.specs.Members.{IsValueViolation}
use Rattle.schema_validation.specs.Recording.{HasRecorded, IsOfFirst}
use Rattle.schema_validation.proofs.enums.note_numbers.Given as goal

-- the violations of the numbers so far are recorded
abbrev pub invariant-loop-i : goal.invariant-loop-i
invariant-loop-i l = HasRecorded (IsOfFirst l.i (IsValueViolation l.choices)) l.initial.first l.first
