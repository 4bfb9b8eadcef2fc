use Rattle.schema_validation.specs.Members.{IsNumberViolation}
use Rattle.schema_validation.specs.Recording.{HasRecorded, IsOfFirst}
use Rattle.schema_validation.proofs.Numbering.{HaveMet}
use Rattle.schema_validation.proofs.messages.note_numbers.Given as goal

-- the violations of the numbers so far are recorded, and their positions were seen
abbrev pub invariant-loop-i : goal.invariant-loop-i
invariant-loop-i l = record {
  meets : HasRecorded (IsOfFirst l.i (IsNumberViolation l.message)) l.initial.first l.first;
  met : HaveMet l.message.fields l.i l.met;
}
