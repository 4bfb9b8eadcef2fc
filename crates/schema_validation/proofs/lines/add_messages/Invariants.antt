use Rattle.schema_validation.specs.Lengths.{HasLinesBefore}
use Rattle.schema_validation.proofs.lines.add_messages.Given as goal

abbrev pub invariant-loop-i : goal.invariant-loop-i
invariant-loop-i l = HasLinesBefore l.fn.files 0 l.i 0 l.lines.items
