use Rattle.schema_validation.specs.Lengths.{HasLengths}
use Rattle.schema_validation.proofs.lines.Lengths.add_messages.Given as goal

abbrev pub invariant-loop-i : goal.invariant-loop-i
invariant-loop-i l = HasLengths l.fn.files l.i 0 l.self
