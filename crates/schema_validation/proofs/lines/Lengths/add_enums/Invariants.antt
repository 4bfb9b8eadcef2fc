use Rattle.std.proofs.Common.{length}
use Rattle.schema_validation.specs.Lengths.{HasLengths}
use Rattle.schema_validation.proofs.lines.Lengths.add_enums.Given as goal

abbrev pub invariant-loop-i : goal.invariant-loop-i
invariant-loop-i l = HasLengths l.fn.files (length l.fn.files.messages) l.i l.self
