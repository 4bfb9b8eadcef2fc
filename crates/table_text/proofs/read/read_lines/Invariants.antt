-- The lines so far were read, and none is at fault.
use Rattle.std.proofs.Common.{length}
use Rattle.table_text.proofs.ReadSoFar.{LinesSoFar}
use Rattle.table_text.proofs.read.read_lines.Given as goal

abbrev pub invariant-loop-line : goal.invariant-loop-line
invariant-loop-line l = LinesSoFar l.fn.text l.rest l.number l.reader

abbrev pub decreases-loop-line : goal.decreases-loop-line
decreases-loop-line l = length l.rest
