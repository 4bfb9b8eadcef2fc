use Rattle.std.proofs.Common.{◌≤◌, length}
use Rattle.wire_decode.proofs.ordered.records_ahead.Given as goal

abbrev pub invariant-loop-count : goal.invariant-loop-count
invariant-loop-count l = l.first ≤ length l.bytes
