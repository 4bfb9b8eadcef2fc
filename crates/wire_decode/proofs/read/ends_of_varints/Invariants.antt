use Rattle.std.proofs.Common.{◌≤◌}
use Rattle.wire_decode.proofs.read.ends_of_varints.Given as goal

abbrev pub invariant-loop-byte : goal.invariant-loop-byte
invariant-loop-byte l = l.count ≤ l.byte-index
