-- The value is the value of the bytes so far followed by that of the remaining bytes.
use Rattle.std.proofs.Common.{◌≤◌, ◌-◌, length}
use Rattle.proto_lexer.proofs.Escapes.{GoesOn}
use Rattle.proto_lexer.proofs.string.string_value.Given as goal

abbrev pub invariant-loop-i : goal.invariant-loop-i
invariant-loop-i l = record { within : l.i ≤ length l.body; same : GoesOn l.body l.out l.i }

abbrev pub decreases-loop-i : goal.decreases-loop-i
decreases-loop-i l = length l.body - l.i
