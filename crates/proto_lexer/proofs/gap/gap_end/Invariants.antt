-- All bytes from the first offset up to this one are blanks and comments.
use Rattle.std.proofs.Common.{◌≡◌, ◌≤◌, ◌-◌, length, drop}
use Rattle.proto_lexer.specs.Scanning.{skip_gap, between}
use Rattle.proto_lexer.proofs.gap.gap_end.Given as goal

abbrev pub invariant-loop-i : goal.invariant-loop-i
invariant-loop-i l = record { low : l.at ≤ l.i; high : l.i ≤ length l.text; same : skip_gap between (drop l.at l.text) ≡ skip_gap between (drop l.i l.text) }

abbrev pub decreases-loop-i : goal.decreases-loop-i
decreases-loop-i l = length l.text - l.i
