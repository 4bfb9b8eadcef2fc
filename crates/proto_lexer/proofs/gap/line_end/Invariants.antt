-- There is no line feed from the first offset up to this one.
use Rattle.std.proofs.Common.{◌≡◌, ◌≤◌, ◌-◌, length, drop}
use Rattle.proto_lexer.specs.Scanning.{skip_gap, line}
use Rattle.proto_lexer.proofs.gap.line_end.Given as goal

abbrev pub invariant-loop-i : goal.invariant-loop-i
invariant-loop-i l = record { low : l.at ≤ l.i; high : l.i ≤ length l.text; same : skip_gap line (drop l.at l.text) ≡ skip_gap line (drop l.i l.text) }

abbrev pub decreases-loop-i : goal.decreases-loop-i
decreases-loop-i l = length l.text - l.i
