-- There is no `*/` from the first offset up to this one.
use Rattle.std.proofs.Common.{◌≡◌, ◌≤◌, ◌-◌, ℕ, List, length, drop}
use Rattle.proto_lexer.specs.Scanning.{skip_gap, block}
use Rattle.proto_lexer.proofs.gap.block_end.Given as goal

abbrev pub invariant-loop-i : goal.invariant-loop-i
invariant-loop-i l = record { low : l.at ≤ l.i; high : l.i ≤ length l.text; same : (start : List ℕ) → skip_gap (block start) (drop l.at l.text) ≡ skip_gap (block start) (drop l.i l.text) }

abbrev pub decreases-loop-i : goal.decreases-loop-i
decreases-loop-i l = length l.text - l.i
