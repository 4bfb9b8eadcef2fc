-- The line number grows by one per line.
use Rattle.std.proofs.Common.{◌≡◌, ◌≤◌, ◌+◌, length}
use Rattle.policy_declarations.specs.Blocks.{line_number}
use Rattle.policy_declarations.specs.Reading.{inner_lines}
use Rattle.policy_declarations.proofs.block.line_number.Given as goal

abbrev pub invariant-loop-one : goal.invariant-loop-one
invariant-loop-one l = record {
  same : line_number l.skips (inner_lines l.text) l.number + 1 ≡ l.line + line_number l.skips (inner_lines l.rest) l.left;
  small : l.line + length l.rest ≤ length l.text + 1;
}

abbrev pub decreases-loop-one : goal.decreases-loop-one
decreases-loop-one l = length l.rest
