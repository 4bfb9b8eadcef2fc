use Rattle.std.proofs.Common.{◌≤◌, ◌+◌}
use Rattle.tests_calls.proofs.blocks.full.Given as goal

-- each block has a number
abbrev pub invariant-loop : goal.invariant-loop
invariant-loop g l = l.extents.next ≤ l.counter + 1
