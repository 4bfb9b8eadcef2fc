use Rattle.std.proofs.Common.{◌+◌, ◌≤◌, length, map, reverse, vec_len}
use Rattle.view_top.specs.DrawingData.{bar}
use Rattle.view_top.proofs.Walking.{Behind}
use Rattle.view_top.proofs.bar.bars_of.Given as goal

abbrev pub invariant-loop-at : goal.invariant-loop-at
invariant-loop-at l = record {
  within : l.at ≤ length l.events;
  behind : Behind (length l.events) l.events l.at l.ends.entries (map bar (reverse l.bars.items));
  few : vec_len l.bars + l.at ≤ length l.events;
}

abbrev pub decreases-loop-at : goal.decreases-loop-at
decreases-loop-at l = l.at
