use Rattle.std.proofs.Common.{◌≤◌, ◌-◌, length}
use Rattle.std.specs.Vec.{vec_capacity}
use Rattle.tenant_quota.specs.Splitting.{AreSplit}
use Rattle.tenant_quota.proofs.seats.split_each.Given as goal

abbrev pub invariant-loop-seats : goal.invariant-loop-seats
invariant-loop-seats l = record {
  split : AreSplit l.fn.seats.items (length l.halves.items) l.seats.items l.halves.items;
  room : length l.fn.seats.items ≤ vec_capacity l.halves;
  within : length l.halves.items ≤ length l.fn.seats.items;
}

abbrev pub decreases-loop-seats : goal.decreases-loop-seats
decreases-loop-seats l = length l.fn.seats.items - length l.halves.items
