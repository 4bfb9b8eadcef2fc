-- the items so far are shifted, and the others are unchanged
use Rattle.std.proofs.Common.{◌≡◌, take, drop, map}
use Rattle.proto_set.proofs.shift.shift_all.Given as goal

abbrev pub invariant-loop-item : goal.invariant-loop-item
invariant-loop-item g l = record {
  moved : take l.item-index l.item-items ≡ map (g.T.Shift.shifted l.bytes) (take l.item-index l.initial.item-items);
  others : drop l.item-index l.item-items ≡ drop l.item-index l.initial.item-items;
}
