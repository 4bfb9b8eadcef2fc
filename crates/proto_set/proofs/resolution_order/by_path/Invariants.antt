use Rattle.proto_set.proofs.Joining.{OthersBefore}
use Rattle.proto_set.proofs.resolution_order.by_path.Given as goal

-- the files up to here
abbrev pub invariant-loop-i : goal.invariant-loop-i
invariant-loop-i l = OthersBefore l.members l.marks l.i l.pairs.items
