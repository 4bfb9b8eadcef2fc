-- the current item was unchanged, and is shifted now
use Rattle.std.proofs.Common.{◌-◌, ◌^◌, arith}
use Rattle.proto_set.proofs.Moves.{All-there, moved_more, others_more}
use Rattle.proto_set.proofs.shift.shift_all.Goals as goal

pub shift-requires : goal.shift-requires
shift-requires g c =
    All-there (g.T.Shift.is_within (2 ^ 64 - 1 - c.args.bytes)) c.loop-item.item-items c.deref_mut-item-items.result.now c.args.items
    c.loop-item.item-index c.item-item.result c.loop-item.invariant.others (cc) (omega arith) c.requires

pub loop-item-preserved : goal.loop-item-preserved
loop-item-preserved g c = record {
  moved = moved_more (g.T.Shift.shifted c.args.bytes) c.loop-item.item-items c.deref_mut-item-items.result.now c.loop-item.item-index
      c.item-item.result c.shift.new.self (omega arith) (omega arith) c.loop-item.invariant.moved c.loop-item.invariant.others c.shift.ensures;
  others = others_more c.loop-item.item-items c.deref_mut-item-items.result.now c.loop-item.item-index c.shift.new.self
      c.loop-item.invariant.others;
}
