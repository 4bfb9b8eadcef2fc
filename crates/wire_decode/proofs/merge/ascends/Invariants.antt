use Rattle.std.proofs.Common.{take}
use Rattle.mrpc_table.specs.View.{node_of}
use Rattle.wire_decode.specs.NumberOrder.{AreNumbersSortedFrom, AreNumbersAtMost}
use Rattle.wire_decode.proofs.merge.ascends.Given as goal

abbrev pub invariant-loop-part : goal.invariant-loop-part
invariant-loop-part l = AreNumbersSortedFrom 0 (node_of (take l.part-index l.part-items)) × AreNumbersAtMost l.last (node_of (take l.part-index l.part-items))
