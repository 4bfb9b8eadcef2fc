use Rattle.wire_decode.proofs.Sorting.{fall-more}
use Rattle.wire_decode.proofs.merge.ascends.Goals as goal

pub loop-part-preserved : goal.loop-part-preserved
loop-part-preserved c =
    fall-more c.deref-part-items.result.now c.loop-part.part-index c.loop-part.last c.part-item.result
    c.loop-part-test.true c.part-item.is c.if-part-last.false c.loop-part.invariant.0 c.loop-part.invariant.1
