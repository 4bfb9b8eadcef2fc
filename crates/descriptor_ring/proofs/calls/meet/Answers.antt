use Rattle.descriptor_ring.proofs.Moves.{learns_total}
use Rattle.descriptor_ring.proofs.calls.meet.Goals as goal

pub learn_as-requires-clause-rule : goal.learn_as-requires-clause-rule
learn_as-requires-clause-rule g c =
    let r = c.requires in
    rw c.observe_all.ensures.told (learns_total g.T.RingItem.fits g.T.RingItem.most _ _ r.sends r.takes r.ended)
