use Rattle.descriptor_ring.proofs.Moves.{puts_item, learns_full}
use Rattle.descriptor_ring.proofs.calls.send.Goals as goal

pub push_as-requires-clause-rule : goal.push_as-requires-clause-rule
push_as-requires-clause-rule g c =
    let r = c.requires in
    (puts_item g.T.RingItem.fits g.T.RingItem.most _ _ _ _ r.sends r.not_closed r.fits r.few, learns_full g.T.RingItem.fits g.T.RingItem.most _ _ r.sends r.not_closed)
