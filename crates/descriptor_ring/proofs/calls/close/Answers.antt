use Rattle.descriptor_ring.proofs.Moves.{puts_closing, learns_full}
use Rattle.descriptor_ring.proofs.calls.close.Goals as goal

pub push_as-requires-clause-rule : goal.push_as-requires-clause-rule
push_as-requires-clause-rule g c =
    let r = c.requires in
    (puts_closing g.T.RingItem.fits g.T.RingItem.most _ _ _ r.sends r.not_closed, learns_full g.T.RingItem.fits g.T.RingItem.most _ _ r.sends r.not_closed)
