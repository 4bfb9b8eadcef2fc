use Rattle.descriptor_ring.proofs.Moves.{gets_it, learns_empty}
use Rattle.descriptor_ring.proofs.calls.take.Goals as goal

pub pop_as-requires-clause-rule : goal.pop_as-requires-clause-rule
pop_as-requires-clause-rule g c =
    let r = c.requires in (
      gets_it g.T.RingItem.fits g.T.RingItem.most _ _ r.takes r.not_ended,
      learns_empty g.T.RingItem.fits g.T.RingItem.most _ _ r.takes r.not_ended,
    )
