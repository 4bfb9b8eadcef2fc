use Rattle.descriptor_ring.proofs.Moves.{hears_sent, learns_in_order}
use Rattle.descriptor_ring.proofs.calls.observe_sent.Goals as goal

pub absorb-requires-clause-rule : goal.absorb-requires-clause-rule
absorb-requires-clause-rule g c = hears_sent g.T.RingItem.fits g.T.RingItem.most _ _ _ _

pub learn_as-requires-clause-rule : goal.learn_as-requires-clause-rule
learn_as-requires-clause-rule g c =
    rw c.absorb.ensures.rule (learns_in_order g.T.RingItem.fits g.T.RingItem.most _ _ c.requires.takes)
