use Rattle.descriptor_ring.proofs.Moves.{hears_taken, learns_behind}
use Rattle.descriptor_ring.proofs.calls.observe_taken.Goals as goal

pub absorb-requires-clause-rule : goal.absorb-requires-clause-rule
absorb-requires-clause-rule g c = hears_taken g.T.RingItem.fits g.T.RingItem.most _ _ _ _

pub learn_as-requires-clause-rule : goal.learn_as-requires-clause-rule
learn_as-requires-clause-rule g c =
    rw c.absorb.ensures.rule (learns_behind g.T.RingItem.fits g.T.RingItem.most _ _ c.requires.sends)
