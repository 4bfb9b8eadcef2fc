use Rattle.descriptor_ring.proofs.Moves.{tells_it}
use Rattle.descriptor_ring.proofs.calls.share_knowledge.Goals as goal

pub another-requires-clause-rule : goal.another-requires-clause-rule
another-requires-clause-rule g c = tells_it g.T.RingItem.fits g.T.RingItem.most _ _
