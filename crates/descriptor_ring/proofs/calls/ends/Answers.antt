use Rattle.descriptor_ring.proofs.Moves.{forks_it}
use Rattle.descriptor_ring.proofs.calls.ends.Goals as goal

pub another-taking-requires-clause-rule : goal.another-taking-requires-clause-rule
another-taking-requires-clause-rule g c = rw c.requires.new (forks_it g.T.RingItem.fits g.T.RingItem.most _ g.N.PicksHeap.heap)
