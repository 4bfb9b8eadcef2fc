use Rattle.worker_pool.proofs.Moves.{forks}
use Rattle.worker_pool.proofs.pool.share.Goals as goal

pub another-requires-clause-rule : goal.another-requires-clause-rule
another-requires-clause-rule g c = forks _ _ _ c.requires.parts
