use Rattle.worker_pool.proofs.Moves.{takes, wholes}
use Rattle.worker_pool.proofs.worker.take.Goals as goal

pub pop_as-requires-clause-rule : goal.pop_as-requires-clause-rule
pop_as-requires-clause-rule g c = (takes _ _ _ c.requires.part, wholes _ _ _)
