use Rattle.worker_pool.proofs.Moves.{returns, rooms}
use Rattle.worker_pool.proofs.worker.put_back.Goals as goal

pub push_as-requires-clause-rule : goal.push_as-requires-clause-rule
push_as-requires-clause-rule g c = (returns _ _ _ _ _ c.requires.part c.requires.one c.requires.in_hand, rooms _ _ _ c.requires.part)
