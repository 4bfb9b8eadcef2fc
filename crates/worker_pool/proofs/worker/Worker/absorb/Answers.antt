use Rattle.std.proofs.Common.{rules}
use Rattle.worker_pool.proofs.Moves.{merges, rooms}
use Rattle.worker_pool.proofs.worker.Worker.absorb.Goals as goal

pub absorb-requires-clause-rule : goal.absorb-requires-clause-rule
absorb-requires-clause-rule g c = merges _ _ _ _ _ c.requires.part

pub learn_as-requires-clause-rule : goal.learn_as-requires-clause-rule
learn_as-requires-clause-rule g c = rooms _ _ _ (search rules)
