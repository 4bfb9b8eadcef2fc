use Rattle.std.proofs.Common.{arith}
use Rattle.worker_pool.proofs.Moves.{enters, rooms}
use Rattle.worker_pool.proofs.pool.enter.Goals as goal

pub push_as-requires-clause-rule : goal.push_as-requires-clause-rule
push_as-requires-clause-rule g c = (enters _ _ _ _ _ c.requires.all c.requires.next c.requires.few, rooms _ _ _ (let all = c.requires.all in omega (arith, all)))
