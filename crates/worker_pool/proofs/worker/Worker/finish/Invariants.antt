use Rattle.std.proofs.Common.{◌≡◌}
use Rattle.crossbeam_queue.specs.Passes.{view}
use Rattle.worker_pool.specs.Rule.{all_parts}
use Rattle.worker_pool.specs.Workers.{HasEnded, IsPoolPass}
use Rattle.worker_pool.proofs.worker.Worker.finish.Given as goal

abbrev pub invariant-loop : goal.invariant-loop
invariant-loop g l =
    IsPoolPass l.line l.self.pass
    × ((view l.self.pass).parts ≡ all_parts)
    × HasEnded g.T.PoolItem.since g.T.PoolItem.over (g.S.StopFlag.may_be_set l.stop) l.self
    × ((view l.self.pass).firsts ≡ (view l.fn.self.pass).firsts)
