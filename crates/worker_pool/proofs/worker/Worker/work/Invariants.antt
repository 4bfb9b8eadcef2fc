use Rattle.std.proofs.Common.{◌≡◌, ◌<◌, false}
use Rattle.crossbeam_queue.specs.Passes.{view}
use Rattle.worker_pool.specs.Workers.{IsLaterWorker, IsPoolPass, IsWorker}
use Rattle.worker_pool.proofs.worker.Worker.work.Given as goal

abbrev pub invariant-loop : goal.invariant-loop
invariant-loop g l = IsPoolPass l.line l.self.pass × (0 < (view l.self.pass).parts)
    × IsWorker g.T.PoolItem.since g.T.PoolItem.over l.self × (l.self.stopped ≡ false) × IsLaterWorker l.fn.self l.self
