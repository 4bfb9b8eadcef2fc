use Rattle.std.proofs.Common.{◌≡◌, ◌<◌, ◌+◌, length}
use Rattle.std.specs.Prelude.{All}
use Rattle.crossbeam_queue.specs.Passes.{view, IsSamePass}
use Rattle.worker_pool.specs.Workers.{HasEnded, IsPoolPass, IsOfRun}
use Rattle.worker_pool.proofs.pool.absorb_all.Given as goal

abbrev pub invariant-loop-worker : goal.invariant-loop-worker
invariant-loop-worker g l =
    IsPoolPass l.line l.all.pass
    × IsSamePass l.fn.all.pass l.all.pass
    × (0 < (view l.all.pass).parts)
    × ((view l.all.pass).parts + length l.ended.items ≡ (view l.fn.all.pass).parts + length l.fn.ended.items)
    × ((view l.all.pass).firsts ≡ (view l.fn.all.pass).firsts)
    × HasEnded g.T.PoolItem.since g.T.PoolItem.over (g.S.StopFlag.may_be_set l._stop) l.all
    × All (IsOfRun l.line (view l.fn.all.pass).firsts) l.ended.items
    × All (HasEnded g.T.PoolItem.since g.T.PoolItem.over (g.S.StopFlag.may_be_set l._stop)) l.ended.items

abbrev pub decreases-loop-worker : goal.decreases-loop-worker
decreases-loop-worker g l = length l.ended.items
