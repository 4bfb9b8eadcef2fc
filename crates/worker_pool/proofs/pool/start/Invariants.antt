use Rattle.std.proofs.Common.{◌≡◌, ◌≤◌, ◌+◌, ◌-◌, length}
use Rattle.std.specs.Vec.{vec_capacity}
use Rattle.crossbeam_queue.specs.Passes.{view, IsSamePass}
use Rattle.std.specs.Prelude.{All}
use Rattle.worker_pool.specs.Workers.{IsFresh, IsPoolPass, Knows}
use Rattle.worker_pool.proofs.pool.start.Given as goal

abbrev pub invariant-loop-alloc : goal.invariant-loop-alloc
invariant-loop-alloc g l =
    IsPoolPass l.line l.pass
    × IsSamePass l.fn.pass l.pass
    × (length l.jobs.items ≤ l.workers)
    × (l.workers ≤ vec_capacity l.jobs)
    × ((view l.pass).parts + length l.jobs.items ≡ (view l.fn.pass).parts)
    × ((view l.pass).held ≡ (view l.fn.pass).held)
    × ((view l.pass).firsts ≡ (view l.fn.pass).firsts)
    × All (IsFresh g.T.PoolItem.since g.T.PoolItem.over l.line) l.jobs.items
    × All (Knows (view l.fn.pass).firsts) l.jobs.items

abbrev pub decreases-loop-alloc : goal.decreases-loop-alloc
decreases-loop-alloc g l = l.workers - length l.jobs.items
