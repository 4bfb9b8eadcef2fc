use Rattle.std.proofs.Common.{◌≡◌, ◌≤◌, ◌+◌, [], ◌++◌, length}
use Rattle.std.specs.Vec.Iter.{into_iter_items}
use Rattle.crossbeam_queue.specs.Passes.{view, IsSamePass}
use Rattle.worker_pool.specs.declared.limits.TheConstants.{MAX_POOL_ITEMS}
use Rattle.worker_pool.specs.Rule.{all_parts}
use Rattle.worker_pool.specs.Workers.{IsPoolPass}
use Rattle.worker_pool.proofs.pool.enter_all.Given as goal

abbrev pub invariant-loop-item : goal.invariant-loop-item
invariant-loop-item g l =
    IsPoolPass l.line l.pass
    × IsSamePass l.fn.pass l.pass
    × ((view l.pass).parts ≡ all_parts)
    × ((view l.pass).held ≡ [])
    × ((view l.pass).firsts ++ into_iter_items l.rest ≡ l.fn.items.items)
    × (l.number ≡ length (view l.pass).firsts)
    × (l.number + length (into_iter_items l.rest) ≤ MAX_POOL_ITEMS)

abbrev pub decreases-loop-item : goal.decreases-loop-item
decreases-loop-item g l = length (into_iter_items l.rest)
