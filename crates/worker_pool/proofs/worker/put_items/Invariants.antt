use Rattle.std.proofs.Common.{◌≡◌, ◌≤◌, ◌+◌, ◌++◌, length, map}
use Rattle.std.specs.Vec.{vec_capacity}
use Rattle.std.specs.Vec.Iter.{into_iter_items}
use Rattle.worker_pool.proofs.worker.put_items.Given as goal

abbrev pub invariant-loop-numbered : goal.invariant-loop-numbered
invariant-loop-numbered g l =
    (l.items.items ++ map (λ x. x.item.value) (into_iter_items l.rest) ≡ map (λ x. x.item.value) l.fn.kept.items)
    × (length l.items.items + length (into_iter_items l.rest) ≤ vec_capacity l.items)

abbrev pub decreases-loop-numbered : goal.decreases-loop-numbered
decreases-loop-numbered g l = length (into_iter_items l.rest)
