use Rattle.std.proofs.Common.{◌≡◌}
use Rattle.spsc_queue.specs.Ends.{pushed_of, capacity_of, producer_queue}
use Rattle.spsc_queue.proofs.producer.Producer.wait_for_more.Given as goal

-- nothing was pushed so far
abbrev pub invariant-loop : goal.invariant-loop
invariant-loop g l =
    (goal.iterator-loop g).can_next l.iterator'
    × (goal.iterator-loop g).is_finite l.iterator'
    × (pushed_of l.self ≡ pushed_of l.initial.self)
    × (producer_queue l.self ≡ producer_queue l.initial.self)
    × (capacity_of l.self ≡ capacity_of l.initial.self)
