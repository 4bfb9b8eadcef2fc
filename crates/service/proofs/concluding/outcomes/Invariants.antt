use Rattle.std.proofs.Common.{◌≡◌, ◌++◌, length, map}
use Rattle.std.specs.Vec.Iter.{into_iter_items}
use Rattle.service.specs.Concluding.{unmatched_of, outcomes_of}
use Rattle.service.proofs.concluding.outcomes.Given as goal

abbrev pub invariant-loop-one : goal.invariant-loop-one
invariant-loop-one g l =
    (outcomes_of l.fn.standings.items l.fn.met.items
    ≡ l.conns.items ++ outcomes_of (into_iter_items l.rest) (into_iter_items l.met))
    × (unmatched_of l.fn.standings.items l.fn.met.items ≡ unmatched_of (into_iter_items l.rest) (into_iter_items l.met))
    × (l.others.items ++ map (λ m. m.seats) (into_iter_items l.met) ≡ map (λ m. m.seats) l.fn.met.items)

abbrev pub decreases-loop-one : goal.decreases-loop-one
decreases-loop-one g l = length (into_iter_items l.rest)
