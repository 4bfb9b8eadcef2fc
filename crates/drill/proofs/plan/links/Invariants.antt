use Rattle.std.proofs.Common.{◌≡◌}
use Rattle.std.specs.Prelude.{map}
use Rattle.std.specs.List.{range_with_len}
use Rattle.drill.specs.Drill.{link_of_client}
use Rattle.drill.proofs.plan.links.Given as goal

abbrev pub invariant-loop-before : goal.invariant-loop-before
invariant-loop-before l = l.pairs ≡ map link_of_client (range_with_len 1 l.before)
