use Rattle.std.proofs.Common.{◌≡◌, map, take}
use Rattle.run_driver.specs.Ordering.{weight_in}
use Rattle.run_driver.proofs.ordering.weights.Given as goal

abbrev pub invariant-loop-app : goal.invariant-loop-app
invariant-loop-app l = l.weights.items ≡ map weight_in (take l.app-index l.apps)
