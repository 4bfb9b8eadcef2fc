use Rattle.std.proofs.Common.{◌≡◌, take}
use Rattle.qos_order.specs.Weights.{conns_of_weights}
use Rattle.qos_order.proofs.wheel_entries.conns.Given as goal

abbrev pub invariant-loop-weight : goal.invariant-loop-weight
invariant-loop-weight l = l.order.items ≡ conns_of_weights (take l.weight-index l.weights)
