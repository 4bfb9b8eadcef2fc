use Rattle.std.proofs.Common.{◌≡◌, take, map}
use Rattle.qos_order.specs.Wheel.{new_wheel_entry}
use Rattle.qos_order.proofs.wheel_entries.seats.Given as goal

abbrev pub invariant-loop-weight : goal.invariant-loop-weight
invariant-loop-weight l = l.seats.items ≡ map new_wheel_entry (take l.weight-index l.weights)
