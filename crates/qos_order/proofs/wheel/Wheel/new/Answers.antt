use Rattle.std.proofs.Common.{◌≡◌, map, ◌∙◌, ap}
use Rattle.qos_order.proofs.Opening.{opened_ascends, opened_wheel, seat_opened}
use Rattle.qos_order.specs.Weights.{conns_of_weights}
use Rattle.qos_order.specs.Wheel.{new_wheel_entry}
use Rattle.qos_order.proofs.wheel.Wheel.new.Goals as goal

pub invariant_of-result : goal.invariant_of-result
invariant_of-result c =
    let same : c.from_vec.result ≡ c.args.weights = c.from_vec.ensures ∙ c.into_vec-entries.ensures in
    let order = c.in-Ok.ensures ∙ ap conns_of_weights (c.as_slice.ensures.value ∙ c.into_vec-entries.ensures) in
    let seats = c.in-Ok-seats.ensures ∙ ap (map new_wheel_entry) c.as_slice-2.ensures.value in
    let sound = rw same at c.in_ok-weights.ensures.sound in
    let moved = rw same at c.in_ok-weights.ensures.same in
    (rw (seats, order) (opened_wheel c.args.weights c.in_ok-weights.weights.items sound moved), rw seats (opened_ascends c.in_ok-weights.weights.items c.in_ok-weights.ensures.ascends))

pub returns-in-Ok-seats-clause-seats : goal.returns-in-Ok-seats-clause-seats
returns-in-Ok-seats-clause-seats c = λ conn.
    let same : c.from_vec.result ≡ c.args.weights = c.from_vec.ensures ∙ c.into_vec-entries.ensures in
    let seats = c.in-Ok-seats.ensures ∙ ap (map new_wheel_entry) c.as_slice-2.ensures.value in
    let sound = rw same at c.in_ok-weights.ensures.sound in
    let moved = rw same at c.in_ok-weights.ensures.same in
    rw seats (seat_opened c.args.weights c.in_ok-weights.weights.items conn sound moved)

pub returns-in-Ok-seats-clause-wheel : goal.returns-in-Ok-seats-clause-wheel
returns-in-Ok-seats-clause-wheel c =
    let same : c.from_vec.result ≡ c.args.weights = c.from_vec.ensures ∙ c.into_vec-entries.ensures in
    let order = c.in-Ok.ensures ∙ ap conns_of_weights (c.as_slice.ensures.value ∙ c.into_vec-entries.ensures) in
    let seats = c.in-Ok-seats.ensures ∙ ap (map new_wheel_entry) c.as_slice-2.ensures.value in
    let sound = rw same at c.in_ok-weights.ensures.sound in
    let moved = rw same at c.in_ok-weights.ensures.same in
    rw (seats, order) (opened_wheel c.args.weights c.in_ok-weights.weights.items sound moved)
