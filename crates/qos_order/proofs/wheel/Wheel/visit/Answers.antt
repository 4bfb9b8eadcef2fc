use Rattle.std.proofs.Common.{◌≡◌, Some, slice_get, ◌∙◌, sym, subst}
use Rattle.qos_order.proofs.Turns.{ascends_after, first_fits, visited_sound, written}
use Rattle.qos_order.specs.Account.{IsWithinGrant, Visit}
use Rattle.qos_order.specs.Wheel.{IsWheelVisit, WheelVisit, WheelState, first_grant}
use Rattle.qos_order.proofs.wheel.Wheel.visit.Goals as goal

pub count-requires-clause-fits : goal.count-requires-clause-fits
count-requires-clause-fits c =
    let wheel : WheelState = record { listed = c.self.inside.seats.items; order = c.self.inside.order.items } in
    let is : wheel ≡ c.args.self.now = c.self.view_is in
    let visit : Visit = record { given = c.args.given; ending = c.args.ending } in
    rw c.deref_mut.ensures.value (first_fits wheel visit c.in-Some.conn c.self.invariant.0
    (subst (λ (w : WheelState). Some c.in-Some.conn ≡ slice_get w.order 0) (sym is) c.in-Some.ensures) (subst (λ (w : WheelState). IsWithinGrant (first_grant w) visit) (sym is) c.requires.fits))

pub invariant_of-self : goal.invariant_of-self
invariant_of-self c =
    let wheel : WheelState = record { listed = c.self.inside.seats.items; order = c.self.inside.order.items } in
    let is : wheel ≡ c.args.self.now = c.self.view_is in
    let turn : WheelVisit = record { visit = record { given = c.args.given; ending = c.args.ending }; leaves = c.args.leaves } in
    let first = subst (λ (w : WheelState). Some c.in-Some.conn ≡ slice_get w.order 0) (sym is) c.in-Some.ensures in
    let fresh = written c.count.new.seats c.self.inside.seats.items c.self.inside.seats.len (c.count.auto.seats ∙ c.deref_mut.ensures.len) in
    let listed = rw c.deref_mut.ensures.value at c.count.ensures in
    let is_turn = subst (λ (w : WheelState). IsWheelVisit w turn) (sym is) c.requires in
    rw fresh (
      visited_sound wheel turn c.in-Some.conn c.count.new.seats c.rotate.new.order.items c.self.invariant.0 is_turn first listed c.rotate.ensures,
      ascends_after c.in-Some.conn turn.visit c.self.inside.seats.items c.count.new.seats listed c.self.invariant.1,
    )

pub returns-clause-wheel : goal.returns-clause-wheel
returns-clause-wheel c =
    let wheel : WheelState = record { listed = c.self.inside.seats.items; order = c.self.inside.order.items } in
    let is : wheel ≡ c.args.self.now = c.self.view_is in
    let turn : WheelVisit = record { visit = record { given = c.args.given; ending = c.args.ending }; leaves = c.args.leaves } in
    let first = subst (λ (w : WheelState). Some c.in-Some.conn ≡ slice_get w.order 0) (sym is) c.in-Some.ensures in
    let fresh = written c.count.new.seats c.self.inside.seats.items c.self.inside.seats.len (c.count.auto.seats ∙ c.deref_mut.ensures.len) in
    let listed = rw c.deref_mut.ensures.value at c.count.ensures in
    let is_turn = subst (λ (w : WheelState). IsWheelVisit w turn) (sym is) c.requires in
    rw fresh (visited_sound wheel turn c.in-Some.conn c.count.new.seats c.rotate.new.order.items c.self.invariant.0 is_turn first listed c.rotate.ensures)
