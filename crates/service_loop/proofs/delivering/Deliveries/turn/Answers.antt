use Rattle.std.proofs.Common.{[], subst, ◌≤◌}
use Rattle.message_delivery.specs.Arriving.{IfDelivered}
use Rattle.service_loop.specs.Delivering.{placed_messages_of}
use Rattle.service_loop.proofs.Delivered.{fated-none, open-later, room-for-one, turned-delivered, turned-dropped, turned-nothing}
use Rattle.service_loop.proofs.delivering.Deliveries.turn.Goals as goal

pub turn-requires : goal.turn-requires
turn-requires c = (c.requires.0, c.requires.3.lived)

pub returns-then-is_closing-clause-delivered : goal.returns-then-is_closing-clause-delivered
returns-then-is_closing-clause-delivered c life numbers back h = ([], fated-none life numbers back c.args.self.now h)

pub returns-in-Nothing-clause-delivered : goal.returns-in-Nothing-clause-delivered
returns-in-Nothing-clause-delivered c life numbers back h =
    turned-nothing life numbers back c.args.self.now c.turn.new.self c.in_ok-turn.field-0 h
    (c.in_ok-turn.ensures.lived life h.lived) c.in-Nothing.is c.in_ok-turn.ensures.held c.turn.ensures.same.heap
    (c.is_closing.ensures.open c.if-is_closing.false)

pub returns-in-Dropped-clause-delivered : goal.returns-in-Dropped-clause-delivered
returns-in-Dropped-clause-delivered c life numbers back h =
    turned-dropped life numbers back c.args.self.now c.turn.new.self c.in_ok-turn.field-0 h
    (c.in_ok-turn.ensures.lived life h.lived) c.in-Dropped.is c.in_ok-turn.ensures.held c.turn.ensures.same.heap
    (c.is_closing.ensures.open c.if-is_closing.false)

pub returns-in_ok-add-in-Delivered-clause-delivered : goal.returns-in_ok-add-in-Delivered-clause-delivered
returns-in_ok-add-in-Delivered-clause-delivered c life numbers back h =
    turned-delivered life numbers back c.args.self.now c.turn.new.self c.add.new.self c.in_ok-turn.field-0
    c.in-Delivered.message h (c.in_ok-turn.ensures.lived life h.lived) c.in-Delivered.is c.in_ok-turn.ensures.held
    c.turn.ensures.same.heap
    (c.in_ok-add-in-Delivered.ensures.telling c.args.self.now.arrivals.writer.heap (placed_messages_of life.fates) h.told
    (subst (λ x. IfDelivered x (λ d. (1 ≤ d.kind) × (d.kind ≤ 2))) c.in-Delivered.is c.in_ok-turn.ensures.kind)
    (room-for-one life c.args.self.now.arrivals h.lived))
    (open-later c.args.self.now.notices c.add.new.self c.add.ensures.open
    (c.is_closing.ensures.open c.if-is_closing.false))
