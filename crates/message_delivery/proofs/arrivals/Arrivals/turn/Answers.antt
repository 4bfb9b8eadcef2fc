use Rattle.std.proofs.Common.{List, sym, subst, refl, arith, option_copied}
use Rattle.receive_core.specs.ReceiverTraces.{Fated, IsAnswerFor, after_fates}
use Rattle.message_delivery.specs.Arriving.{AreFatesOf, IsArrivalTrace, HasHeld}
use Rattle.message_delivery.specs.declared.arrivals.Arrivals.{Arrivals}
use Rattle.message_delivery.specs.declared.arrivals.DeliveryOutcome.TheVariants.{Delivered}
use Rattle.message_delivery.proofs.Lived.{few-blocks, few-stores, held-arrived, held-dropped, held-none, held-waiting, same-heap, turned-arrived, turned-dropped, turned-nothing}
use Rattle.message_delivery.proofs.arrivals.Arrivals.turn.Goals as goal

pub turn-requires-clause-few : goal.turn-requires-clause-few
turn-requires-clause-few c = few-stores c.requires.0 c.args.self.now c.trace_of_receiver.ensures.stores c.requires.1

pub turn-requires-clause-blocks : goal.turn-requires-clause-blocks
turn-requires-clause-blocks c = few-blocks c.requires.0 c.args.self.now c.requires.1

pub returns-in_ok-push-in-Arrived-clause-lived : goal.returns-in_ok-push-in-Arrived-clause-lived
returns-in_ok-push-in-Arrived-clause-lived c life h =
    let new : Arrivals = record {
      inbound = c.turn.new.self;
      writer = c.turn.new.heap;
      table = c.args.self.now.table;
      policy = c.args.self.now.policy;
      lines = c.push.new.self;
      stream = c.args.self.now.stream;
      fault = c.args.self.now.fault;
    } in
    subst (λ d. (more : List Fated) × AreFatesOf (Delivered d) more × IsArrivalTrace (after_fates life more) new)
    (sym c.placed_message.ensures)
    (turned-arrived life c.args.self.now new c.in_ok-turn.field-0 c.in-Arrived.kind c.in-Arrived.method c.in-Arrived.number
    c.in-Arrived.block c.in-Arrived.tree h (c.in_ok-turn.ensures.life life h.lives) c.in-Arrived.is
    (record { table = refl; policy = refl; words = c.turn.ensures.words; places = c.turn.ensures.places; stream = refl; fault = refl })
    c.in_ok-push-in-Arrived.ensures.items
    (let less = c.if-len-ge-MAX_ARRIVALS.false in omega (arith, less)))

pub returns-in_ok-push-in-Dropped-clause-lived : goal.returns-in_ok-push-in-Dropped-clause-lived
returns-in_ok-push-in-Dropped-clause-lived c life h =
    turned-dropped life c.args.self.now _ c.in_ok-turn.field-0 c.in-Dropped.kind c.in-Dropped.method c.in-Dropped.number
    c.in-Dropped.why h (c.in_ok-turn.ensures.life life h.lives) c.in-Dropped.is
    (record { table = refl; policy = refl; words = c.turn.ensures.words; places = c.turn.ensures.places; stream = refl; fault = refl })
    c.in_ok-push-in-Dropped.ensures.items
    (let less = c.if-len-ge-MAX_ARRIVALS.false in omega (arith, less))

pub returns-in_err-turn-clause-same : goal.returns-in_err-turn-clause-same
returns-in_err-turn-clause-same c = record {
  table = refl;
  policy = refl;
  conn = c.turn.ensures.conn;
  words = c.turn.ensures.places;
  heap = same-heap c.args.self.now.writer c.turn.new.heap c.turn.ensures.same_heap;
}

pub returns-in_err-push-in-Arrived-clause-same : goal.returns-in_err-push-in-Arrived-clause-same
returns-in_err-push-in-Arrived-clause-same c = record {
  table = refl;
  policy = refl;
  conn = c.turn.ensures.conn;
  words = c.turn.ensures.places;
  heap = same-heap c.args.self.now.writer c.turn.new.heap c.turn.ensures.same_heap;
}

pub returns-in_err-push-in-Dropped-clause-same : goal.returns-in_err-push-in-Dropped-clause-same
returns-in_err-push-in-Dropped-clause-same c = record {
  table = refl;
  policy = refl;
  conn = c.turn.ensures.conn;
  words = c.turn.ensures.places;
  heap = same-heap c.args.self.now.writer c.turn.new.heap c.turn.ensures.same_heap;
}

pub returns-in-None-clause-same : goal.returns-in-None-clause-same
returns-in-None-clause-same c = record {
  table = refl;
  policy = refl;
  conn = c.turn.ensures.conn;
  words = c.turn.ensures.places;
  heap = same-heap c.args.self.now.writer c.turn.new.heap c.turn.ensures.same_heap;
}

pub returns-in-Waiting-clause-same : goal.returns-in-Waiting-clause-same
returns-in-Waiting-clause-same c = record {
  table = refl;
  policy = refl;
  conn = c.turn.ensures.conn;
  words = c.turn.ensures.places;
  heap = same-heap c.args.self.now.writer c.turn.new.heap c.turn.ensures.same_heap;
}

pub returns-in_ok-push-in-Arrived-clause-same : goal.returns-in_ok-push-in-Arrived-clause-same
returns-in_ok-push-in-Arrived-clause-same c = record {
  table = refl;
  policy = refl;
  conn = c.turn.ensures.conn;
  words = c.turn.ensures.places;
  heap = same-heap c.args.self.now.writer c.turn.new.heap c.turn.ensures.same_heap;
}

pub returns-in_ok-push-in-Dropped-clause-same : goal.returns-in_ok-push-in-Dropped-clause-same
returns-in_ok-push-in-Dropped-clause-same c = record {
  table = refl;
  policy = refl;
  conn = c.turn.ensures.conn;
  words = c.turn.ensures.places;
  heap = same-heap c.args.self.now.writer c.turn.new.heap c.turn.ensures.same_heap;
}

pub returns-in-None-clause-lived : goal.returns-in-None-clause-lived
returns-in-None-clause-lived c life h =
    let m = c.in_ok-turn.ensures.life life h.lives in
    turned-nothing life c.args.self.now _ c.in_ok-turn.field-0 h m
    (subst (λ x. IsAnswerFor (option_copied c.args.self.now.policy) x m.0) c.in-None.is m.1)
    (record { table = refl; policy = refl; words = c.turn.ensures.words; places = c.turn.ensures.places; stream = refl; fault = refl })
    refl

pub returns-in-Waiting-clause-lived : goal.returns-in-Waiting-clause-lived
returns-in-Waiting-clause-lived c life h =
    let m = c.in_ok-turn.ensures.life life h.lives in
    turned-nothing life c.args.self.now _ c.in_ok-turn.field-0 h m
    (subst (λ x. IsAnswerFor (option_copied c.args.self.now.policy) x m.0) c.in-Waiting.is m.1)
    (record { table = refl; policy = refl; words = c.turn.ensures.words; places = c.turn.ensures.places; stream = refl; fault = refl })
    refl

pub returns-in-None-clause-held : goal.returns-in-None-clause-held
returns-in-None-clause-held c =
    held-none c.args.self.now.table.now (option_copied c.args.self.now.policy) c.args.self.now.inbound c.turn.new.self
    c.args.self.now.writer.stores c.turn.new.heap.stores c.in_ok-turn.field-0 c.in_ok-turn.ensures.turns c.in-None.is

pub returns-in-Waiting-clause-held : goal.returns-in-Waiting-clause-held
returns-in-Waiting-clause-held c =
    held-waiting c.args.self.now.table.now (option_copied c.args.self.now.policy) c.args.self.now.inbound c.turn.new.self
    c.args.self.now.writer.stores c.turn.new.heap.stores c.in_ok-turn.field-0 _ _ c.in_ok-turn.ensures.turns
    c.in-Waiting.is

pub returns-in_ok-push-in-Dropped-clause-held : goal.returns-in_ok-push-in-Dropped-clause-held
returns-in_ok-push-in-Dropped-clause-held c =
    held-dropped c.args.self.now.table.now (option_copied c.args.self.now.policy) c.args.self.now.inbound c.turn.new.self
    c.args.self.now.writer.stores c.turn.new.heap.stores c.in_ok-turn.field-0 c.in-Dropped.kind c.in-Dropped.method
    c.in-Dropped.number c.in-Dropped.why c.in_ok-turn.ensures.turns c.in-Dropped.is

pub returns-in_ok-push-in-Arrived-clause-held : goal.returns-in_ok-push-in-Arrived-clause-held
returns-in_ok-push-in-Arrived-clause-held c =
    subst (λ d. HasHeld (Delivered d) c.args.self.now.inbound.heap.held c.turn.new.self.heap.held)
    (sym c.placed_message.ensures) (
      c.in-Arrived.block,
      refl,
      refl,
      held-arrived c.args.self.now.table.now (option_copied c.args.self.now.policy)
          c.args.self.now.inbound c.turn.new.self c.args.self.now.writer.stores c.turn.new.heap.stores c.in_ok-turn.field-0
          c.in-Arrived.kind c.in-Arrived.method c.in-Arrived.number c.in-Arrived.block c.in-Arrived.tree
          c.in_ok-turn.ensures.turns c.in-Arrived.is,
    )
