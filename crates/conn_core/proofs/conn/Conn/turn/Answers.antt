use Rattle.std.proofs.Common.{length, ap, arith}
use Rattle.engine_core.specs.Engines.{EngineParts}
use Rattle.call_history.specs.Records.{op_at}
use Rattle.conn_core.specs.Connections.{Connection}
use Rattle.conn_core.specs.Invariant.{connection_of}
use Rattle.conn_core.proofs.KeptTurned.{of-table}
use Rattle.conn_core.proofs.Lists.{map-at}
use Rattle.conn_core.proofs.Ruled.{turn-by}
use Rattle.conn_core.proofs.TurnTold.{aligned, draws-behind, kept-behind, parts-behind, step-put, steps-behind, turn-has-room, turned-kept}
use Rattle.conn_core.proofs.conn.Conn.turn.Goals as goal

pub turn-turned-requires-clause-calls : goal.turn-turned-requires-clause-calls
turn-turned-requires-clause-calls g c = of-table c.pending_calls_have_forms.ensures.forms
    (connection_of c.self.inside.conn c.self.inside.table.now c.self.inside.limit c.self.inside.chain c.self.inside.history
    c.self.inside.ended) c.self.invariant.connection

pub index-step-requires : goal.index-step-requires
index-step-requires g c =
    omega (
      arith,
      aligned _ _ _ _ _ c.self.invariant,
      c.requires.at,
      ap
          (λ (x : Connection). length x.chain.engines) c.self.view_is,
    )

pub record_turn-requires-clause-step : goal.record_turn-requires-clause-step
record_turn-requires-clause-step g c =
    (step-put (connection_of c.self.inside.conn c.self.inside.table.now c.self.inside.limit c.self.inside.chain
    c.self.inside.history c.self.inside.ended)
    c.self.inside.steps.items c.self.inside.history c.self.inside.accepted c.self.inside.moment c.args.at
    c.index-step.result.now c.engine.result.now.entry c.self.invariant
    (map-at (λ (e : EngineParts). e.entry) c.self.inside.chain.engines c.args.at c.engine.result.now c.engine.ensures)
    c.index-step.ensures).within

pub record_turn-requires-clause-room : goal.record_turn-requires-clause-room
record_turn-requires-clause-room g c = turn-has-room (record {
  again = c.clear_is_idempotent.ensures;
  either = c.clears_commute.ensures.either_first;
})
    c.self.inside.conn c.self.inside.table.now c.self.inside.limit c.self.inside.chain c.turn-turned.new.self
    c.self.inside.history c.self.inside.ended c.self.inside.steps.items
    c.self.inside.accepted c.self.inside.moment c.args.at c.turn-turned.result c.self.invariant
    c.turn-turned.ensures.turn

pub record_turn-requires-clause-rule : goal.record_turn-requires-clause-rule
record_turn-requires-clause-rule g c = turn-by (op_at c.self.inside.history.steps c.index-step.result.now)
    c.engine.result.now c.self.inside.chain c.turn-turned.new.self c.args.at c.self.inside.moment c.turn-turned.result
    c.engine.ensures
    (step-put (connection_of c.self.inside.conn c.self.inside.table.now c.self.inside.limit c.self.inside.chain
    c.self.inside.history c.self.inside.ended)
    c.self.inside.steps.items c.self.inside.history c.self.inside.accepted c.self.inside.moment c.args.at
    c.index-step.result.now c.engine.result.now.entry c.self.invariant
    (map-at (λ (e : EngineParts). e.entry) c.self.inside.chain.engines c.args.at c.engine.result.now c.engine.ensures)
    c.index-step.ensures).put
    c.turn-turned.ensures.turn

pub invariant_of-self : goal.invariant_of-self
invariant_of-self g c = kept-behind c.self.inside.conn c.self.inside.table.now c.self.inside.limit c.self.inside.chain
    c.turn-turned.new.self c.self.inside.history c.record_turn.new.history
    c.self.inside.ended c.self.inside.steps.items c.self.inside.accepted c.self.inside.moment c.args.at
    c.turn-turned.result c.self.invariant
    (λ idle. (c.turn-turned.ensures.as_before idle).0) c.record_turn.ensures.idle
    (turned-kept c.transitions_preserve_invariant.ensures.event c.pending_calls_have_forms.ensures.forms
    (record { again = c.clear_is_idempotent.ensures; either = c.clears_commute.ensures.either_first }) c.clears_shorten.ensures
    c.self.inside.conn c.self.inside.table.now c.self.inside.limit c.self.inside.chain c.turn-turned.new.self
    c.self.inside.history c.record_turn.new.history c.self.inside.ended c.self.inside.steps.items
    c.self.inside.accepted c.self.inside.moment c.args.at c.index-step.result.now c.version-version.result
    c.engine.result.now c.turn-turned.result c.self.invariant c.engine.ensures
    c.version-version.ensures c.index-step.ensures c.turn-turned.ensures.first c.turn-turned.ensures.turn
    c.turn-turned.ensures.row c.turn-turned.ensures.attached c.is_chain_state.ensures
    c.record_turn.ensures.steps c.record_turn.ensures.told c.record_turn.ensures.room)

pub returns-clause-turned : goal.returns-clause-turned
returns-clause-turned g c = steps-behind c.args.self.now
    (connection_of c.self.inside.conn c.self.inside.table.now c.self.inside.limit c.self.inside.chain c.self.inside.history
    c.self.inside.ended)
    (connection_of c.self.inside.conn c.self.inside.table.now c.self.inside.limit c.turn-turned.new.self
    c.record_turn.new.history c.self.inside.ended)
    c.self.inside.steps.items c.record_turn.new.history c.self.inside.accepted c.self.inside.moment c.args.at
    c.turn-turned.result c.self.view_is
    (turned-kept c.transitions_preserve_invariant.ensures.event c.pending_calls_have_forms.ensures.forms
    (record { again = c.clear_is_idempotent.ensures; either = c.clears_commute.ensures.either_first }) c.clears_shorten.ensures
    c.self.inside.conn c.self.inside.table.now c.self.inside.limit c.self.inside.chain c.turn-turned.new.self
    c.self.inside.history c.record_turn.new.history c.self.inside.ended c.self.inside.steps.items
    c.self.inside.accepted c.self.inside.moment c.args.at c.index-step.result.now c.version-version.result
    c.engine.result.now c.turn-turned.result c.self.invariant c.engine.ensures
    c.version-version.ensures c.index-step.ensures c.turn-turned.ensures.first c.turn-turned.ensures.turn
    c.turn-turned.ensures.row c.turn-turned.ensures.attached c.is_chain_state.ensures
    c.record_turn.ensures.steps c.record_turn.ensures.told c.record_turn.ensures.room)

pub returns-clause-draws : goal.returns-clause-draws
returns-clause-draws g c =
    draws-behind g.Q.Tickets.knows g.Q.Tickets.drawn g.Q.Tickets.since c.args.self.now c.self.inside.conn
    c.self.inside.table.now c.self.inside.limit
    c.self.inside.chain c.turn-turned.new.self c.self.inside.history c.record_turn.new.history c.self.inside.ended
    c.self.inside.steps.items
    c.self.inside.accepted c.self.inside.moment c.args.at c.index-step.result.now c.version-version.result
    c.engine.result.now c.turn-turned.result c.args.tickets.now c.turn-turned.new.tickets
    c.self.view_is c.self.invariant c.engine.ensures c.version-version.ensures c.index-step.ensures
    (λ idle. (c.turn-turned.ensures.as_before idle).0) c.record_turn.ensures.idle (λ idle.
    (c.turn-turned.ensures.as_before idle).1)
    c.record_turn.ensures.told c.turn-turned.ensures.tickets

pub returns-clause-smaller : goal.returns-clause-smaller
returns-clause-smaller g c = parts-behind c.args.self.now c.self.inside.conn c.self.inside.table.now c.self.inside.limit
    c.self.inside.chain c.turn-turned.new.self c.self.inside.history c.record_turn.new.history c.self.inside.ended
    c.args.at c.self.inside.moment c.turn-turned.result c.self.view_is c.turn-turned.ensures.turn
