use Rattle.std.proofs.Common.{◌≡◌, ◌∙◌, ap, refl, subst, sym, arith}
use Rattle.std.specs.Prelude.{All, None}
use Rattle.engine_core.specs.Moves.{first_at}
use Rattle.engine_core.specs.Policies.{KnowsTenantOf}
use Rattle.call_history.specs.Transitions.{turns}
use Rattle.engine_core.specs.declared.outcome.Noted.TheVariants as notes
use Rattle.engine_core.specs.declared.outcome.Outcome.TheVariants as outcomes
use Rattle.conn_core.specs.Connections.{Connection, conn_state, judge_context}
use Rattle.conn_core.specs.Invariant.{HasAdvancedByTurns}
use Rattle.conn_core.specs.ConnectionSteps.{IsStep}
use Rattle.conn_core.proofs.Passing.{fewer-waiting, turn-in}
use Rattle.conn_core.proofs.TurnByTurn.{again-redacted, follows-done, known-later, rest-held, rest-idle, same-under, went-both, went-turn, went-unnoted}
use Rattle.conn_core.proofs.draining.turns_at.Goals as goal

pub turn-requires-clause-known : goal.turn-requires-clause-known
turn-requires-clause-known g c =
    subst (λ (x : Connection). All (λ e. KnowsTenantOf (g.Q.Tickets.knows c.turns.tickets) e.entry.policy) x.chain.engines)
    (sym c.if-not-pass_unnoted.ensures.as_before)
    (known-later (g.Q.Tickets.knows c.args.tickets.now) (g.Q.Tickets.knows c.turns.tickets) c.args.conn.now c.turns.conn
    c.is_connection.ensures c.is_connection-in-turns.ensures c.turns.invariant.1.same_chain
    c.turns.invariant.1.draws.knows c.requires.known)

pub returns-in-Idle-clause-rest : goal.returns-in-Idle-clause-rest
returns-in-Idle-clause-rest g c =
    rest-idle (judge_context c.args.conn.now) c.args.at (conn_state c.args.conn.now) (conn_state c.turns.conn)
    (conn_state c.turn.new.self) c.turns.invariant.0
    (subst (λ (x : Connection). first_at c.args.at x.chain.row ≡ None) c.if-not-pass_unnoted.ensures.as_before
    (c.in-Idle.ensures.idle.0 refl))
    (ap (λ (x : Connection). conn_state x) ((c.in-Idle.ensures.as_before refl).0 ∙ c.if-not-pass_unnoted.ensures.as_before))

pub returns-in-Held-clause-rest : goal.returns-in-Held-clause-rest
returns-in-Held-clause-rest g c =
    rest-held (judge_context c.args.conn.now) (judge_context c.turns.conn) c.args.at c.in-Held.seq c.in-Held.level c.in-Held.cost
    (conn_state c.args.conn.now) (conn_state c.turns.conn)
    (conn_state c.turn.new.self) (same-under c.args.conn.now c.turns.conn c.turns.invariant.1.same) c.turns.invariant.0
    (turn-in (judge_context c.turns.conn) (conn_state c.turns.conn) (conn_state c.turn.new.self) c.args.at c.in-Held.seq
    (outcomes.Held c.in-Held.level c.in-Held.cost)
    (subst (λ (x : Connection). IsStep x
    (turns c.args.at c.in-Held.seq (outcomes.Held c.in-Held.level c.in-Held.cost)) c.turn.new.self)
    c.if-not-pass_unnoted.ensures.as_before c.in-Held.ensures.turned))

pub returns-in-Held-clause-went : goal.returns-in-Held-clause-went
returns-in-Held-clause-went g c =
    went-both g.Q.Tickets.knows g.Q.Tickets.drawn g.Q.Tickets.since c.args.conn.now c.turns.conn c.turn.new.self
    c.args.tickets.now c.turns.tickets c.turn.new.tickets
    c.turns.invariant.1
    (subst (λ (x : Connection). HasAdvancedByTurns g.Q.Tickets.knows g.Q.Tickets.drawn g.Q.Tickets.since x c.turn.new.self
    c.turns.tickets c.turn.new.tickets) c.if-not-pass_unnoted.ensures.as_before
    (went-turn g.Q.Tickets.knows g.Q.Tickets.drawn g.Q.Tickets.since c.pass_unnoted.new.self c.turn.new.self
    c.turns.tickets c.turn.new.tickets c.args.at c.turn.result
    c.turn.ensures.same c.turn.ensures.as_before c.turn.ensures.turned c.turn.ensures.smaller c.turn.ensures.draws))

pub returns-in-Redacted-clause-again : goal.returns-in-Redacted-clause-again
returns-in-Redacted-clause-again g c =
    again-redacted (judge_context c.args.conn.now) (judge_context c.turns.conn) c.args.at c.in-Redacted.seq (conn_state c.args.conn.now)
    (conn_state c.turns.conn)
    (conn_state c.turn.new.self) (same-under c.args.conn.now c.turns.conn c.turns.invariant.1.same) c.turns.invariant.0
    (turn-in (judge_context c.turns.conn) (conn_state c.turns.conn)
    (conn_state c.turn.new.self) c.args.at c.in-Redacted.seq outcomes.Redacted
    (subst (λ (x : Connection). IsStep x (turns c.args.at c.in-Redacted.seq outcomes.Redacted) c.turn.new.self)
    c.if-not-pass_unnoted.ensures.as_before c.in-Redacted.ensures.turned))

pub returns-in-Redacted-clause-went : goal.returns-in-Redacted-clause-went
returns-in-Redacted-clause-went g c =
    went-both g.Q.Tickets.knows g.Q.Tickets.drawn g.Q.Tickets.since c.args.conn.now c.turns.conn c.turn.new.self
    c.args.tickets.now c.turns.tickets c.turn.new.tickets
    c.turns.invariant.1
    (subst (λ (x : Connection). HasAdvancedByTurns g.Q.Tickets.knows g.Q.Tickets.drawn g.Q.Tickets.since x c.turn.new.self
    c.turns.tickets c.turn.new.tickets) c.if-not-pass_unnoted.ensures.as_before
    (went-turn g.Q.Tickets.knows g.Q.Tickets.drawn g.Q.Tickets.since c.pass_unnoted.new.self c.turn.new.self
    c.turns.tickets c.turn.new.tickets c.args.at c.turn.result
    c.turn.ensures.same c.turn.ensures.as_before c.turn.ensures.turned c.turn.ensures.smaller c.turn.ensures.draws))

pub turns-smaller-in-Moved : goal.turns-smaller-in-Moved
turns-smaller-in-Moved g c = omega (
  arith,
  fewer-waiting c.turns.conn c.turn.new.self c.args.at c.in-Moved.seq
      (outcomes.Passed c.in-Moved.noted) c.is_connection-in-turns.ensures tt
      (subst (λ (x : Connection). IsStep x
      (turns c.args.at c.in-Moved.seq (outcomes.Passed c.in-Moved.noted)) c.turn.new.self)
      c.if-not-pass_unnoted.ensures.as_before c.in-Moved.ensures.turned),
)

pub turns-preserved-in-Moved : goal.turns-preserved-in-Moved
turns-preserved-in-Moved g c = (
  follows-done (judge_context c.args.conn.now) (judge_context c.turns.conn) c.args.at c.in-Moved.seq (outcomes.Passed c.in-Moved.noted)
      (conn_state c.args.conn.now) (conn_state c.turns.conn)
      (conn_state c.turn.new.self) (same-under c.args.conn.now c.turns.conn c.turns.invariant.1.same) c.turns.invariant.0 tt
      (turn-in (judge_context c.turns.conn) (conn_state c.turns.conn) (conn_state c.turn.new.self) c.args.at c.in-Moved.seq
      (outcomes.Passed c.in-Moved.noted)
      (subst (λ (x : Connection). IsStep x
      (turns c.args.at c.in-Moved.seq (outcomes.Passed c.in-Moved.noted)) c.turn.new.self)
      c.if-not-pass_unnoted.ensures.as_before c.in-Moved.ensures.turned)),
  went-both g.Q.Tickets.knows g.Q.Tickets.drawn g.Q.Tickets.since c.args.conn.now c.turns.conn c.turn.new.self
      c.args.tickets.now c.turns.tickets c.turn.new.tickets
      c.turns.invariant.1
      (subst (λ (x : Connection). HasAdvancedByTurns g.Q.Tickets.knows g.Q.Tickets.drawn g.Q.Tickets.since x c.turn.new.self
      c.turns.tickets c.turn.new.tickets) c.if-not-pass_unnoted.ensures.as_before
      (went-turn g.Q.Tickets.knows g.Q.Tickets.drawn g.Q.Tickets.since c.pass_unnoted.new.self c.turn.new.self
      c.turns.tickets c.turn.new.tickets c.args.at c.turn.result
      c.turn.ensures.same c.turn.ensures.as_before c.turn.ensures.turned c.turn.ensures.smaller c.turn.ensures.draws)),
)

pub turns-smaller-in-Refused : goal.turns-smaller-in-Refused
turns-smaller-in-Refused g c = omega (
  arith,
  fewer-waiting c.turns.conn c.turn.new.self c.args.at c.in-Refused.seq
      (outcomes.Refused c.in-Refused.noted c.in-Refused.why) c.is_connection-in-turns.ensures tt
      (subst (λ (x : Connection). IsStep x
      (turns c.args.at c.in-Refused.seq (outcomes.Refused c.in-Refused.noted c.in-Refused.why)) c.turn.new.self)
      c.if-not-pass_unnoted.ensures.as_before c.in-Refused.ensures.turned),
)

pub turns-preserved-in-Refused : goal.turns-preserved-in-Refused
turns-preserved-in-Refused g c = (
  follows-done (judge_context c.args.conn.now) (judge_context c.turns.conn) c.args.at c.in-Refused.seq
      (outcomes.Refused c.in-Refused.noted c.in-Refused.why) (conn_state c.args.conn.now) (conn_state c.turns.conn)
      (conn_state c.turn.new.self) (same-under c.args.conn.now c.turns.conn c.turns.invariant.1.same) c.turns.invariant.0 tt
      (turn-in (judge_context c.turns.conn) (conn_state c.turns.conn) (conn_state c.turn.new.self) c.args.at c.in-Refused.seq
      (outcomes.Refused c.in-Refused.noted c.in-Refused.why)
      (subst (λ (x : Connection). IsStep x
      (turns c.args.at c.in-Refused.seq (outcomes.Refused c.in-Refused.noted c.in-Refused.why)) c.turn.new.self)
      c.if-not-pass_unnoted.ensures.as_before c.in-Refused.ensures.turned)),
  went-both g.Q.Tickets.knows g.Q.Tickets.drawn g.Q.Tickets.since c.args.conn.now c.turns.conn c.turn.new.self
      c.args.tickets.now c.turns.tickets c.turn.new.tickets
      c.turns.invariant.1
      (subst (λ (x : Connection). HasAdvancedByTurns g.Q.Tickets.knows g.Q.Tickets.drawn g.Q.Tickets.since x c.turn.new.self
      c.turns.tickets c.turn.new.tickets) c.if-not-pass_unnoted.ensures.as_before
      (went-turn g.Q.Tickets.knows g.Q.Tickets.drawn g.Q.Tickets.since c.pass_unnoted.new.self c.turn.new.self
      c.turns.tickets c.turn.new.tickets c.args.at c.turn.result
      c.turn.ensures.same c.turn.ensures.as_before c.turn.ensures.turned c.turn.ensures.smaller c.turn.ensures.draws)),
)

pub turns-smaller : goal.turns-smaller
turns-smaller g c =
    let p = c.if-not-pass_unnoted.ensures.passed in
    omega (
      arith,
      fewer-waiting c.turns.conn c.pass_unnoted.new.self c.args.at p.seq (outcomes.Passed notes.Nothing)
          c.is_connection-in-turns.ensures tt p.step,
    )

pub turns-preserved : goal.turns-preserved
turns-preserved g c =
    let p = c.if-not-pass_unnoted.ensures.passed in (
      follows-done (judge_context c.args.conn.now) (judge_context c.turns.conn) c.args.at p.seq (outcomes.Passed notes.Nothing)
          (conn_state c.args.conn.now) (conn_state c.turns.conn) (conn_state c.pass_unnoted.new.self)
          (same-under c.args.conn.now c.turns.conn c.turns.invariant.1.same) c.turns.invariant.0 tt
          (turn-in (judge_context c.turns.conn) (conn_state c.turns.conn) (conn_state c.pass_unnoted.new.self) c.args.at p.seq
          (outcomes.Passed notes.Nothing) p.step),
      went-both g.Q.Tickets.knows g.Q.Tickets.drawn g.Q.Tickets.since c.args.conn.now c.turns.conn
          c.pass_unnoted.new.self c.args.tickets.now c.turns.tickets c.turns.tickets c.turns.invariant.1
          (went-unnoted g.Q.Tickets.knows g.Q.Tickets.drawn g.Q.Tickets.since c.turns.conn c.pass_unnoted.new.self
          c.turns.tickets c.args.at p),
    )
