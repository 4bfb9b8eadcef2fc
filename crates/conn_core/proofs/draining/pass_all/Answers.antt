use Rattle.std.proofs.Common.{◌≡◌, ◌<◌, length, ap, arith}
use Rattle.call_history.specs.Trace.{chain}
use Rattle.call_history.specs.Draining.{is_over}
use Rattle.chain_upgrade.specs.Chains.{ChainParts}
use Rattle.conn_core.specs.Connections.{conn_trace, conn_state, judge_context}
use Rattle.conn_core.proofs.TurnByTurn.{chain-long, known-later, passes-again, passes-rest, same-length, same-under, went-both}
use Rattle.conn_core.proofs.draining.pass_all.Goals as goal

pub turns_at-requires-clause-known : goal.turns_at-requires-clause-known
turns_at-requires-clause-known g c =
    known-later (g.Q.Tickets.knows c.args.tickets.now)
    (g.Q.Tickets.knows c.engines.tickets) c.args.conn.now c.engines.conn
    c.is_connection.ensures c.is_connection-in-engines.ensures c.engines.invariant.1.same_chain
    c.engines.invariant.1.draws.knows c.requires

pub engines-preserved-then-turns_at : goal.engines-preserved-then-turns_at
engines-preserved-then-turns_at g c =
    let inside : c.engines.at < length c.engines.conn.chain.engines =
    omega (
      arith,
      c.engines-in-engines.ensures.count,
      ap
          (λ (x : ChainParts). length x.engines) c.chain.ensures,
      c.engines-test.true,
    ) in (
      passes-rest (judge_context c.args.conn.now) (judge_context c.engines.conn) c.engines.at (conn_state c.args.conn.now)
          (conn_state c.engines.conn) (conn_state c.turns_at.new.conn)
          (same-under c.args.conn.now c.engines.conn c.engines.invariant.1.same) c.engines.invariant.0
          (omega (arith, inside, chain-long c.engines.conn c.is_connection-in-engines.ensures))
          c.if-turns_at.ensures.rest,
      went-both g.Q.Tickets.knows g.Q.Tickets.drawn g.Q.Tickets.since c.args.conn.now c.engines.conn c.turns_at.new.conn
          c.args.tickets.now c.engines.tickets c.turns_at.new.tickets
          c.engines.invariant.1 c.if-turns_at.ensures.went,
      omega (
        arith,
        inside,
        same-length c.args.conn.now c.engines.conn c.is_connection.ensures
            c.is_connection-in-engines.ensures c.engines.invariant.1.same_chain,
      ),
    )

pub engines-preserved : goal.engines-preserved
engines-preserved g c =
    let inside : c.engines.at < length c.engines.conn.chain.engines =
    omega (
      arith,
      c.engines-in-engines.ensures.count,
      ap
          (λ (x : ChainParts). length x.engines) c.chain.ensures,
      c.engines-test.true,
    ) in (
      passes-again (judge_context c.args.conn.now) (judge_context c.engines.conn) c.engines.at (conn_state c.args.conn.now)
          (conn_state c.engines.conn) (conn_state c.turns_at.new.conn)
          (same-under c.args.conn.now c.engines.conn c.engines.invariant.1.same) c.engines.invariant.0
          (omega (arith, inside, chain-long c.engines.conn c.is_connection-in-engines.ensures))
          c.if-turns_at.ensures.again,
      went-both g.Q.Tickets.knows g.Q.Tickets.drawn g.Q.Tickets.since c.args.conn.now c.engines.conn c.turns_at.new.conn
          c.args.tickets.now c.engines.tickets c.turns_at.new.tickets
          c.engines.invariant.1 c.if-turns_at.ensures.went,
      omega arith,
    )

pub returns-clause-passes : goal.returns-clause-passes
returns-clause-passes g c =
    let over : c.engines.at ≡ length (chain (conn_trace c.engines.conn)).entries =
    omega (
      arith,
      c.engines-in-engines.ensures.count,
      ap (λ (x : ChainParts). length x.engines) c.chain.ensures,
      c.engines-test.false,
      c.engines.invariant.2,
      chain-long c.engines.conn c.is_connection-2.ensures,
      same-length c.args.conn.now c.engines.conn c.is_connection.ensures c.is_connection-2.ensures
          c.engines.invariant.1.same_chain,
    ) in
    c.engines.invariant.0 (conn_state c.engines.conn) (is_over c.engines.at (conn_state c.engines.conn) over)
