use Rattle.std.proofs.Common.{◌≢◌, inl, inr, length, refl, sym, ◌∙◌, subst, arith}
use Rattle.std.specs.Prelude.{None}
use Rattle.engine_core.specs.Moves.{first_at}
use Rattle.call_history.specs.Draining.{HasSentSome, none}
use Rattle.conn_core.specs.Connections.{Connection, conn_state, judge_context}
use Rattle.conn_core.proofs.SentAll.{failed-tickets, fails-behind, fewer-standing, hands-both, sends-one, sent-tickets}
use Rattle.conn_core.proofs.TurnByTurn.{same-trans, same-under}
use Rattle.conn_core.proofs.draining.send_all.Goals as goal

pub calls-smaller : goal.calls-smaller
calls-smaller g c = omega
    (arith, fewer-standing c.calls.conn c.send_ready.new.self c.in-Sent.seq c.in-Sent.ensures.sent)

pub calls-preserved : goal.calls-preserved
calls-preserved g c = (
  sends-one (judge_context c.args.conn.now) (judge_context c.calls.conn) (conn_state c.args.conn.now) (conn_state c.calls.conn)
      (conn_state c.send_ready.new.self) c.in-Sent.seq c.in-Sent.ensures.sent.0
      (same-under c.args.conn.now c.calls.conn c.calls.invariant.1) c.calls.invariant.0 c.in-Sent.ensures.sent.1,
  same-trans c.args.conn.now c.calls.conn c.send_ready.new.self c.calls.invariant.1 c.in-Sent.ensures.same,
  λ tenant window. sent-tickets c.calls.conn c.send_ready.new.self c.in-Sent.seq c.in-Sent.ensures.sent tenant window ∙
      c.calls.invariant.2 tenant window,
  hands-both c.args.conn.now c.calls.conn c.send_ready.new.self (g.L.Link.handed c.args.link.now)
      (g.L.Link.handed c.calls.link) (g.L.Link.handed c.send_ready.new.link)
      c.calls.invariant.3 c.in-Sent.ensures.handed,
  c.in-Sent.ensures.given ∙ c.calls.invariant.4,
  c.in-Sent.ensures.link_ended ∙ c.calls.invariant.5,
  λ first h. c.in-Sent.ensures.same_link first (c.calls.invariant.6 first h),
  c.in-Sent.ensures.cause.stays (λ e. absurd cc) ∙ c.calls.invariant.7,
)

pub returns-in-Nothing-clause-done : goal.returns-in-Nothing-clause-done
returns-in-Nothing-clause-done g c =
    λ is. subst (λ (x : Connection). HasSentSome (judge_context c.args.conn.now) (conn_state c.args.conn.now) (conn_state x))
    (sym (c.in-Nothing.ensures.as_before (inl refl)))
    (c.calls.invariant.0 (conn_state c.calls.conn) (none (conn_state c.calls.conn)))

pub returns-in-Failed-clause-failed : goal.returns-in-Failed-clause-failed
returns-in-Failed-clause-failed g c = λ is.
    fails-behind g.L.Link.refused g.L.Link.handed g.L.Link.failures g.L.Link.since c.args.conn.now c.calls.conn
    c.send_ready.new.self c.args.link.now c.calls.link c.send_ready.new.link c.calls.invariant.1
    c.in-Failed.ensures.same (c.calls.invariant.0 (conn_state c.calls.conn) (none (conn_state c.calls.conn)))
    (c.in-Failed.ensures.failed refl) (c.in-Failed.ensures.refused refl) c.in-Failed.ensures.handed
    c.calls.invariant.7 c.calls.invariant.6

pub returns-in-Failed-clause-tickets : goal.returns-in-Failed-clause-tickets
returns-in-Failed-clause-tickets g c =
    λ tenant window. failed-tickets c.calls.conn c.send_ready.new.self
    (c.in-Failed.ensures.failed refl) tenant window ∙ c.calls.invariant.2 tenant window

pub returns-in-Memory-clause-memory : goal.returns-in-Memory-clause-memory
returns-in-Memory-clause-memory g c =
    λ is. subst (λ (x : Connection). HasSentSome (judge_context c.args.conn.now) (conn_state c.args.conn.now) (conn_state x))
    (sym (c.in-Memory.ensures.as_before (inr refl)))
    (c.calls.invariant.0 (conn_state c.calls.conn) (none (conn_state c.calls.conn)))

pub returns-in-Memory-clause-still_ready : goal.returns-in-Memory-clause-still_ready
returns-in-Memory-clause-still_ready g c =
    λ is. subst (λ (x : Connection). first_at (length x.chain.engines) x.chain.row ≢ None)
    (sym (c.in-Memory.ensures.as_before (inr refl)))
    (c.in-Memory.ensures.ready (inr refl))

pub returns-in-Memory-clause-handed : goal.returns-in-Memory-clause-handed
returns-in-Memory-clause-handed g c =
    hands-both c.args.conn.now c.calls.conn c.send_ready.new.self (g.L.Link.handed c.args.link.now)
    (g.L.Link.handed c.calls.link)
    (g.L.Link.handed c.send_ready.new.link) c.calls.invariant.3 c.in-Memory.ensures.handed
