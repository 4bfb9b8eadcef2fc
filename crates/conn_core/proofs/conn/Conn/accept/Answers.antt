use Rattle.std.proofs.Common.{◌<◌, ◌≤◌, ◌+◌, ◌*◌, ◌++◌, List, length, ap, ◌∙◌, arith}
use Rattle.graph_copy.specs.Copies.{loads_since}
use Rattle.call_history.specs.Trace.{taken}
use Rattle.call_history.specs.declared.happening.Happening.{Happening}
use Rattle.conn_core.specs.Connections.{Connection, conn_trace}
use Rattle.conn_core.specs.Invariant.{acceptance_events}
use Rattle.conn_core.proofs.KeptAccepted.{accepted-by, accepted-kept, greater-than-all}
use Rattle.conn_core.proofs.conn.Conn.accept.Goals as goal

pub make_pending-requires-clause-greater : goal.make_pending-requires-clause-greater
make_pending-requires-clause-greater g c =
    greater-than-all _ _ _ _ _ c.in_ok-submission.submission.call c.in_ok-submission.submission.form c.self.invariant
    c.in_ok-submission.ensures.form c.in_ok-submission.ensures.asked.number

pub invariant_of-self-2 : goal.invariant_of-self-2
invariant_of-self-2 g c =
    let few : length c.self.inside.chain.calls < 64 =
    omega (arith, ap length c.calls.ensures, c.len.ensures.count, c.len.ensures.few, c.if-len-eq-MAX_CALLS.false) in
    let room : 9 * (length c.self.inside.chain.calls + 1) ≤ c.make_pending.new.history.room =
    omega (
      arith,
      ap length c.calls-2.ensures,
      c.len-2.ensures.count,
      c.in_ok-reserve.ensures.room,
      c.make_pending.ensures.room,
    ) in
    (accepted-kept c.transitions_preserve_invariant.ensures.event _ _ _ _ c.make_pending.new.chain _ c.make_pending.new.history _ _ _ _
    (g.W.Words.size c.args.words.now)
    (loads_since (g.W.Words.loads c.args.words.now) (g.W.Words.loads c.copy_submission.new.words)) c.in_ok-submission.submission.call
    c.in_ok-submission.submission.form c.self.invariant
    c.if-self.false few c.in_ok-submission.ensures.asked.number c.in_ok-submission.ensures.well
    c.in_ok-submission.ensures.form c.make_pending.ensures.chain c.is_chain_state.ensures
    (c.make_pending.ensures.steps ∙ c.in_ok-reserve.ensures.steps)
    (c.make_pending.ensures.told ∙ ap (λ (h : List Happening). h
    ++ acceptance_events c.in_ok-submission.submission.call c.in_ok-submission.submission.form)
    c.in_ok-reserve.ensures.happenings)
    room (omega (
      arith,
      c.self.invariant.count,
      ap (λ (c : Connection). length (taken (conn_trace c))) c.self.view_is,
      c.requires.numbers,
    ))).kept

pub returns-clause-accepted : goal.returns-clause-accepted
returns-clause-accepted g c =
    let few : length c.self.inside.chain.calls < 64 =
    omega (arith, ap length c.calls.ensures, c.len.ensures.count, c.len.ensures.few, c.if-len-eq-MAX_CALLS.false) in
    let room : 9 * (length c.self.inside.chain.calls + 1) ≤ c.make_pending.new.history.room =
    omega (
      arith,
      ap length c.calls-2.ensures,
      c.len-2.ensures.count,
      c.in_ok-reserve.ensures.room,
      c.make_pending.ensures.room,
    ) in
    accepted-by (g.W.Words.size c.args.words.now) c.args.ask (c.self.inside.accepted + 1)
    (loads_since (g.W.Words.loads c.args.words.now) (g.W.Words.loads c.copy_submission.new.words)) c.args.self.now _ _
    c.in_ok-submission.submission.call c.self.view_is c.in_ok-submission.ensures.asked
    c.in_ok-submission.ensures.well.loaded
    (accepted-kept c.transitions_preserve_invariant.ensures.event _ _ _ _ c.make_pending.new.chain _ c.make_pending.new.history _ _ _ _
    (g.W.Words.size c.args.words.now)
    (loads_since (g.W.Words.loads c.args.words.now) (g.W.Words.loads c.copy_submission.new.words)) c.in_ok-submission.submission.call
    c.in_ok-submission.submission.form c.self.invariant
    c.if-self.false few c.in_ok-submission.ensures.asked.number c.in_ok-submission.ensures.well
    c.in_ok-submission.ensures.form c.make_pending.ensures.chain c.is_chain_state.ensures
    (c.make_pending.ensures.steps ∙ c.in_ok-reserve.ensures.steps)
    (c.make_pending.ensures.told ∙ ap (λ (h : List Happening). h
    ++ acceptance_events c.in_ok-submission.submission.call c.in_ok-submission.submission.form)
    c.in_ok-reserve.ensures.happenings)
    room (omega (
      arith,
      c.self.invariant.count,
      ap (λ (c : Connection). length (taken (conn_trace c))) c.self.view_is,
      c.requires.numbers,
    ))).step
