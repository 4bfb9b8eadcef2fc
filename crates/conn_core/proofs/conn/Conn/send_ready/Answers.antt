use Rattle.std.proofs.Common.{◌+◌, List, ℕ, length, refl, ap, ◌∙◌}
use Rattle.call_history.specs.Rules.{payload}
use Rattle.conn_core.specs.Connections.{conn_frames}
use Rattle.conn_core.specs.Invariant.{connection_of}
use Rattle.conn_core.proofs.Handed.{frames-failed, hands-none}
use Rattle.conn_core.proofs.KeptNext.{step-from}
use Rattle.conn_core.proofs.KeptSent.{fails-at-head, hands-left, head-has-room, head-is-short, head-of-table, left-frames, left-kept}
use Rattle.conn_core.proofs.conn.Conn.send_ready.Goals as goal

pub returns-in-Done-clause-sent : goal.returns-in-Done-clause-sent
returns-in-Done-clause-sent g c = (
  16 + length c.as_slice.result.now,
  step-from c.args.self.now _ _ _ _ _ _ _ c.self.view_is
      (left-kept c.transitions_preserve_invariant.ensures.event _ _ _ c.self.inside.chain c.remove_sent-seq.new.chain _ c.remove_sent-seq.new.history _
      _ _ _ c.remove_sent-seq.result _ c.in-Some.head.now c.self.invariant
      c.remove_sent-seq.ensures c.in-Some.ensures.call c.in-Some.ensures.ready
      (ap (λ (b : List ℕ). 16 + length b)
      (c.as_slice.ensures ∙ c.in-Done.ensures.encoded refl ∙ ap (payload c.self.inside.table.now) c.call.ensures))
      c.is_chain_state.ensures),
)

pub returns-in-Done-clause-handed : goal.returns-in-Done-clause-handed
returns-in-Done-clause-handed g c = hands-left c.args.self.now
    (connection_of c.self.inside.conn c.self.inside.table.now c.self.inside.limit c.self.inside.chain c.self.inside.history
    c.self.inside.ended)
    (connection_of c.self.inside.conn c.self.inside.table.now c.self.inside.limit c.remove_sent-seq.new.chain c.remove_sent-seq.new.history
    c.self.inside.ended)
    (g.L.Link.handed c.args.link.now) (g.L.Link.handed c.send_call.new.link) c.self.inside.table.now c.call.result.now
    c.in-Some.head.now.call c.self.view_is
    (left-frames _ _ _ c.self.inside.chain c.remove_sent-seq.new.chain _ c.remove_sent-seq.new.history _ c.self.inside.steps.items
    c.self.inside.accepted c.self.inside.moment c.remove_sent-seq.result _
    c.in-Some.head.now c.self.invariant c.remove_sent-seq.ensures c.in-Some.ensures.call) c.call.ensures
    (c.in-Done.ensures.appended refl)

pub returns-in-Failed-clause-handed : goal.returns-in-Failed-clause-handed
returns-in-Failed-clause-handed g c =
    hands-none c.args.self.now c.fail.new.self (g.L.Link.handed c.args.link.now) (g.L.Link.handed c.send_call.new.link)
    (frames-failed (connection_of c.self.inside.conn c.self.inside.table.now c.self.inside.limit c.self.inside.chain
    c.self.inside.history c.self.inside.ended)
    c.fail.new.self c.fail.ensures.same.table c.fail.ensures.same.conn c.fail.ensures.failed ∙ ap conn_frames c.self.view_is)
    (c.in-Failed.ensures.kept (λ is. absurd cc))

pub returns-in-Failed-clause-refused : goal.returns-in-Failed-clause-refused
returns-in-Failed-clause-refused g c = λ is.
    fails-at-head g.L.Link.refused c.args.self.now c.args.link.now c.send_call.new.link _ c.self.inside.table.now _
    c.self.inside.chain c.self.inside.history _ _ _ _ c.in-Some.head.now c.call.result.now c.self.invariant
    c.in-Some.ensures.call c.in-Some.ensures.ready c.call.ensures c.self.view_is (c.in-Failed.ensures.refused refl)

pub send_call-requires-clause-fits : goal.send_call-requires-clause-fits
send_call-requires-clause-fits g c =
    head-of-table c.pending_calls_have_forms.ensures.forms _ _ _ c.self.inside.chain _ _ _ _ _ c.in-Some.head.now
    c.call.result.now c.self.invariant c.in-Some.ensures.call c.call.ensures

pub send_call-requires-clause-short : goal.send_call-requires-clause-short
send_call-requires-clause-short g c =
    head-is-short _ _ _ c.self.inside.chain _ _ _ _ _ c.in-Some.head.now c.call.result.now c.self.invariant
    c.in-Some.ensures.call c.call.ensures

pub remove_sent-seq-requires-clause-room : goal.remove_sent-seq-requires-clause-room
remove_sent-seq-requires-clause-room g c =
    head-has-room _ _ _ c.self.inside.chain _ _ _ _ _ c.in-Some.head.now c.self.invariant c.in-Some.ensures.call

pub invariant_of-self : goal.invariant_of-self
invariant_of-self g c = (left-kept c.transitions_preserve_invariant.ensures.event _ _ _ c.self.inside.chain c.remove_sent-seq.new.chain _
    c.remove_sent-seq.new.history _ _ _ _ c.remove_sent-seq.result _ c.in-Some.head.now c.self.invariant
    c.remove_sent-seq.ensures c.in-Some.ensures.call c.in-Some.ensures.ready
    (ap (λ (b : List ℕ). 16 + length b)
    (c.as_slice.ensures ∙ c.in-Done.ensures.encoded refl ∙ ap (payload c.self.inside.table.now) c.call.ensures))
    c.is_chain_state.ensures).kept
