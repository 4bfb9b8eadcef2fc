use Rattle.std.proofs.Common.{◌++◌, List, length, ap, ◌∙◌, arith}
use Rattle.engine_core.specs.Marks.{PendingCall}
use Rattle.conn_core.specs.Invariant.{failure_events}
use Rattle.conn_core.proofs.KeptNext.{kept-failed-as, step-from}
use Rattle.conn_core.proofs.Rooms.{room-fates}
use Rattle.conn_core.proofs.conn.Conn.fail.Goals as goal

pub returns-clause-failed : goal.returns-clause-failed
returns-clause-failed c = step-from c.args.self.now _ _ _ _ _ _ _ c.self.view_is
    (kept-failed-as c.transitions_preserve_invariant.ensures.event _ _ _ c.self.inside.chain c.drop_all.new.self _ c.refuse_all.new.history
    _ _ _ _ c.self.invariant c.drop_all.ensures
    c.refuse_all.ensures.steps
    (c.refuse_all.ensures.told ∙ ap (λ (calls : List PendingCall). c.self.inside.history.happenings
    ++ failure_events calls) c.calls.ensures) c.is_chain_state.ensures)

pub refuse_all-requires : goal.refuse_all-requires
refuse_all-requires c = record {
  room = omega (arith, ap length c.calls.ensures, room-fates _ _ _ c.self.invariant.room);
}

pub invariant_of-self : goal.invariant_of-self
invariant_of-self c = (kept-failed-as c.transitions_preserve_invariant.ensures.event _ _ _ c.self.inside.chain c.drop_all.new.self _
    c.refuse_all.new.history _ _ _ _ c.self.invariant c.drop_all.ensures
    c.refuse_all.ensures.steps
    (c.refuse_all.ensures.told ∙ ap (λ (calls : List PendingCall). c.self.inside.history.happenings
    ++ failure_events calls) c.calls.ensures) c.is_chain_state.ensures).kept
