use Rattle.std.proofs.Common.{◌≤◌, ◌<◌, ◌*◌, ◌++◌, ◌∷◌, [], List, length, ap, ◌∙◌, subst, arith}
use Rattle.call_history.specs.Transitions.{shows}
use Rattle.call_history.specs.declared.happening.Happening.{Happening}
use Rattle.call_history.specs.declared.happening.Happening.TheVariants.{Moment}
use Rattle.conn_core.specs.Connections.{Connection}
use Rattle.conn_core.specs.ConnectionSteps.{IsStep}
use Rattle.conn_core.proofs.KeptNext.{kept-clocked, shown-before, step-from}
use Rattle.conn_core.proofs.conn.Conn.clock.Goals as goal

pub returns-then-now-self-clause-shown : goal.returns-then-now-self-clause-shown
returns-then-now-self-clause-shown c =
    subst (λ (x : Connection). IsStep x (shows c.args.now) x) c.self.view_is
    (shown-before _ _ _ _ _ _ _ _ _ c.args.now c.self.invariant (omega arith))

pub invariant_of-self-2 : goal.invariant_of-self-2
invariant_of-self-2 c =
    let later : c.self.inside.moment < c.args.now = omega arith in
    let room : 9 * length c.self.inside.chain.calls ≤ c.push.new.self.room =
    omega (arith, ap length c.calls.ensures, c.len.ensures.count, c.in_ok-reserve.ensures.room, c.push.ensures.room) in
    (kept-clocked c.transitions_preserve_invariant.ensures.event _ _ _ c.self.inside.chain c.clock.new.self _ c.push.new.self _ _ _ _
    c.args.now c.self.invariant later
    (c.push.ensures.steps ∙ c.in_ok-reserve.ensures.steps)
    (c.push.ensures.happenings ∙ ap (λ (h : List Happening). h
    ++ Moment c.args.now ∷ []) c.in_ok-reserve.ensures.happenings) room
    c.clock.ensures.engines c.clock.ensures.attached c.clock.ensures.calls c.clock.ensures.row c.is_chain_state.ensures).kept

pub returns-clause-shown : goal.returns-clause-shown
returns-clause-shown c =
    let later : c.self.inside.moment < c.args.now = omega arith in
    let room : 9 * length c.self.inside.chain.calls ≤ c.push.new.self.room =
    omega (arith, ap length c.calls.ensures, c.len.ensures.count, c.in_ok-reserve.ensures.room, c.push.ensures.room) in
    step-from c.args.self.now _ _ _ _ _ _ _ c.self.view_is
    (kept-clocked c.transitions_preserve_invariant.ensures.event _ _ _ c.self.inside.chain c.clock.new.self _ c.push.new.self _ _ _ _
    c.args.now c.self.invariant later
    (c.push.ensures.steps ∙ c.in_ok-reserve.ensures.steps)
    (c.push.ensures.happenings ∙ ap (λ (h : List Happening). h
    ++ Moment c.args.now ∷ []) c.in_ok-reserve.ensures.happenings) room
    c.clock.ensures.engines c.clock.ensures.attached c.clock.ensures.calls c.clock.ensures.row c.is_chain_state.ensures)
