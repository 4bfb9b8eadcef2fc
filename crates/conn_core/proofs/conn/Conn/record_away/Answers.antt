use Rattle.std.proofs.Common.{◌≡◌, ◌≤◌, ◌*◌, ◌++◌, ◌∷◌, [], List, length, ap, ◌∙◌, arith}
use Rattle.call_history.specs.declared.happening.Happening.{Happening}
use Rattle.call_history.specs.declared.happening.Happening.TheVariants.{Away}
use Rattle.conn_core.specs.Connections.{Connection}
use Rattle.conn_core.proofs.KeptNext.{kept-away, step-from}
use Rattle.conn_core.proofs.conn.Conn.record_away.Goals as goal

pub invariant_of-self-2 : goal.invariant_of-self-2
invariant_of-self-2 c =
    let full : length c.self.inside.chain.calls ≡ 64 =
    ap (λ (c : Connection). length c.chain.calls) c.self.view_is ∙ c.requires in
    let room : 9 * length c.self.inside.chain.calls ≤ c.push.new.self.room =
    omega (arith, ap length c.calls.ensures, c.len.ensures.count, c.in_ok-reserve.ensures.room, c.push.ensures.room) in
    (kept-away c.transitions_preserve_invariant.ensures.event _ _ _ c.self.inside.chain _ c.push.new.self _ _ _ _ c.args.ask.method
    c.args.ask.number c.args.ask.addr c.self.invariant full
    (c.push.ensures.steps ∙ c.in_ok-reserve.ensures.steps)
    (c.push.ensures.happenings ∙ ap (λ (h : List Happening). h
    ++ Away c.args.ask.method c.args.ask.number c.args.ask.addr ∷ []) c.in_ok-reserve.ensures.happenings) room).kept

pub returns-clause-away : goal.returns-clause-away
returns-clause-away c =
    let full : length c.self.inside.chain.calls ≡ 64 =
    ap (λ (c : Connection). length c.chain.calls) c.self.view_is ∙ c.requires in
    let room : 9 * length c.self.inside.chain.calls ≤ c.push.new.self.room =
    omega (arith, ap length c.calls.ensures, c.len.ensures.count, c.in_ok-reserve.ensures.room, c.push.ensures.room) in
    step-from c.args.self.now _ _ _ _ _ _ _ c.self.view_is
    (kept-away c.transitions_preserve_invariant.ensures.event _ _ _ c.self.inside.chain _ c.push.new.self _ _ _ _ c.args.ask.method
    c.args.ask.number c.args.ask.addr c.self.invariant full
    (c.push.ensures.steps ∙ c.in_ok-reserve.ensures.steps)
    (c.push.ensures.happenings ∙ ap (λ (h : List Happening). h
    ++ Away c.args.ask.method c.args.ask.number c.args.ask.addr ∷ []) c.in_ok-reserve.ensures.happenings) room)
