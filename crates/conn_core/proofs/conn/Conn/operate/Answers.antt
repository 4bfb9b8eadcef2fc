use Rattle.std.proofs.Common.{◌≤◌, ◌*◌, ◌++◌, ◌∷◌, [], List, length, ap, ◌∙◌, arith}
use Rattle.engine_core.specs.declared.op.Op.{Op as Step}
use Rattle.chain_upgrade.specs.Chains.{chain_of_state}
use Rattle.call_history.specs.declared.happening.Happening.{Happening}
use Rattle.call_history.specs.declared.happening.Happening.TheVariants.{Op}
use Rattle.conn_core.specs.Invariant.{op_indices_after}
use Rattle.conn_core.proofs.KeptChanged.{kept-operated}
use Rattle.conn_core.proofs.KeptNext.{step-from}
use Rattle.conn_core.proofs.TurnTold.{aligned}
use Rattle.conn_core.proofs.conn.Conn.operate.Goals as goal

pub change-requires-clause-aligned : goal.change-requires-clause-aligned
change-requires-clause-aligned c = ap length c.reserve.ensures.steps ∙ aligned _ _ _ _ _ c.self.invariant

pub invariant_of-self-2 : goal.invariant_of-self-2
invariant_of-self-2 c =
    let room : 9 * length c.self.inside.chain.calls ≤ c.operate.new.self.room =
    omega (arith, ap length c.calls.ensures, c.len.ensures.count, c.in-Ok.ensures.room, c.operate.ensures.room) in
    (kept-operated c.transitions_preserve_invariant.ensures.event c.changed_is_the_change.ensures.only _ _ _ c.self.inside.chain
    c.change.new.chain c.self.inside.history c.operate.new.self _ _ c.change.new.steps.items _ _
    c.steps-place.result c.args.step c.self.invariant c.in_ok-change.ensures.changed c.is_chain_state.ensures
    (c.operate.ensures.steps ∙ ap (λ (s : List Step). s ++ c.args.step ∷ []) c.reserve.ensures.history_steps)
    (c.operate.ensures.happenings ∙ ap (λ (h : List Happening). h ++ Op c.args.step ∷ []) c.reserve.ensures.happenings)
    room
    (c.steps-place.ensures ∙ ap length c.reserve.ensures.history_steps)
    (c.in_ok-change.ensures.steps ∙ ap
    (op_indices_after c.args.step (chain_of_state c.self.inside.chain).entries c.steps-place.result)
    c.reserve.ensures.steps)).kept

pub returns-clause-operated : goal.returns-clause-operated
returns-clause-operated c =
    let room : 9 * length c.self.inside.chain.calls ≤ c.operate.new.self.room =
    omega (arith, ap length c.calls.ensures, c.len.ensures.count, c.in-Ok.ensures.room, c.operate.ensures.room) in
    step-from c.args.self.now _ _ _ _ _ _ _ c.self.view_is
    (kept-operated c.transitions_preserve_invariant.ensures.event c.changed_is_the_change.ensures.only _ _ _ c.self.inside.chain
    c.change.new.chain c.self.inside.history c.operate.new.self _ _ c.change.new.steps.items _ _
    c.steps-place.result c.args.step c.self.invariant c.in_ok-change.ensures.changed c.is_chain_state.ensures
    (c.operate.ensures.steps ∙ ap (λ (s : List Step). s ++ c.args.step ∷ []) c.reserve.ensures.history_steps)
    (c.operate.ensures.happenings ∙ ap (λ (h : List Happening). h ++ Op c.args.step ∷ []) c.reserve.ensures.happenings)
    room
    (c.steps-place.ensures ∙ ap length c.reserve.ensures.history_steps)
    (c.in_ok-change.ensures.steps ∙ ap
    (op_indices_after c.args.step (chain_of_state c.self.inside.chain).entries c.steps-place.result) c.reserve.ensures.steps))
