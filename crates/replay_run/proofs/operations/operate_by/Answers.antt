use Rattle.std.proofs.Common.{◌≡◌, List, OnOk, Option, Some, subst, sym, ap, ◌∙◌}
use Rattle.engine_core.specs.declared.op.Op.{Op}
use Rattle.policy_declarations.specs.declared.declaration.NamedPolicy.{NamedPolicy}
use Rattle.replay_script.specs.Lines.{op_in}
use Rattle.replay_run.specs.Kept.{IsEffectFor}
use Rattle.replay_run.proofs.operations.operate_by.Goals as goal

pub returns-clause-does : goal.returns-clause-does
returns-clause-does c =
    let is : op_in c.args.script.now.declared.policies c.args.line.now ≡ Some c.in_ok-step.step =
    ap (λ (ps : List NamedPolicy). op_in ps c.args.line.now) (sym c.policies.ensures) ∙ c.in_ok-step.ensures in
    subst (λ (o : Option Op). OnOk c.operate.result (IsEffectFor (λ s l. op_in s.declared.policies l ≡ o) c.args.connection.now c.operate.new.connection)) (sym is) c.operate.ensures.does
