use Rattle.std.proofs.Common.{◌≡◌, IfOk, Some, subst, sym}
use Rattle.replay_script.specs.Lines.{op_in}
use Rattle.replay_script.specs.declared.script.ScriptLine.{ScriptLine}
use Rattle.replay_run.proofs.operations.step_of.Goals as goal

pub returns-in-Attach : goal.returns-in-Attach
returns-in-Attach c = subst (λ (l : ScriptLine). IfOk c.attaching.result (λ step. op_in c.args.policies.now l ≡ Some step)) (sym c.in-Attach.is) (c.attaching.ensures c.in-Attach.conn)

pub returns-in-Upgrade : goal.returns-in-Upgrade
returns-in-Upgrade c = subst (λ (l : ScriptLine). IfOk c.upgrading.result (λ step. op_in c.args.policies.now l ≡ Some step)) (sym c.in-Upgrade.is) (c.upgrading.ensures c.in-Upgrade.conn)
