use Rattle.std.proofs.Common.{◌∷◌, subst, sym}
use Rattle.std.specs.Bool.{OnTrue}
use Rattle.engine_core.specs.declared.op.Op.{Op as Step}
use Rattle.call_history.specs.Rules.{CanFollow}
use Rattle.call_history.specs.declared.happening.Happening.TheVariants.{Op}
use Rattle.audit_rules.specs.CheckerState.{IsCheckerAfter, checker_context}
use Rattle.audit_rules.proofs.checker.Checker.operate.Goals as goal

pub returns-in-Attach-clause-knows : goal.returns-in-Attach-clause-knows
returns-in-Attach-clause-knows c = λ T past knows.
    subst (λ (s : Step). CanFollow (checker_context T c.args.self.now) past (Op s)
    → OnTrue c.attach.result (IsCheckerAfter T (Op s ∷ past) c.attach.new.self)) (sym c.in-Attach.is)
    (c.attach.ensures.knows T past _ knows)

pub returns-in-Detach-clause-knows : goal.returns-in-Detach-clause-knows
returns-in-Detach-clause-knows c = λ T past knows.
    subst (λ (s : Step). CanFollow (checker_context T c.args.self.now) past (Op s)
    → OnTrue c.detach.result (IsCheckerAfter T (Op s ∷ past) c.detach.new.self)) (sym c.in-Detach.is)
    (c.detach.ensures.knows T past knows)

pub returns-clause-knows : goal.returns-clause-knows
returns-clause-knows c = λ T past knows.
    subst (λ (s : Step). CanFollow (checker_context T c.args.self.now) past (Op s)
    → OnTrue c.upgrade.result (IsCheckerAfter T (Op s ∷ past) c.upgrade.new.self)) (sym c.in-Upgrade.is)
    (c.upgrade.ensures.knows T past _ knows)
