use Rattle.std.proofs.Common.{◌∷◌, subst, sym}
use Rattle.call_history.specs.Rules.{CanFollow}
use Rattle.call_history.specs.declared.happening.Happening.{Happening}
use Rattle.audit_rules.specs.CheckerState.{IsCheckerAfter, checker_context}
use Rattle.audit_rules.proofs.checker.Checker.apply.Goals as goal

pub returns-in-Away-clause-knows : goal.returns-in-Away-clause-knows
returns-in-Away-clause-knows c = λ past knows.
    subst (λ (w : Happening). CanFollow (checker_context c.args.table.now c.args.self.now) past w → IsCheckerAfter c.args.table.now (w ∷ past) c.args.self.now) (sym c.in-Away.is)
    (c.reject.ensures c.args.table.now past _ _ _ knows)
