use Rattle.std.proofs.Common.{◌∷◌, subst, sym}
use Rattle.call_history.specs.Rules.{CanFollow}
use Rattle.call_history.specs.declared.happening.Cause.{Cause}
use Rattle.call_history.specs.declared.happening.Happening.TheVariants.{Refused}
use Rattle.audit_rules.specs.CheckerState.{IsUnblockedCause, IsCheckerAfter, checker_context}
use Rattle.audit_rules.specs.EventKinds.{IsNoLinkCause}
use Rattle.audit_rules.proofs.checker.Checker.refuse.Goals as goal

pub returns-in-Malformed-clause-knows : goal.returns-in-Malformed-clause-knows
returns-in-Malformed-clause-knows c = λ past knows.
    subst (λ (w : Cause). CanFollow (checker_context c.args.table.now c.args.self.now) past (Refused c.args.seq w) → IsCheckerAfter c.args.table.now (Refused c.args.seq w ∷ past) c.remove_malformed.new.self)
    (sym c.in-Malformed.is) (c.remove_malformed.ensures.knows c.args.table.now past c.args.seq knows)

pub returns-in-Access-clause-knows : goal.returns-in-Access-clause-knows
returns-in-Access-clause-knows c = λ past knows may. c.deny.ensures.knows past c.args.cause knows (subst IsNoLinkCause (sym c.in-Access.is) tt) may

pub returns-in-Rate-clause-knows : goal.returns-in-Rate-clause-knows
returns-in-Rate-clause-knows c = λ past knows may. c.answers.ensures.knows past c.args.cause knows (subst IsNoLinkCause (sym c.in-Rate.is) tt) may

pub returns-in-Quota-clause-knows : goal.returns-in-Quota-clause-knows
returns-in-Quota-clause-knows c = λ past knows may. c.answers-in-Quota.ensures.knows past c.args.cause knows (subst IsNoLinkCause (sym c.in-Quota.is) tt) may

pub returns-in-Transport-clause-knows : goal.returns-in-Transport-clause-knows
returns-in-Transport-clause-knows c = λ past knows.
    subst (λ (w : Cause). CanFollow (checker_context c.args.table.now c.args.self.now) past (Refused c.args.seq w) → IsCheckerAfter c.args.table.now (Refused c.args.seq w ∷ past) c.refuse_for_link.new.self)
    (sym c.in-Transport.is) (c.refuse_for_link.ensures.knows c.args.table.now past c.args.seq knows (subst (λ (w : Cause). IsUnblockedCause w c.args.self.now.left) c.in-Transport.is c.requires.free))
