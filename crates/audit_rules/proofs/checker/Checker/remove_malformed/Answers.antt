use Rattle.call_history.specs.declared.happening.Cause.TheVariants.{Malformed}
use Rattle.audit_rules.proofs.States.{refused-fate}
use Rattle.audit_rules.proofs.Taking.{knows-malformed}
use Rattle.audit_rules.proofs.checker.Checker.remove_malformed.Goals as goal

pub returns-clause-knows : goal.returns-clause-knows
returns-clause-knows c = λ T past seq knows may. knows-malformed T past seq c.args.self.now knows may
    (refused-fate c.ties_after_event.ensures.refuses c.pending_after_event.ensures.refused past seq Malformed)
