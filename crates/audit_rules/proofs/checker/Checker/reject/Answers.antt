use Rattle.audit_rules.proofs.Operating.{knows-away}
use Rattle.audit_rules.proofs.checker.Checker.reject.Goals as goal

pub returns : goal.returns
returns c = λ T past method number addr knows may. knows-away T past method number addr c.args.self.now knows may c.ties_after_event.ensures.turns_away
