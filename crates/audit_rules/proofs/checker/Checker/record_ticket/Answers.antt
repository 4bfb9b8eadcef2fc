use Rattle.std.proofs.Common.{◌+◌, ap, inl, inr, set}
use Rattle.audit_rules.specs.declared.checker.Checker.{Checker}
use Rattle.audit_rules.proofs.checker.Checker.record_ticket.Goals as goal

pub returns-then-awaits_refusal-clause-reached : goal.returns-then-awaits_refusal-clause-reached
returns-then-awaits_refusal-clause-reached c = inl (ap (λ (d : Checker). d.reached.items) c.awaits_refusal.ensures.rest)

pub returns-clause-reached : goal.returns-clause-reached
returns-clause-reached c = inr (
  ap (λ (d : Checker). set d.reached.items c.args.asked.now.place (c.args.asked.now.at + 1)) c.awaits_refusal.ensures.rest,
  c.if-awaits_refusal.ensures.below,
)
