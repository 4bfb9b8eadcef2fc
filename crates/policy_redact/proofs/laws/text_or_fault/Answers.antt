use Rattle.policy_redact.proofs.ReadLemmas.{text-or-first-fault, text-or-fault}
use Rattle.policy_redact.proofs.laws.text_or_fault.Goals as goal

pub returns-clause-either : goal.returns-clause-either
returns-clause-either c = text-or-first-fault

pub returns-clause-not_both : goal.returns-clause-not_both
returns-clause-not_both c = text-or-fault
