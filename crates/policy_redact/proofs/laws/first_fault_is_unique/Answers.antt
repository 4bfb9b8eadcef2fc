use Rattle.policy_redact.proofs.ReadLemmas.{one-fault}
use Rattle.policy_redact.proofs.laws.first_fault_is_unique.Goals as goal

pub returns : goal.returns
returns c = one-fault
