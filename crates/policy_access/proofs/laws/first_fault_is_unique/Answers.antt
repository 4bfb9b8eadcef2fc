use Rattle.policy_access.proofs.TextLemmas.{one-fault}
use Rattle.policy_access.proofs.laws.first_fault_is_unique.Goals as goal

pub returns : goal.returns
returns c = one-fault
