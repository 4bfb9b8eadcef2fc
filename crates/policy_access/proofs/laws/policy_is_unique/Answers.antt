use Rattle.policy_access.proofs.TextLemmas.{one-policy}
use Rattle.policy_access.proofs.laws.policy_is_unique.Goals as goal

pub returns : goal.returns
returns c = one-policy
