use Rattle.policy_redact.proofs.ReadLemmas.{one-policy}
use Rattle.policy_redact.proofs.laws.policy_is_unique.Goals as goal

pub returns : goal.returns
returns c = one-policy
