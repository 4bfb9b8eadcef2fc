use Rattle.policy_redact.proofs.Listed.{cleared-again}
use Rattle.policy_redact.proofs.laws.clear_is_idempotent.Goals as goal

pub returns : goal.returns
returns c = cleared-again
