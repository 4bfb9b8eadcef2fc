use Rattle.policy_redact.specs.Redacting.{is_listed}
use Rattle.policy_redact.proofs.Leaving.{without-lighter}
use Rattle.policy_redact.proofs.laws.clear_shrinks_tree.Goals as goal

pub returns : goal.returns
returns c = λ clears call. without-lighter (is_listed clears call) call.tree
