use Rattle.policy_redact.proofs.Normality.{call-fits}
use Rattle.policy_redact.proofs.laws.clear_preserves_normal_form.Goals as goal

pub returns : goal.returns
returns c = call-fits
