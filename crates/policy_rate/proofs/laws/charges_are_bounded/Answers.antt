use Rattle.policy_rate.proofs.Bounds.{charges-le}
use Rattle.policy_rate.proofs.laws.charges_are_bounded.Goals as goal

pub returns : goal.returns
returns c = charges-le
