use Rattle.policy_rate.proofs.Bounds.{level-le-full}
use Rattle.policy_rate.proofs.laws.level_is_bounded.Goals as goal

pub returns : goal.returns
returns c = level-le-full
