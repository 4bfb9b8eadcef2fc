use Rattle.engine_core.proofs.OutcomeLaws.{passed_is_allowed}
use Rattle.engine_core.proofs.laws.passed_is_allowed.Goals as goal

pub returns : goal.returns
returns c = passed_is_allowed
