use Rattle.engine_core.proofs.OutcomeLaws.{one_outcome}
use Rattle.engine_core.proofs.laws.outcome_is_unique.Goals as goal

pub returns : goal.returns
returns c = one_outcome
