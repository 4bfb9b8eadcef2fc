use Rattle.engine_core.proofs.MarkLaws.{unmarked-true}
use Rattle.engine_core.proofs.laws.unmarked_is_true.Goals as goal

pub returns : goal.returns
returns c = unmarked-true
