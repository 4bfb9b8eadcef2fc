use Rattle.engine_core.proofs.AnswerLaws.{denied-within}
use Rattle.engine_core.proofs.laws.denied_by_a_rule.Goals as goal

pub returns : goal.returns
returns c = denied-within
