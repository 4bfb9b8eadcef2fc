use Rattle.engine_core.proofs.AnswerLaws.{one_answer, some_answer}
use Rattle.engine_core.proofs.laws.answer_is_unique.Goals as goal

pub returns-clause-at_most : goal.returns-clause-at_most
returns-clause-at_most c = one_answer

pub returns-clause-at_least : goal.returns-clause-at_least
returns-clause-at_least c = some_answer
