use Rattle.engine_core.proofs.AnswerLaws.{allows_at_any_time, allows_by_notes}
use Rattle.engine_core.proofs.laws.allows_at_any_time.Goals as goal

pub returns-clause-at_any_time : goal.returns-clause-at_any_time
returns-clause-at_any_time c = allows_at_any_time

pub returns-clause-by_notes : goal.returns-clause-by_notes
returns-clause-by_notes c = allows_by_notes
