use Rattle.engine_core.proofs.ChainLaws.{is-changed, changes-unless}
use Rattle.engine_core.proofs.laws.changed_is_the_change.Goals as goal

pub returns-clause-only : goal.returns-clause-only
returns-clause-only c = λ before after op chain changes. is-changed before after op chain changes.effect

pub returns-clause-unless_refused : goal.returns-clause-unless_refused
returns-clause-unless_refused c = changes-unless
