use Rattle.call_history.proofs.Determined.{one-end, one-turn}
use Rattle.call_history.proofs.laws.transitions_are_deterministic.Goals as goal

pub returns-clause-end : goal.returns-clause-end
returns-clause-end c = one-end

pub returns-clause-turn : goal.returns-clause-turn
returns-clause-turn c = one-turn c.outcome_is_unique.ensures
