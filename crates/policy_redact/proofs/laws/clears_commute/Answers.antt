use Rattle.policy_redact.proofs.Listed.{same-lines, in-turn, either-first}
use Rattle.policy_redact.proofs.laws.clears_commute.Goals as goal

pub returns-clause-of_lines : goal.returns-clause-of_lines
returns-clause-of_lines c = same-lines

pub returns-clause-in_turn : goal.returns-clause-in_turn
returns-clause-in_turn c = in-turn

pub returns-clause-either_first : goal.returns-clause-either_first
returns-clause-either_first c = either-first
