use Rattle.call_history.proofs.GoingOn.{behind-apart, legal-apart, legal-where}
use Rattle.call_history.proofs.laws.connections_are_independent.Goals as goal

pub returns-clause-behind : goal.returns-clause-behind
returns-clause-behind c = behind-apart

pub returns-clause-legal : goal.returns-clause-legal
returns-clause-legal c = legal-apart

pub returns-clause-one : goal.returns-clause-one
returns-clause-one c = legal-where
