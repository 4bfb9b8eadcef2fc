use Rattle.conn_core.proofs.Spelling.{spelled-accepted, spelled-drained, spelled-still}
use Rattle.conn_core.proofs.laws.loads_after_transition.Goals as goal

pub returns-clause-accepted : goal.returns-clause-accepted
returns-clause-accepted c = spelled-accepted

pub returns-clause-other : goal.returns-clause-other
returns-clause-other c = spelled-still

pub returns-clause-drained : goal.returns-clause-drained
returns-clause-drained c = spelled-drained
