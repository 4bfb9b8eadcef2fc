use Rattle.proto_set.proofs.Forming.{joined-formed}
use Rattle.proto_set.proofs.Ordering.{joined-ordered}
use Rattle.proto_set.proofs.join_laws.joined_is_ordered.Goals as goal

pub returns-clause-formed : goal.returns-clause-formed
returns-clause-formed c = joined-formed

pub returns-clause-ordered : goal.returns-clause-ordered
returns-clause-ordered c = joined-ordered
