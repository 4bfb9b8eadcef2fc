use Rattle.proto_set.proofs.Alone.{joined-one}
use Rattle.proto_set.proofs.join_laws.joined_alone.Goals as goal

pub returns : goal.returns
returns c = joined-one
