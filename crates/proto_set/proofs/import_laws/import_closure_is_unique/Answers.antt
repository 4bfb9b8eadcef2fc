use Rattle.proto_set.proofs.Reached.{reach_one}
use Rattle.proto_set.proofs.import_laws.import_closure_is_unique.Goals as goal

pub returns : goal.returns
returns c set a b x y = reach_one x y
