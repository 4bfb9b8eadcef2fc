use Rattle.proto_set.proofs.Visited.{paths_apart, root_one}
use Rattle.proto_set.proofs.import_laws.visit_outcome_is_unique.Goals as goal

pub returns : goal.returns
returns c set o p own v w = root_one (paths_apart own) v w
