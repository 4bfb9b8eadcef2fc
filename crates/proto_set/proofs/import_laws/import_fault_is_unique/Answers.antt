use Rattle.proto_set.proofs.Reached.{fault_one}
use Rattle.proto_set.proofs.import_laws.import_fault_is_unique.Goals as goal

pub returns : goal.returns
returns c set q r i j s t a b = fault_one a b
