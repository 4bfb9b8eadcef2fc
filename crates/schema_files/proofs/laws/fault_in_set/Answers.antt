use Rattle.schema_files.proofs.InSet.{fault_within}
use Rattle.schema_files.proofs.laws.fault_in_set.Goals as goal

pub returns : goal.returns
returns c = fault_within
