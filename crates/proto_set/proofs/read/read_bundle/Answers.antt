use Rattle.proto_set.proofs.WholeSets.{only_spelled, found_first}
use Rattle.proto_set.proofs.read.read_bundle.Goals as goal

pub returns-clause-only : goal.returns-clause-only
returns-clause-only c = λ files s. only_spelled c.args.input.now files c.read_files.result s c.read_files.ensures.read c.read_files.ensures.fault

pub returns-clause-found : goal.returns-clause-found
returns-clause-found c = λ k f. found_first c.args.input.now k c.read_files.result f c.read_files.ensures.read c.read_files.ensures.fault
