use Rattle.proto_set.proofs.Reached.{reach_or_fault}
use Rattle.proto_set.proofs.Neither.{not_neither}
use Rattle.proto_set.proofs.import_laws.import_closure_or_fault.Goals as goal

pub returns-clause-not_both : goal.returns-clause-not_both
returns-clause-not_both c set reach q i s h f = reach_or_fault h f.at_fault

pub returns-clause-not_neither : goal.returns-clause-not_neither
returns-clause-not_neither c set some distinct never none = not_neither set some distinct never none
