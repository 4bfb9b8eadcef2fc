use Rattle.proto_set.proofs.Ordering.{one_text, own_text}
use Rattle.proto_set.proofs.join_laws.offset_is_in_one_file.Goals as goal

pub returns-clause-one : goal.returns-clause-one
returns-clause-one c = one_text

pub returns-clause-own : goal.returns-clause-own
returns-clause-own c = λ ps k x piece s sound. own_text ps sound k x piece s
