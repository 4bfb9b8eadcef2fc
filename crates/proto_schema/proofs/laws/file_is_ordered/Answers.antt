use Rattle.proto_schema.proofs.Formed.{well_formed}
use Rattle.proto_schema.proofs.Ordered.{in_order}
use Rattle.proto_schema.proofs.laws.file_is_ordered.Goals as goal

pub returns : goal.returns
returns c = record { formed = well_formed; ordered = in_order }
