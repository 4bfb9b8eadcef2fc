use Rattle.proto_schema.proofs.AloneFiles.{text_formed_alone, text_ordered_alone}
use Rattle.proto_schema.proofs.laws.alone_is_ordered.Goals as goal

pub returns : goal.returns
returns c = record { formed = text_formed_alone; ordered = text_ordered_alone }
