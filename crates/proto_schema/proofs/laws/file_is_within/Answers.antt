use Rattle.proto_schema.proofs.Insides.{text_within}
use Rattle.proto_schema.proofs.laws.file_is_within.Goals as goal

pub returns : goal.returns
returns c = text_within
