use Rattle.proto_schema.proofs.Shallow.{one_reading}
use Rattle.proto_schema.proofs.laws.file_is_unique.Goals as goal

pub returns : goal.returns
returns c = λ text f g h k. one_reading text f g (λ p ts us a b. c.token_list_is_determined.ensures.one text p ts us a b) h k
