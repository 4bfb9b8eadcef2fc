use Rattle.proto_schema.proofs.FirstFaults.{one_first}
use Rattle.proto_schema.proofs.laws.text_fault_is_unique.Goals as goal

pub returns : goal.returns
returns c = λ text q r s t h k. one_first text q r s t (λ u p ts us a b. c.token_list_is_determined.ensures.one u p ts us a b) h k
