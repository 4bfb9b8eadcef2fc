use Rattle.proto_schema.proofs.FirstFaults.{either_reading, not_both}
use Rattle.proto_schema.proofs.laws.file_or_fault.Goals as goal

pub returns-clause-either : goal.returns-clause-either
returns-clause-either c = λ text. either_reading text (c.token_list_is_determined.ensures.some text)

pub returns-clause-not_both : goal.returns-clause-not_both
returns-clause-not_both c = λ text f q s h k. not_both text f q s (λ u p ts us a b. c.token_list_is_determined.ensures.one u p ts us a b) h k
