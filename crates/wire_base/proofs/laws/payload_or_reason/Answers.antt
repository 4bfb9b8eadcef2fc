use Rattle.wire_base.proofs.OneReading.{PayloadAt-same, PayloadAt-no_fault, NoPayloadAt-same}
use Rattle.wire_base.proofs.Choices.{payload-or}
use Rattle.wire_base.proofs.laws.payload_or_reason.Goals as goal

pub returns-clause-either : goal.returns-clause-either
returns-clause-either c = payload-or

pub returns-clause-not_both : goal.returns-clause-not_both
returns-clause-not_both c = PayloadAt-no_fault

pub returns-clause-one_payload : goal.returns-clause-one_payload
returns-clause-one_payload c = PayloadAt-same

pub returns-clause-one_reason : goal.returns-clause-one_reason
returns-clause-one_reason c = NoPayloadAt-same
