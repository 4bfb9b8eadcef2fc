use Rattle.wire_base.proofs.OneReading.{RecordAt-same, RecordAt-no_fault, FaultAt-same}
use Rattle.wire_base.proofs.Choices.{record-or}
use Rattle.wire_base.proofs.laws.record_or_fault.Goals as goal

pub returns-clause-either : goal.returns-clause-either
returns-clause-either c = record-or

pub returns-clause-not_both : goal.returns-clause-not_both
returns-clause-not_both c = RecordAt-no_fault

pub returns-clause-one_record : goal.returns-clause-one_record
returns-clause-one_record c = RecordAt-same

pub returns-clause-one_fault : goal.returns-clause-one_fault
returns-clause-one_fault c = FaultAt-same
