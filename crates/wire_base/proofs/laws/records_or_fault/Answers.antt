use Rattle.wire_base.proofs.Lists.{records-or, list-faultless, list-same, first-same}
use Rattle.wire_base.proofs.laws.records_or_fault.Goals as goal

pub returns-clause-either : goal.returns-clause-either
returns-clause-either c = records-or

pub returns-clause-not_both : goal.returns-clause-not_both
returns-clause-not_both c = λ bytes rs f h g. list-faultless bytes 0 rs g.before f h g.first

pub returns-clause-one_list : goal.returns-clause-one_list
returns-clause-one_list c = λ bytes rs ss. list-same bytes 0 rs ss

pub returns-clause-one_fault : goal.returns-clause-one_fault
returns-clause-one_fault c = λ bytes f g h k. first-same bytes 0 h.before k.before f g h.first k.first
