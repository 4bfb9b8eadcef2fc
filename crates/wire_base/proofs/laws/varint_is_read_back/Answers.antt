use Rattle.wire_base.proofs.Varints.{length-varint-least, length-varint-most, VarintAt-varint}
use Rattle.wire_base.proofs.laws.varint_is_read_back.Goals as goal

pub returns-clause-some : goal.returns-clause-some
returns-clause-some c = length-varint-least

pub returns-clause-ten : goal.returns-clause-ten
returns-clause-ten c = length-varint-most

pub returns-clause-read : goal.returns-clause-read
returns-clause-read c = VarintAt-varint
