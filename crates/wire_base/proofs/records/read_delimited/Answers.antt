use Rattle.std.proofs.Common.{arith, refl}
use Rattle.wire_base.specs.Records.{short_len}
use Rattle.wire_base.proofs.records.read_delimited.Goals as goal

pub returns-then-len-bytes-clause-fault : goal.returns-then-len-bytes-clause-fault
returns-then-len-bytes-clause-fault c =
    rw c.short.ensures (refl, short_len c.in_ok-len.len c.in_ok-len.first refl refl c.in_ok-len.ensures.found (omega arith))
