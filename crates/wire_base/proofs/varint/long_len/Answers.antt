use Rattle.std.proofs.Common.{arith, sym}
use Rattle.wire_base.proofs.Varints.{length-varint-at}
use Rattle.wire_base.proofs.varint.long_len.Goals as goal

pub returns-then-v-2 : goal.returns-then-v-2
returns-then-v-2 c = sym (length-varint-at 4 c.args.v (omega arith) (omega arith) (omega arith))

pub returns-else-v-2 : goal.returns-else-v-2
returns-else-v-2 c = sym (length-varint-at 5 c.args.v (omega arith) (omega arith) (omega arith))

pub returns-then-v-4 : goal.returns-then-v-4
returns-then-v-4 c = sym (length-varint-at 6 c.args.v (omega arith) (omega arith) (omega arith))

pub returns-else-v-4 : goal.returns-else-v-4
returns-else-v-4 c = sym (length-varint-at 7 c.args.v (omega arith) (omega arith) (omega arith))

pub returns-then-v-5 : goal.returns-then-v-5
returns-then-v-5 c = sym (length-varint-at 8 c.args.v (omega arith) (omega arith) (omega arith))

pub returns-else-v-5 : goal.returns-else-v-5
returns-else-v-5 c = sym (length-varint-at 9 c.args.v (omega arith) (omega arith) (omega arith))
