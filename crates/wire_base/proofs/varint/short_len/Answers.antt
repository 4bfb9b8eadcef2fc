use Rattle.std.proofs.Common.{arith, sym}
use Rattle.wire_base.proofs.Varints.{length-varint-small, length-varint-at}
use Rattle.wire_base.proofs.varint.short_len.Goals as goal

pub returns-then-v-2 : goal.returns-then-v-2
returns-then-v-2 c = sym (length-varint-small c.args.v c.if-v-2.true)

pub returns-else-v-2 : goal.returns-else-v-2
returns-else-v-2 c = sym (length-varint-at 1 c.args.v (omega arith) (omega arith) (omega arith))

pub returns-then-v-3 : goal.returns-then-v-3
returns-then-v-3 c = sym (length-varint-at 2 c.args.v (omega arith) (omega arith) (omega arith))

pub returns-else-v-3 : goal.returns-else-v-3
returns-else-v-3 c = sym (length-varint-at 3 c.args.v (omega arith) (omega arith) (omega arith))
