use Rattle.std.proofs.Common.{arith}
use Rattle.wire_encode.proofs.ShortVarints.{length-varint-least}
use Rattle.wire_encode.proofs.backward_buffer.write_varint.Goals as goal

pub write_byte-requires-clause-room : goal.write_byte-requires-clause-room
write_byte-requires-clause-room c = omega (arith, length-varint-least c.args.v, c.requires.room)
