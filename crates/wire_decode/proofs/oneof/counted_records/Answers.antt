use Rattle.mrpc_table.specs.View.{node_of}
use Rattle.wire_decode.proofs.Oneofs.{counted-all}
use Rattle.wire_decode.proofs.oneof.counted_records.Goals as goal

pub returns-else-has_member : goal.returns-else-has_member
returns-else-has_member c = counted-all c.args.fields.now (node_of c.args.raw.items) (c.has_member.ensures c.if-has_member.false)
