use Rattle.std.proofs.Common.{take}
use Rattle.mrpc_table.specs.View.{node_of}
use Rattle.wire_decode.specs.LaterMembers.{HasNoMember}
use Rattle.wire_decode.proofs.oneof.has_member.Given as goal

abbrev pub invariant-loop-part : goal.invariant-loop-part
invariant-loop-part l = HasNoMember l.fields (node_of (take l.part-index l.part-items))
