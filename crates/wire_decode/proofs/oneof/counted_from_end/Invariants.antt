use Rattle.std.proofs.Common.{◌≡◌, vec_len}
use Rattle.std.specs.Prelude.{reverse}
use Rattle.mrpc_table.specs.Node.{Node}
use Rattle.mrpc_table.specs.View.{node_of}
use Rattle.wire_decode.specs.Merged.{counted_records, join_fields}
use Rattle.wire_decode.specs.LaterMembers.{AreLaterMembers}
use Rattle.wire_decode.proofs.oneof.counted_from_end.Given as goal

abbrev pub invariant-loop-part : goal.invariant-loop-part
invariant-loop-part l = (done : Node) × (node_of l.fn.raw.items ≡ join_fields (node_of l.left.items) done)
    × (node_of (reverse l.kept.items) ≡ counted_records l.fields done) × AreLaterMembers l.fields l.behind.items done

abbrev pub decreases-loop-part : goal.decreases-loop-part
decreases-loop-part l = vec_len l.left
