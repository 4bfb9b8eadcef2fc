use Rattle.std.proofs.Common.{◌+◌, ◌-◌, ◌*◌, ◌≤◌, length}
use Rattle.mrpc_table.specs.View.{node_of}
use Rattle.wire_decode.proofs.Reading.{Read, payload_size}
use Rattle.wire_decode.proofs.read.+read.Given as goal

abbrev pub invariant-read_message-loop-at : goal.invariant-read_message-loop-at
invariant-read_message-loop-at l = (l.start ≤ l.at) × (l.at ≤ length l.bytes) × Read l.table l.room l.fields l.bytes l.start l.at (node_of l.parts.items)

abbrev pub decreases-read_message-loop-at : goal.decreases-read_message-loop-at
decreases-read_message-loop-at l = length l.bytes - l.at

abbrev pub decreases-read_message : goal.decreases-read_message
decreases-read_message l = 4 * (length l.bytes.now - l.start)

abbrev pub decreases-content : goal.decreases-content
decreases-content l = 4 * payload_size l.payload + 3

abbrev pub decreases-entry : goal.decreases-entry
decreases-entry l = 4 * (length l.bytes.now - l.start) + 2

abbrev pub decreases-message : goal.decreases-message
decreases-message l = 4 * (length l.bytes.now - l.start) + 1
