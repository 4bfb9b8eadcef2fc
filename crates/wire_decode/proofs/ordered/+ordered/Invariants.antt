use Rattle.std.proofs.Common.{◌+◌, ◌-◌, ◌*◌, ◌≤◌, length, map}
use Rattle.mrpc_table.specs.View.{item_of, node_of}
use Rattle.mrpc_table.specs.SortedEntries.{items_of_entry}
use Rattle.wire_decode.proofs.Orderly.{SoFar}
use Rattle.wire_decode.proofs.OrderlyValues.{ValuesBefore, EntriesBefore}
use Rattle.wire_decode.proofs.ordered.+ordered.Given as goal

abbrev pub invariant-ordered_message-loop-at : goal.invariant-ordered_message-loop-at
invariant-ordered_message-loop-at l = (l.start ≤ l.at) × (l.at ≤ length l.bytes) × SoFar l.table l.room l.fields l.bytes l.start l.at l.last l.oneofs (node_of l.whole.items)

abbrev pub decreases-ordered_message-loop-at : goal.decreases-ordered_message-loop-at
decreases-ordered_message-loop-at l = length l.bytes - l.at

abbrev pub invariant-ordered_values-loop-first : goal.invariant-ordered_values-loop-first
invariant-ordered_values-loop-first l = (l.start ≤ l.first) × ValuesBefore l.table l.room l.kind l.bytes l.tag l.start l.first (map item_of l.values.items)

abbrev pub decreases-ordered_values-loop-first : goal.decreases-ordered_values-loop-first
decreases-ordered_values-loop-first l = length l.bytes + 1 - l.first

abbrev pub invariant-ordered_entries-loop-first : goal.invariant-ordered_entries-loop-first
invariant-ordered_entries-loop-first l = (l.start ≤ l.first) × EntriesBefore l.table l.room l.key l.kind l.bytes l.tag l.start l.first (map items_of_entry l.entries.items)

abbrev pub decreases-ordered_entries-loop-first : goal.decreases-ordered_entries-loop-first
decreases-ordered_entries-loop-first l = length l.bytes + 1 - l.first

abbrev pub decreases-ordered_message : goal.decreases-ordered_message
decreases-ordered_message l = 6 * (length l.bytes.now - l.start)

abbrev pub decreases-ordered_field : goal.decreases-ordered_field
decreases-ordered_field l = 6 * (length l.bytes.now - l.start) + 4

abbrev pub decreases-ordered_single : goal.decreases-ordered_single
decreases-ordered_single l = 6 * (length l.bytes.now - l.start) + 3

abbrev pub decreases-ordered_list : goal.decreases-ordered_list
decreases-ordered_list l = 6 * (length l.bytes.now - l.start) + 3

abbrev pub decreases-ordered_map : goal.decreases-ordered_map
decreases-ordered_map l = 6 * (length l.bytes.now - l.start) + 3

abbrev pub decreases-ordered_values : goal.decreases-ordered_values
decreases-ordered_values l = 6 * (length l.bytes.now - l.start) + 2

abbrev pub decreases-ordered_entries : goal.decreases-ordered_entries
decreases-ordered_entries l = 6 * (length l.bytes.now - l.start) + 2

abbrev pub decreases-ordered_entry : goal.decreases-ordered_entry
decreases-ordered_entry l = 6 * (length l.bytes.now - l.start) + 2

abbrev pub decreases-ordered_value : goal.decreases-ordered_value
decreases-ordered_value l = 6 * (length l.bytes.now - l.start) + 1

abbrev pub decreases-ordered_node : goal.decreases-ordered_node
decreases-ordered_node l = 6 * (length l.bytes.now - l.start)
