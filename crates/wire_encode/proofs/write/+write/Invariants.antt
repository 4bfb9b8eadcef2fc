use Rattle.std.proofs.Common.{◌≡◌, ◌+◌, ◌*◌, ◌++◌, drop}
use Rattle.std.specs.List.{flat_map}
use Rattle.mrpc_table.specs.View.{item_of, items_of, pairs_of, content_of}
use Rattle.mrpc_table.specs.Weight.{weight, content_weight, item_weight, items_weight, pairs_weight}
use Rattle.wire_encode.proofs.Parts.{field_part, element_part, record_part, entry_part}
use Rattle.wire_encode.proofs.write.+write.Given as goal

abbrev pub invariant-write_message-loop-place : goal.invariant-write_message-loop-place
invariant-write_message-loop-place l = l.out ≡ flat_map (field_part l.table l.fields) (drop l.place l.parts.items) ++ l.fn.out

abbrev pub invariant-write_joined-loop-place : goal.invariant-write_joined-loop-place
invariant-write_joined-loop-place l = l.out ≡ flat_map (element_part l.table l.kind) (drop l.place l.values.items) ++ l.fn.out

abbrev pub invariant-write_records-loop-place : goal.invariant-write_records-loop-place
invariant-write_records-loop-place l = l.out ≡ flat_map (record_part l.table l.number l.kind) (drop l.place l.values.items) ++ l.fn.out

abbrev pub invariant-write_entries-loop-place : goal.invariant-write_entries-loop-place
invariant-write_entries-loop-place l = l.out ≡ flat_map (entry_part l.table l.number l.key l.kind) (drop l.place l.entries.items) ++ l.fn.out

abbrev pub decreases-write_message : goal.decreases-write_message
decreases-write_message l = 6 * weight l.tree.now

abbrev pub decreases-write_field : goal.decreases-write_field
decreases-write_field l = 6 * content_weight (content_of l.content.now) + 5

abbrev pub decreases-write_packed : goal.decreases-write_packed
decreases-write_packed l = 6 * items_weight (items_of l.values.now.items) + 4

abbrev pub decreases-write_joined : goal.decreases-write_joined
decreases-write_joined l = 6 * items_weight (items_of l.values.now.items) + 3

abbrev pub decreases-write_records : goal.decreases-write_records
decreases-write_records l = 6 * items_weight (items_of l.values.now.items) + 3

abbrev pub decreases-write_record : goal.decreases-write_record
decreases-write_record l = 6 * item_weight (item_of l.value.now) + 1

abbrev pub decreases-write_entries : goal.decreases-write_entries
decreases-write_entries l = 6 * pairs_weight (pairs_of l.entries.now.items) + 3

abbrev pub decreases-write_entry : goal.decreases-write_entry
decreases-write_entry l = 6 * (item_weight (item_of l.entry.now.0) + item_weight (item_of l.entry.now.1)) + 2

abbrev pub decreases-write_value : goal.decreases-write_value
decreases-write_value l = 6 * item_weight (item_of l.value.now)
