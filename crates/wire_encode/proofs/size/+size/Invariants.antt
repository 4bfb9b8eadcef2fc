use Rattle.std.proofs.Common.{◌≡◌, ◌+◌, ◌*◌, length, take}
use Rattle.mrpc_table.specs.View.{item_of, items_of, pairs_of, content_of}
use Rattle.mrpc_table.specs.Weight.{weight, content_weight, item_weight, items_weight, pairs_weight}
use Rattle.std.specs.List.{flat_map}
use Rattle.mrpc_table.specs.Capped.{capped}
use Rattle.wire_encode.proofs.Parts.{field_part, element_part, record_part, entry_part}
use Rattle.wire_encode.proofs.size.+size.Given as goal

abbrev pub invariant-message_len-loop-field : goal.invariant-message_len-loop-field
invariant-message_len-loop-field l = l.total ≡ capped (length (flat_map (field_part l.table l.fields) (take l.field-index l.field-items)))

abbrev pub invariant-joined_len-loop-value : goal.invariant-joined_len-loop-value
invariant-joined_len-loop-value l = l.total ≡ capped (length (flat_map (element_part l.table l.kind) (take l.value-index l.value-items)))

abbrev pub invariant-records_len-loop-value : goal.invariant-records_len-loop-value
invariant-records_len-loop-value l = l.total ≡ capped (length (flat_map (record_part l.table l.number l.kind) (take l.value-index l.value-items)))

abbrev pub invariant-entries_len-loop-entry : goal.invariant-entries_len-loop-entry
invariant-entries_len-loop-entry l = l.total ≡ capped (length (flat_map (entry_part l.table l.number l.key l.kind) (take l.entry-index l.entry-items)))

abbrev pub decreases-message_len : goal.decreases-message_len
decreases-message_len l = 3 * weight l.tree.now

abbrev pub decreases-field_len : goal.decreases-field_len
decreases-field_len l = 3 * content_weight (content_of l.content.now) + 2

abbrev pub decreases-joined_len : goal.decreases-joined_len
decreases-joined_len l = 3 * items_weight (items_of l.values.now.items) + 1

abbrev pub decreases-records_len : goal.decreases-records_len
decreases-records_len l = 3 * items_weight (items_of l.values.now.items) + 1

abbrev pub decreases-entries_len : goal.decreases-entries_len
decreases-entries_len l = 3 * pairs_weight (pairs_of l.entries.now.items) + 1

abbrev pub decreases-value_len : goal.decreases-value_len
decreases-value_len l = 3 * item_weight (item_of l.value.now)
