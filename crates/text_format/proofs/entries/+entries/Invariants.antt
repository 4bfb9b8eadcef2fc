use Rattle.std.proofs.Common.{◌+◌, ◌*◌, take}
use Rattle.mrpc_table.specs.View.{item_of, items_of, pairs_of, content_of, node_of}
use Rattle.mrpc_table.specs.Weight.{weight, content_weight, item_weight, items_weight, pairs_weight}
use Rattle.mrpc_table.specs.Words.{key_kind}
use Rattle.text_format.specs.Entries.{IsTextOfFields, IsTextOfItems, IsTextOfPairs}
use Rattle.text_format.proofs.Appending.{Appended}
use Rattle.text_format.proofs.entries.+entries.Given as goal

abbrev pub invariant-put_fields-loop-part : goal.invariant-put_fields-loop-part
invariant-put_fields-loop-part l = Appended (IsTextOfFields l.table l.fields l.deep (node_of (take l.part-index l.part-items))) l.fn.out l.out

abbrev pub invariant-put_items-loop-value : goal.invariant-put_items-loop-value
invariant-put_items-loop-value l = Appended (IsTextOfItems l.table l.name l.kind l.deep (items_of (take l.value-index l.value-items))) l.fn.out l.out

abbrev pub invariant-put_pairs-loop-entry : goal.invariant-put_pairs-loop-entry
invariant-put_pairs-loop-entry l =
    Appended (IsTextOfPairs l.table l.said.name.now (key_kind l.said.label) l.said.kind l.deep (pairs_of (take l.entry-index l.entry-items))) l.fn.out l.out

abbrev pub decreases-put_fields : goal.decreases-put_fields
decreases-put_fields l = 4 * weight l.tree.now

abbrev pub decreases-put_content : goal.decreases-put_content
decreases-put_content l = 4 * content_weight (content_of l.content.now) + 3

abbrev pub decreases-put_items : goal.decreases-put_items
decreases-put_items l = 4 * items_weight (items_of l.values.now.items) + 2

abbrev pub decreases-put_pairs : goal.decreases-put_pairs
decreases-put_pairs l = 4 * pairs_weight (pairs_of l.entries.now.items) + 2

abbrev pub decreases-put_pair : goal.decreases-put_pair
decreases-put_pair l = 4 * (item_weight (item_of l.entry.now.0) + item_weight (item_of l.entry.now.1)) + 1

abbrev pub decreases-put_item : goal.decreases-put_item
decreases-put_item l = 4 * item_weight (item_of l.value.now)
