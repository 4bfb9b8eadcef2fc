-- The remaining parts of a tree weigh no more than the tree, and each of them less.
use Rattle.std.proofs.Common.{◌+◌, ◌*◌, ◌≤◌}
use Rattle.mrpc_table.specs.View.{item_of, items_of, pairs_of, content_of, node_of}
use Rattle.mrpc_table.specs.Weight.{weight, content_weight, item_weight, items_weight, pairs_weight}
use Rattle.wire_decode.proofs.tree_pool.TreePool.+recycle.Given as goal

abbrev pub decreases-recycle : goal.decreases-recycle
decreases-recycle l = 2 * weight l.tree + 1

abbrev pub decreases-recycle_content : goal.decreases-recycle_content
decreases-recycle_content l = 2 * content_weight (content_of l.content) + 2

abbrev pub decreases-recycle_list : goal.decreases-recycle_list
decreases-recycle_list l = 2 * items_weight (items_of l.values.items) + 1

abbrev pub decreases-recycle_entries : goal.decreases-recycle_entries
decreases-recycle_entries l = 2 * pairs_weight (pairs_of l.entries.items) + 1

abbrev pub decreases-recycle_value : goal.decreases-recycle_value
decreases-recycle_value l = 2 * item_weight (item_of l.value)

abbrev pub invariant-recycle-loop-content : goal.invariant-recycle-loop-content
invariant-recycle-loop-content l = weight (node_of l.fields.items) ≤ weight l.fn.tree

abbrev pub decreases-recycle-loop-content : goal.decreases-recycle-loop-content
decreases-recycle-loop-content l = goal.left-recycle-loop-content l

abbrev pub invariant-recycle_list-loop-value : goal.invariant-recycle_list-loop-value
invariant-recycle_list-loop-value l = items_weight (items_of l.values.items) ≤ items_weight (items_of l.fn.values.items)

abbrev pub decreases-recycle_list-loop-value : goal.decreases-recycle_list-loop-value
decreases-recycle_list-loop-value l = goal.left-recycle_list-loop-value l

abbrev pub invariant-recycle_entries-loop-key : goal.invariant-recycle_entries-loop-key
invariant-recycle_entries-loop-key l = pairs_weight (pairs_of l.entries.items) ≤ pairs_weight (pairs_of l.fn.entries.items)

abbrev pub decreases-recycle_entries-loop-key : goal.decreases-recycle_entries-loop-key
decreases-recycle_entries-loop-key l = goal.left-recycle_entries-loop-key l
