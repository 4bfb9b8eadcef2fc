-- All parts fit if those from the next one on do.
use Rattle.std.proofs.Common.{◌≡◌, ◌↔◌, ◌+◌, ◌*◌, length, drop}
use Rattle.mrpc_table.specs.View.{items_of, pairs_of, node_of}
use Rattle.mrpc_table.specs.NormalParts.{AreItemsWithin, ArePairsWithin, IsNormalSuffix}
use Rattle.mrpc_table.proofs.normal.+fits.Given as goal

abbrev pub decreases-tree_fits : goal.decreases-tree_fits
decreases-tree_fits l = 5 * l.room + 4

abbrev pub decreases-fields_fit : goal.decreases-fields_fit
decreases-fields_fit l = 5 * l.room + 3

abbrev pub decreases-content_fits : goal.decreases-content_fits
decreases-content_fits l = 5 * l.room + 2

abbrev pub decreases-items_fit : goal.decreases-items_fit
decreases-items_fit l = 5 * l.room + 1

abbrev pub decreases-pairs_fit : goal.decreases-pairs_fit
decreases-pairs_fit l = 5 * l.room + 1

abbrev pub decreases-item_fits : goal.decreases-item_fits
decreases-item_fits l = 5 * l.room

abbrev pub invariant-items_fit-loop-value : goal.invariant-items_fit-loop-value
invariant-items_fit-loop-value l = AreItemsWithin l.table l.kind l.room (items_of l.values) ↔ AreItemsWithin l.table l.kind l.room (items_of (drop l.value-index l.values))

abbrev pub invariant-pairs_fit-loop-entry : goal.invariant-pairs_fit-loop-entry
invariant-pairs_fit-loop-entry l = ArePairsWithin l.table l.key l.kind l.room (pairs_of l.entries) ↔ ArePairsWithin l.table l.key l.kind l.room (pairs_of (drop l.entry-index l.entries))

abbrev pub invariant-fields_fit-loop-number : goal.invariant-fields_fit-loop-number
invariant-fields_fit-loop-number l = (IsNormalSuffix l.table l.message.fields l.room 0 l.fn.taken (node_of l.number-items)
    ↔ IsNormalSuffix l.table l.message.fields l.room l.last l.taken (node_of (drop l.number-index l.number-items)))
    × (length l.taken ≡ 128)
