use Rattle.std.proofs.Common.{◌≡◌, ◌+◌, ◌*◌, ◌^◌, ◌<◌, drop}
use Rattle.mrpc_table.specs.View.{item_of, items_of, pairs_of, content_of, node_of}
use Rattle.mrpc_table.specs.Weight.{weight, content_weight, item_weight, items_weight, pairs_weight}
use Rattle.mrpc_table.specs.Normal.{fields_of}
use Rattle.mrpc_table.specs.Capped.{capped}
use Rattle.graph_place.specs.Size.{tree_words, fields_words, many_words, pairs_words}
use Rattle.graph_place.proofs.size.+size.Given as goal

-- with the words of the remaining parts, these are all
abbrev pub invariant-node_words-loop-field : goal.invariant-node_words-loop-field
invariant-node_words-loop-field l =
    (l.total < 2 ^ 64)
    × (capped (l.total + fields_words l.table (fields_of l.table l.msg) (node_of (drop l.field-index l.field-items)))
    ≡ capped (tree_words l.table l.msg l.tree))

abbrev pub invariant-elements_words-loop-value : goal.invariant-elements_words-loop-value
invariant-elements_words-loop-value l =
    (l.total < 2 ^ 64) × (capped (l.total + many_words l.table l.kind (items_of (drop l.value-index l.value-items)))
    ≡ capped (many_words l.table l.kind (items_of l.values.items)))

abbrev pub invariant-entries_words-loop-entry : goal.invariant-entries_words-loop-entry
invariant-entries_words-loop-entry l =
    (l.total < 2 ^ 64) × (capped (l.total + pairs_words l.table l.kind (pairs_of (drop l.entry-index l.entry-items)))
    ≡ capped (pairs_words l.table l.kind (pairs_of l.entries.items)))

abbrev pub decreases-node_words : goal.decreases-node_words
decreases-node_words l = 3 * weight l.tree.now

abbrev pub decreases-content_words : goal.decreases-content_words
decreases-content_words l = 3 * content_weight (content_of l.content.now) + 2

abbrev pub decreases-elements_words : goal.decreases-elements_words
decreases-elements_words l = 3 * items_weight (items_of l.values.now.items) + 1

abbrev pub decreases-entries_words : goal.decreases-entries_words
decreases-entries_words l = 3 * pairs_weight (pairs_of l.entries.now.items) + 1

abbrev pub decreases-item_words : goal.decreases-item_words
decreases-item_words l = 3 * item_weight (item_of l.value.now)
