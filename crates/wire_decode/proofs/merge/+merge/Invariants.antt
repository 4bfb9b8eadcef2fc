use Rattle.std.proofs.Common.{◌≡◌, ◌+◌, ◌*◌, map}
use Rattle.std.specs.Option.{option_map}
use Rattle.mrpc_table.specs.View.{item_of, node_of}
use Rattle.wire_decode.specs.Merged.{merged, merged_element, merged_entry, singles_in, contents_of}
use Rattle.mrpc_table.specs.SortedEntries.{items_of_entry}
use Rattle.wire_decode.specs.EntryParts.{IsMeaningOfAll}
use Rattle.wire_decode.specs.Finished.{finished_of}
use Rattle.wire_decode.proofs.merge.+merge.Given as goal

abbrev pub decreases-merged : goal.decreases-merged
decreases-merged l = 16 * l.depth

abbrev pub decreases-finished : goal.decreases-finished
decreases-finished l = 16 * l.depth + 10

abbrev pub decreases-field_content : goal.decreases-field_content
decreases-field_content l = 16 * l.depth + 8

abbrev pub decreases-entries : goal.decreases-entries
decreases-entries l = 16 * l.depth + 7

abbrev pub decreases-entry : goal.decreases-entry
decreases-entry l = 16 * l.depth + 5

abbrev pub decreases-part : goal.decreases-part
decreases-part l = 16 * l.depth + 3

abbrev pub decreases-elements : goal.decreases-elements
decreases-elements l = 16 * l.depth + 3

abbrev pub decreases-singular : goal.decreases-singular
decreases-singular l = 16 * l.depth + 3

abbrev pub decreases-element : goal.decreases-element
decreases-element l = 16 * l.depth + 1

abbrev pub invariant-elements-loop-value : goal.invariant-elements-loop-value
invariant-elements-loop-value l = map item_of l.elements.items ≡ map (merged_element (merged l.table l.depth) l.kind) (map item_of l.yielded)

abbrev pub invariant-entries-loop-value : goal.invariant-entries-loop-value
invariant-entries-loop-value l = map items_of_entry l.entries.items ≡ map (merged_entry (merged l.table l.depth) l.key l.kind) (map item_of l.yielded)

abbrev pub invariant-entry-loop-number : goal.invariant-entry-loop-number
invariant-entry-loop-number l =
    IsMeaningOfAll l.key (singles_in (contents_of 1 (node_of l.yielded))) (option_map item_of l.keys)
    × IsMeaningOfAll l.kind (singles_in (contents_of 2 (node_of l.yielded))) (option_map item_of l.values)

abbrev pub invariant-finished-loop-number : goal.invariant-finished-loop-number
invariant-finished-loop-number l = node_of l.whole.items ≡ finished_of (merged l.table l.depth) l.fields (node_of l.yielded)

abbrev pub decreases-finish : goal.decreases-finish
decreases-finish l = 16 * l.depth + 9
