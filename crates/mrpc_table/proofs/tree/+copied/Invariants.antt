-- The copy so far equals the part that it was copied from.
use Rattle.std.proofs.Common.{◌≡◌, take}
use Rattle.mrpc_table.specs.View.{items_of, pairs_of, node_of}
use Rattle.mrpc_table.proofs.tree.+copied.Given as goal

abbrev pub invariant-Tree::copied-loop-field : goal.invariant-Tree::copied-loop-field
invariant-Tree::copied-loop-field l = node_of l.fields.items ≡ node_of (take l.field-index l.field-items)

abbrev pub invariant-FieldValue::copied-loop-value : goal.invariant-FieldValue::copied-loop-value
invariant-FieldValue::copied-loop-value l = items_of l.copies.items ≡ items_of (take l.value-index l.value-items)

abbrev pub invariant-FieldValue::copied-loop-entry : goal.invariant-FieldValue::copied-loop-entry
invariant-FieldValue::copied-loop-entry l = pairs_of l.copies.items ≡ pairs_of (take l.entry-index l.entry-items)
