use Rattle.std.proofs.Common.{◌∙◌, ap, refl}
use Rattle.mrpc_table.specs.View.{node_of, items_of, pairs_of}
use Rattle.mrpc_table.proofs.Views.{node_of-more, items_of-more, pairs_of-more}
use Rattle.mrpc_table.proofs.tree.+copied.Goals as goal

pub Tree::copied-loop-field-preserved : goal.Tree::copied-loop-field-preserved
Tree::copied-loop-field-preserved t c =
    let step = node_of-more c.loop-field.fields.items c.deref-field-items.result.now c.loop-field.field-index
    (c.field-item.result.0, c.in_ok-content.content) c.field-item.result c.loop-field-test.true c.field-item.is
    refl c.in_ok-content.ensures c.loop-field.invariant in
    ap node_of c.in_ok-push.ensures.items ∙ step

pub FieldValue::copied-loop-value-preserved : goal.FieldValue::copied-loop-value-preserved
FieldValue::copied-loop-value-preserved t c =
    let step = items_of-more c.loop-value.copies.items c.deref-value-items.result.now c.loop-value.value-index
    c.in_ok-copied-in-Many.field-0 c.value-item.result c.loop-value-test.true c.value-item.is
    c.in_ok-copied-in-Many.ensures c.loop-value.invariant in
    ap items_of c.in_ok-push-in-Many.ensures.items ∙ step

pub FieldValue::copied-loop-entry-preserved : goal.FieldValue::copied-loop-entry-preserved
FieldValue::copied-loop-entry-preserved t c =
    let step = pairs_of-more c.loop-entry.copies.items c.deref-entry-items.result.now c.loop-entry.entry-index
    (c.in_ok-key-in-Pairs.key, c.in_ok-value-in-Pairs.value) c.entry-item.result c.loop-entry-test.true
    c.entry-item.is c.in_ok-key-in-Pairs.ensures c.in_ok-value-in-Pairs.ensures c.loop-entry.invariant in
    ap pairs_of c.in_ok-push-in-Pairs.ensures.items ∙ step
