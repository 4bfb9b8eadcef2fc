use Rattle.std.proofs.Common.{◌≡◌, ◌∙◌, ap, sym, arith}
use Rattle.std.specs.List.{flat_map}
use Rattle.mrpc_table.specs.View.{items_of, pairs_of, node_of}
use Rattle.mrpc_table.specs.Weight.{weight, items_weight, pairs_weight}
use Rattle.wire_base.specs.Encoding.{fields_bytes}
use Rattle.wire_encode.proofs.Parts.{capped-all, field_part, element_part, record_part, entry_part, fields_bytes-parts, joined_bytes-parts, records_bytes-parts, entries_bytes-parts}
use Rattle.wire_encode.proofs.Weights.{field_weight, element_weight, entry_weight}
use Rattle.wire_encode.proofs.size.+size.Goals as goal

pub message_len-field_len-requires : goal.message_len-field_len-requires
message_len-field_len-requires t c =
    let below = field_weight c.deref-field-items.result.now c.loop-field.field-index c.field-item.result c.loop-field-test.true c.field-item.is in
    let items : weight (node_of c.deref-field-items.result.now) ≡ weight c.args.tree.now = ap (λ xs. weight (node_of xs)) c.deref-field-items.ensures.value ∙ ap weight c.tree.view_is in
    (omega (arith, below, items, c.decreases), (c.requires.all, c.requires.ascend))

pub message_len-returns : goal.message_len-returns
message_len-returns t c =
    let xs = c.deref-field-items.result.now in
    let T = c.args.table.now in
    let fs = c.args.fields.now in
    c.loop-field.invariant ∙ capped-all (field_part T fs) xs c.loop-field.field-index (fields_bytes T fs c.args.tree.now) c.loop-field-test.false
    (sym (fields_bytes-parts T fs xs) ∙ ap (λ ys. fields_bytes T fs (node_of ys)) c.deref-field-items.ensures.value ∙ ap (fields_bytes T fs) c.tree.view_is)

pub joined_len-value_len-requires : goal.joined_len-value_len-requires
joined_len-value_len-requires t c =
    let below = element_weight c.deref-value-items.result.now c.loop-value.value-index c.value-item.result c.loop-value-test.true c.value-item.is in
    let items = ap (λ xs. items_weight (items_of xs)) c.deref-value-items.ensures.value in
    (omega (arith, below, items, c.decreases), c.requires)

pub joined_len-returns : goal.joined_len-returns
joined_len-returns t c =
    let xs = c.deref-value-items.result.now in
    c.loop-value.invariant ∙ capped-all (element_part c.args.table.now c.args.kind) xs c.loop-value.value-index _ c.loop-value-test.false
    (ap (flat_map (element_part c.args.table.now c.args.kind)) c.deref-value-items.ensures.value ∙ sym (joined_bytes-parts c.args.table.now c.args.kind c.args.values.now.items))

pub records_len-value_len-requires : goal.records_len-value_len-requires
records_len-value_len-requires t c =
    let below = element_weight c.deref-value-items.result.now c.loop-value.value-index c.value-item.result c.loop-value-test.true c.value-item.is in
    let items = ap (λ xs. items_weight (items_of xs)) c.deref-value-items.ensures.value in
    (omega (arith, below, items, c.decreases), c.requires)

pub records_len-returns : goal.records_len-returns
records_len-returns t c =
    let xs = c.deref-value-items.result.now in
    let f = record_part c.args.table.now c.args.number c.args.kind in
    c.loop-value.invariant ∙ capped-all f xs c.loop-value.value-index _ c.loop-value-test.false
    (ap (flat_map f) c.deref-value-items.ensures.value ∙ sym (records_bytes-parts c.args.table.now c.args.number c.args.kind c.args.values.now.items))

pub entries_len-value_len-requires : goal.entries_len-value_len-requires
entries_len-value_len-requires t c =
    let below = entry_weight c.deref-entry-items.result.now c.loop-entry.entry-index c.entry-item.result c.loop-entry-test.true c.entry-item.is in
    let items = ap (λ xs. pairs_weight (pairs_of xs)) c.deref-entry-items.ensures.value in
    (omega (arith, below, items, c.decreases), c.requires)

pub entries_len-value_len-requires-in-loop-entry : goal.entries_len-value_len-requires-in-loop-entry
entries_len-value_len-requires-in-loop-entry t c =
    let below = entry_weight c.deref-entry-items.result.now c.loop-entry.entry-index c.entry-item.result c.loop-entry-test.true c.entry-item.is in
    let items = ap (λ xs. pairs_weight (pairs_of xs)) c.deref-entry-items.ensures.value in
    (omega (arith, below, items, c.decreases), c.requires)

pub entries_len-returns : goal.entries_len-returns
entries_len-returns t c =
    let xs = c.deref-entry-items.result.now in
    let f = entry_part c.args.table.now c.args.number c.args.key c.args.kind in
    c.loop-entry.invariant ∙ capped-all f xs c.loop-entry.entry-index _ c.loop-entry-test.false
    (ap (flat_map f) c.deref-entry-items.ensures.value ∙ sym (entries_bytes-parts c.args.table.now c.args.number c.args.key c.args.kind c.args.entries.now.items))
