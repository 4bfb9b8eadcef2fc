use Rattle.std.proofs.Common.{◌≡◌, ◌∙◌, drop, ap, arith}
use Rattle.std.proofs.lemmas.List.{drop_all}
use Rattle.mrpc_table.specs.Normal.{fields_of}
use Rattle.mrpc_table.specs.View.{items_of, pairs_of, node_of}
use Rattle.mrpc_table.specs.Weight.{weight, items_weight, pairs_weight}
use Rattle.graph_place.specs.Size.{fields_words, many_words, pairs_words}
use Rattle.graph_place.proofs.Parts.{field_weight, element_weight, entry_weight}
use Rattle.graph_place.proofs.size.+size.Goals as goal

pub node_words-content_words-requires : goal.node_words-content_words-requires
node_words-content_words-requires t c =
    let below = field_weight c.deref-field-items.result.now c.loop-field.field-index c.field-item.result c.loop-field-test.true c.field-item.is in
    let items : weight (node_of c.deref-field-items.result.now) ≡ weight c.args.tree.now = ap (λ xs. weight (node_of xs)) c.deref-field-items.ensures.value ∙ ap weight c.tree.view_is in
    (omega (arith, below, items, c.decreases), c.requires)

pub node_words-returns : goal.node_words-returns
node_words-returns t c =
    let none : fields_words c.args.table.now (fields_of c.args.table.now c.args.msg) (node_of (drop c.loop-field.field-index c.deref-field-items.result.now)) ≡ 0
    = ap (λ xs. fields_words c.args.table.now (fields_of c.args.table.now c.args.msg) (node_of xs))
    (drop_all c.loop-field.field-index c.deref-field-items.result.now c.loop-field-test.false) in
    omega (arith, none, c.loop-field.invariant.0, c.loop-field.invariant.1)

pub elements_words-item_words-content-requires : goal.elements_words-item_words-content-requires
elements_words-item_words-content-requires t c =
    let below = element_weight c.deref-value-items.result.now c.loop-value.value-index c.value-item.result c.loop-value-test.true c.value-item.is in
    let items = ap (λ xs. items_weight (items_of xs)) c.deref-value-items.ensures.value in
    (omega (arith, below, items, c.decreases), c.requires)

pub elements_words-returns : goal.elements_words-returns
elements_words-returns t c =
    let none : many_words c.args.table.now c.args.kind (items_of (drop c.loop-value.value-index c.deref-value-items.result.now)) ≡ 0
    = ap (λ xs. many_words c.args.table.now c.args.kind (items_of xs)) (drop_all c.loop-value.value-index c.deref-value-items.result.now c.loop-value-test.false) in
    omega (arith, none, c.loop-value.invariant.0, c.loop-value.invariant.1)

pub entries_words-item_words-requires : goal.entries_words-item_words-requires
entries_words-item_words-requires t c =
    let below = entry_weight c.deref-entry-items.result.now c.loop-entry.entry-index c.entry-item.result c.loop-entry-test.true c.entry-item.is in
    let items = ap (λ xs. pairs_weight (pairs_of xs)) c.deref-entry-items.ensures.value in
    (omega (arith, below, items, c.decreases), c.requires)

pub entries_words-returns : goal.entries_words-returns
entries_words-returns t c =
    let none : pairs_words c.args.table.now c.args.kind (pairs_of (drop c.loop-entry.entry-index c.deref-entry-items.result.now)) ≡ 0
    = ap (λ xs. pairs_words c.args.table.now c.args.kind (pairs_of xs)) (drop_all c.loop-entry.entry-index c.deref-entry-items.result.now c.loop-entry-test.false) in
    omega (arith, none, c.loop-entry.invariant.0, c.loop-entry.invariant.1)
