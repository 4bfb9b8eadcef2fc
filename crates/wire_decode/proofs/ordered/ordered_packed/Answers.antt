use Rattle.std.proofs.Common.{◌∙◌, ◌/◌, ap, sym, map}
use Rattle.mrpc_table.specs.Node.{no_fields}
use Rattle.mrpc_table.specs.View.{item_of, node_of}
use Rattle.wire_decode.specs.Merged.{list_of_items, join_fields}
use Rattle.wire_decode.specs.Contents.{with_content}
use Rattle.wire_decode.proofs.Gathering.{items_in-items_of}
use Rattle.wire_decode.proofs.OrderlyValues.{piece-field, items-of-numbers, ok-has, on-ok-has}
use Rattle.wire_decode.proofs.ordered.ordered_packed.Goals as goal

pub returns-clause-found : goal.returns-clause-found
returns-clause-found c =
    let old = node_of c.args.whole.now.items in
    let vs = c.in_ok-values.values.items in
    let h = ok-has c.elements.result c.in_ok-values.values _ c.in_ok-values.ensures.value c.elements.ensures.found in
    let pushed = on-ok-has c.push_content.result _ _ c.in_ok-ok.ensures.value c.push_content.ensures in
    piece-field c.args.table.now c.args.room c.args.label c.args.kind c.args.bytes.now c.args.tag c.args.start
    c.in_ok-first.first c.in_ok-first.end h.0 (map item_of vs) old (node_of c.push_content.new.whole.items)
    c.requires.list c.requires.numeric c.requires.delimited c.in_ok-first.ensures.found h.1
    (sym (items_in-items_of vs) ∙ ap list_of_items h.2 ∙ items-of-numbers h.0)
    (pushed ∙ ap (λ o. join_fields old (with_content (c.args.tag / 8) o no_fields)) c.many.ensures)
