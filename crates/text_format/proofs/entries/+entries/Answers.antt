use Rattle.std.proofs.Common.{◌≡◌, [], ◌++◌, take, refl, sym, ap, subst, ◌∙◌, append-nil, arith}
use Rattle.std.proofs.lemmas.List.{take_all}
use Rattle.std.proofs.lemmas.Result.{on_ok_weaker}
use Rattle.mrpc_table.specs.View.{item_of, items_of, pairs_of, node_of}
use Rattle.mrpc_table.specs.Weight.{weight, item_weight, items_weight, pairs_weight}
use Rattle.mrpc_table.specs.Words.{key_kind}
use Rattle.text_format.specs.Entries.{IsTextOfFields, IsTextOfItems, IsTextOfPairs}
use Rattle.text_format.specs.Escapes.{quoted_string}
use Rattle.text_format.specs.Lines.{scalar_line, opening, closing, enclosed}
use Rattle.text_format.proofs.Appending.{two, three}
use Rattle.text_format.proofs.Showing.{fields_step, items_step, pairs_step}
use Rattle.text_format.proofs.Weights.{field_weight, element_weight, entry_weight}
use Rattle.text_format.proofs.entries.+entries.Goals as goal

-- ---- the fields of a message

pub put_fields-loop-part-init : goal.put_fields-loop-part-init
put_fields-loop-part-init t c = record { text = []; holds = refl; behind = sym (append-nil c.args.out.now) }

pub put_fields-put_content-requires : goal.put_fields-put_content-requires
put_fields-put_content-requires t c =
    let below = field_weight c.deref-part-items.result.now c.loop-part.part-index c.part-item.result c.loop-part-test.true c.part-item.is in
    let items : weight (node_of c.deref-part-items.result.now) ≡ weight c.args.tree.now = ap (λ xs. weight (node_of xs)) c.deref-part-items.ensures.value ∙ ap weight c.tree.view_is in
    (omega (arith, below, items, c.decreases), c.requires.valid)

pub put_fields-loop-part-preserved : goal.put_fields-loop-part-preserved
put_fields-loop-part-preserved t c =
    let before = c.loop-part.invariant in
    let told = rw (c.field_info_near-place.ensures.name, c.field_info_near-place.ensures.label, c.field_info_near-place.ensures.kind) at c.in_ok-put_content.ensures in
    record {
      text = before.text ++ told.0;
      holds = fields_step c.args.table.now c.args.fields.now c.args.deep c.deref-part-items.result.now c.loop-part.part-index c.part-item.result before.text told.0
          c.loop-part-test.true c.part-item.is before.holds told.1;
      behind = two _ _ _ _ _ before.behind told.2;
    }

pub put_fields-returns : goal.put_fields-returns
put_fields-returns t c =
    let before = c.loop-part.invariant in
    let all : node_of (take c.loop-part.part-index c.deref-part-items.result.now) ≡ c.args.tree.now =
    ap node_of (take_all c.loop-part.part-index c.deref-part-items.result.now c.loop-part-test.false ∙ c.deref-part-items.ensures.value) ∙ c.tree.view_is in
    (before.text, subst (λ t. IsTextOfFields c.args.table.now c.args.fields.now c.args.deep t before.text) all before.holds, before.behind)

-- ---- the content of a field

pub put_content-returns-in-One : goal.put_content-returns-in-One
put_content-returns-in-One t c = rw c.in-One.is c.put_item.ensures

pub put_content-returns-in-Many : goal.put_content-returns-in-Many
put_content-returns-in-Many t c = rw c.in-Many.is c.put_items.ensures

pub put_content-returns-in-Pairs : goal.put_content-returns-in-Pairs
put_content-returns-in-Pairs t c = rw c.in-Pairs.is c.put_pairs.ensures

-- ---- the elements of a list

pub put_items-loop-value-init : goal.put_items-loop-value-init
put_items-loop-value-init t c = record { text = []; holds = refl; behind = sym (append-nil c.args.out.now) }

pub put_items-put_item-requires : goal.put_items-put_item-requires
put_items-put_item-requires t c =
    let below = element_weight c.deref-value-items.result.now c.loop-value.value-index c.value-item.result c.loop-value-test.true c.value-item.is in
    let items = ap (λ xs. items_weight (items_of xs)) c.deref-value-items.ensures.value in
    (omega (arith, below, items, c.decreases), c.requires)

pub put_items-loop-value-preserved : goal.put_items-loop-value-preserved
put_items-loop-value-preserved t c =
    let before = c.loop-value.invariant in
    let told = c.in_ok-put_item.ensures in
    record {
      text = before.text ++ told.0;
      holds = items_step c.args.table.now c.args.name.now c.args.kind c.args.deep c.deref-value-items.result.now c.loop-value.value-index c.value-item.result before.text told.0
          c.loop-value-test.true c.value-item.is before.holds told.1;
      behind = two _ _ _ _ _ before.behind told.2;
    }

pub put_items-returns : goal.put_items-returns
put_items-returns t c =
    let before = c.loop-value.invariant in
    let all : take c.loop-value.value-index c.deref-value-items.result.now ≡ c.args.values.now.items =
    take_all c.loop-value.value-index c.deref-value-items.result.now c.loop-value-test.false ∙ c.deref-value-items.ensures.value in
    (before.text, subst (λ xs. IsTextOfItems c.args.table.now c.args.name.now c.args.kind c.args.deep (items_of xs) before.text) all before.holds, before.behind)

-- ---- the entries of a map

pub put_pairs-loop-entry-init : goal.put_pairs-loop-entry-init
put_pairs-loop-entry-init t c = record { text = []; holds = refl; behind = sym (append-nil c.args.out.now) }

pub put_pairs-put_pair-requires : goal.put_pairs-put_pair-requires
put_pairs-put_pair-requires t c =
    let below = entry_weight c.deref-entry-items.result.now c.loop-entry.entry-index c.entry-item.result c.loop-entry-test.true c.entry-item.is in
    let items = ap (λ xs. pairs_weight (pairs_of xs)) c.deref-entry-items.ensures.value in
    (omega (arith, below, items, c.decreases), c.requires)

pub put_pairs-loop-entry-preserved : goal.put_pairs-loop-entry-preserved
put_pairs-loop-entry-preserved t c =
    let before = c.loop-entry.invariant in
    let told = rw (c.in_ok-inner.ensures, c.key.ensures) at c.in_ok-put_pair.ensures in
    record {
      text = before.text ++ enclosed c.args.deep c.args.said.name.now told.0;
      holds = pairs_step c.args.table.now c.args.said.name.now (key_kind c.args.said.label) c.args.said.kind c.args.deep c.deref-entry-items.result.now c.loop-entry.entry-index
          c.entry-item.result before.text told.0 c.loop-entry-test.true c.entry-item.is before.holds told.1;
      behind = two c.args.out.now c.loop-entry.out c.put_closing.new.out before.text (enclosed c.args.deep c.args.said.name.now told.0) before.behind
          (three c.loop-entry.out c.put_opening.new.out c.put_pair.new.out c.put_closing.new.out (opening c.args.deep c.args.said.name.now) told.0 (closing c.args.deep)
          c.in_ok-put_opening.ensures told.2 c.in_ok-put_closing.ensures);
    }

pub put_pairs-returns : goal.put_pairs-returns
put_pairs-returns t c =
    let before = c.loop-entry.invariant in
    let all : take c.loop-entry.entry-index c.deref-entry-items.result.now ≡ c.args.entries.now.items =
    take_all c.loop-entry.entry-index c.deref-entry-items.result.now c.loop-entry-test.false ∙ c.deref-entry-items.ensures.value in (
      before.text,
      subst (λ xs. IsTextOfPairs c.args.table.now c.args.said.name.now (key_kind c.args.said.label) c.args.said.kind c.args.deep (pairs_of xs) before.text) all before.holds,
      before.behind,
    )

-- ---- the key and the value of an entry

pub put_pair-returns : goal.put_pair-returns
put_pair-returns t c =
    let first = c.in_ok-put_item.ensures in
    on_ok_weaker c.put_item-2.result (λ h. (
      first.0 ++ h.0,
      (first.0, h.0, first.1, h.1, refl),
      two c.args.out.now c.put_item.new.out c.put_item-2.new.out first.0 h.0 first.2 h.2,
    )) c.put_item-2.ensures

-- ---- one value

pub put_item-put_fields-requires : goal.put_item-put_fields-requires
put_item-put_fields-requires t c =
    let same = ap (λ v. item_weight (item_of v)) c.in-Node.is in
    (omega (arith, same, c.decreases), (c.requires, c.fields_at.ensures.ascend))

pub put_item-returns-in_ok-put_fields-in-Node : goal.put_item-returns-in_ok-put_fields-in-Node
put_item-returns-in_ok-put_fields-in-Node t c =
    let told = rw (c.message.ensures, c.in_ok-inner-in-Node.ensures) at (rw c.fields_at.ensures.value at c.in_ok-put_fields-in-Node.ensures) in
    rw c.in-Node.is (on_ok_weaker c.put_closing.result
    (λ h. (
      enclosed c.args.deep c.args.name.now told.0,
      (told.0, told.1, refl),
      three c.args.out.now c.put_opening.new.out c.put_fields.new.out c.put_closing.new.out
          (opening c.args.deep c.args.name.now) told.0 (closing c.args.deep) c.in_ok-put_opening-in-Node.ensures told.2
          h,
    ))
    c.put_closing.ensures)

pub put_item-returns-in-Number : goal.put_item-returns-in-Number
put_item-returns-in-Number t c =
    rw c.in-Number.is (on_ok_weaker c.put_number_line.result (λ h. (scalar_line c.args.deep c.args.name.now h.0, (h.0, h.1, refl), h.2)) c.put_number_line.ensures)

pub put_item-returns-in-Run : goal.put_item-returns-in-Run
put_item-returns-in-Run t c =
    rw c.in-Run.is (on_ok_weaker c.put_run_line.result
    (λ h. (
      scalar_line c.args.deep c.args.name.now (quoted_string c.in-Run.bytes),
      refl,
      h ∙ ap (λ bs. c.args.out.now ++ scalar_line c.args.deep c.args.name.now (quoted_string bs)) c.as_slice.ensures,
    ))
    c.put_run_line.ensures)
