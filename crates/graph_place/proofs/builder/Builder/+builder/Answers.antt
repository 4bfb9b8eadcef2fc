use Rattle.std.proofs.Common.{◌≡◌, ◌+◌, ◌-◌, ◌*◌, ◌^◌, ◌<◌, ℕ, true, false, [], ◌∷◌, ◌++◌, length, get_or, OnOk, refl, sym, ap, subst, ◌∙◌, arith}
use Rattle.std.specs.Global.{Vec}
use Rattle.std.proofs.lemmas.Bool.{true≢false}
use Rattle.std.proofs.lemmas.List.{drop_all}
use Rattle.std.proofs.lemmas.Result.{on_ok_weaker}
use Rattle.mrpc_table.specs.Node.{one}
use Rattle.mrpc_table.specs.Normal.{fields_of, IsItem, kind_at}
use Rattle.mrpc_table.specs.View.{item_of, items_of, pairs_of, content_of}
use Rattle.mrpc_table.specs.Words.{key_kind}
use Rattle.mrpc_table.specs.Weight.{weight, content_weight, item_weight, items_weight, pairs_weight}
use Rattle.mrpc_table.specs.declared.tree.FieldValue.{FieldValue}
use Rattle.mrpc_table.specs.declared.tree.Value.{Value}
use Rattle.graph_form.specs.Roles.{oneof_count, is_member, run_words}
use Rattle.graph_place.specs.Laid.{is_member_at}
use Rattle.graph_place.specs.Size.{item_words, content_words, many_words, pairs_words}
use Rattle.graph_place.specs.declared.builder.Builder.{Builder}
use Rattle.graph_place.proofs.Chain.{RunPut}
use Rattle.graph_place.proofs.Contents.{ElementsPut, EntriesPut, run_words_less, run_words_whole, no_message_in}
use Rattle.graph_place.proofs.Contents.{holds_one, holds_many, slot_optional_put, slot_one_put, slot_many_put}
use Rattle.graph_place.proofs.Contents.{key_given, slot_pairs_put, field_there, field_absent, found_there, found_none}
use Rattle.graph_place.proofs.Contents.{field_holds}
use Rattle.graph_place.proofs.Fields.{fields_ascend, are_fields}
use Rattle.graph_place.proofs.Items.{ItemPut, item_number, item_run, item_node, node_fields, node_oneofs}
use Rattle.graph_place.proofs.Items.{number_words, run_words_is, node_words_is, element_fits, elements_next}
use Rattle.graph_place.proofs.Items.{entry_fits, entries_next, elements_size, elements_room, elements_left}
use Rattle.graph_place.proofs.Items.{elements_free, entries_left, entries_room, entries_free, run_two}
use Rattle.graph_place.proofs.Lists.{ElementsOn, elements_begin, elements_end, EntriesOn, entries_begin, entries_end}
use Rattle.graph_place.proofs.Nodes.{keep_less, node_puts, field_fits, slots_step, cases_first, case_fits, cases_step, case_none, case_some, some_member, one_item}
use Rattle.graph_place.proofs.Parts.{element_weight, entry_weight}
use Rattle.graph_place.proofs.Results.{on_ok_both}
use Rattle.graph_place.proofs.Slots.{SlotsOn, slots_begin, slots_end, CasesOn, cases_end, cases_free}
use Rattle.graph_place.proofs.Widths.{narrow}
use Rattle.graph_place.proofs.builder.Builder.+builder.Goals as goal

pub case-returns-then-member-eq0-clause-free : goal.case-returns-then-member-eq0-clause-free
case-returns-then-member-eq0-clause-free t c =
    let none = found_none c.args.table.now (kind_at (fields_of c.args.table.now c.args.message) c.args.member)
    c.args.member c.args.tree.now (c.requires.member.1.none c.if-member-eq0.true) in
    omega (arith, none, c.put.ensures.free)

pub case-returns-then-member-eq0-clause-puts : goal.case-returns-then-member-eq0-clause-puts
case-returns-then-member-eq0-clause-puts t c =
    case_none c.args.table.now (fields_of c.args.table.now c.args.message) c.args.tree.now c.args.member c.args.place
    c.args.self.now.free c.put.new.self.free c.args.self.now.words.items c.put.new.self.words.items
    c.if-member-eq0.true c.requires.slot c.put.ensures.free
    (c.in_ok-put.ensures.words ∙ ap (λ v. c.args.self.now.words.items ++ (c.args.place, v) ∷ []) c.from.ensures)

pub case-value_of-requires : goal.case-value_of-requires
case-value_of-requires t c =
    fields_ascend c.args.table.now (fields_of c.args.table.now c.args.message) 0 c.args.tree.now c.requires.fields

pub case-item-requires : goal.case-item-requires
case-item-requires t c =
    let found = found_there c.args.table.now (kind_at (fields_of c.args.table.now c.args.message) c.args.member)
    c.args.member c.args.tree.now (one (item_of c.in-Some.value.now)) c.in-Some.ensures.some in
    let kind : item_words c.args.table.now c.kind_of.result (item_of c.in-Some.value.now)
    ≡ item_words c.args.table.now (kind_at (fields_of c.args.table.now c.args.message) c.args.member)
    (item_of c.in-Some.value.now) =
    ap (λ k. item_words c.args.table.now k (item_of c.in-Some.value.now)) c.kind_of.ensures in
    let wide = narrow c.kind_of.result in
    let item = subst (λ k. IsItem c.args.table.now k (item_of c.in-Some.value.now)) (sym c.kind_of.ensures)
    (one_item c.args.table.now (fields_of c.args.table.now c.args.message) c.args.tree.now c.args.member
    (item_of c.in-Some.value.now) c.requires.fields c.in-Some.ensures.some) in (
      omega (arith, c.in-Some.ensures.less, c.decreases),
      (
        c.requires.valid,
        (
          item,
          (
            omega arith,
            (
              omega (arith, wide, c.requires.slot, c.put.ensures.free),
              omega (arith, found, kind, c.requires.room, c.put.ensures.free),
            ),
          ),
        ),
      ),
    )

pub case-returns-in-Some-clause-free : goal.case-returns-in-Some-clause-free
case-returns-in-Some-clause-free t c =
    let found = found_there c.args.table.now (kind_at (fields_of c.args.table.now c.args.message) c.args.member)
    c.args.member c.args.tree.now (one (item_of c.in-Some.value.now)) c.in-Some.ensures.some in
    let kind : item_words c.args.table.now c.kind_of.result (item_of c.in-Some.value.now)
    ≡ item_words c.args.table.now (kind_at (fields_of c.args.table.now c.args.message) c.args.member)
    (item_of c.in-Some.value.now) =
    ap (λ k. item_words c.args.table.now k (item_of c.in-Some.value.now)) c.kind_of.ensures in
    on_ok_weaker c.item.result (λ size. omega (arith, size, found, kind, c.put.ensures.free)) c.item.ensures.free

pub case-returns-in-Some-clause-puts : goal.case-returns-in-Some-clause-puts
case-returns-in-Some-clause-puts t c =
    let there = subst
    (λ k. OnOk c.item.result (ItemPut c.args.table.now k (item_of c.in-Some.value.now)
    (c.args.place + 1) c.put.new.self.free c.put.new.self.words.items c.item.new.self.free
    c.item.new.self.words.items)) c.kind_of.ensures c.item.ensures.puts in
    on_ok_both c.item.result
    (λ size puts. case_some c.args.table.now (fields_of c.args.table.now c.args.message) c.args.tree.now c.args.member
    c.args.place c.args.self.now.free c.put.new.self.free c.item.new.self.free (item_of c.in-Some.value.now)
    c.args.self.now.words.items c.put.new.self.words.items c.item.new.self.words.items
    c.if-member-eq0.false (omega (arith, c.ranges.member)) c.in-Some.ensures.some c.requires.slot c.put.ensures.free
    (omega (arith, size, c.put.ensures.free))
    (c.in_ok-put.ensures.words ∙ ap (λ v. c.args.self.now.words.items ++ (c.args.place, v) ∷ []) c.from.ensures)
    puts)
    c.item.ensures.free there

pub case-returns-in-None-clause-free : goal.case-returns-in-None-clause-free
case-returns-in-None-clause-free t c =
    absurd (some_member c.args.table.now (fields_of c.args.table.now c.args.message) c.args.tree.now
    c.requires.member.0 c.args.member c.requires.fields c.requires.member.1 c.if-member-eq0.false
    c.in-None.ensures.none)

pub case-returns-in-None-clause-puts : goal.case-returns-in-None-clause-puts
case-returns-in-None-clause-puts t c =
    absurd (some_member c.args.table.now (fields_of c.args.table.now c.args.message) c.args.tree.now
    c.requires.member.0 c.args.member c.requires.fields c.requires.member.1 c.if-member-eq0.false
    c.in-None.ensures.none)

pub cases-loop-oneof-init : goal.cases-loop-oneof-init
cases-loop-oneof-init t c =
    cases_first c.args.table.now c.args.message c.args.tree.now c.args.at c.args.self.now.free c.args.self.now.words.items c.requires.valid c.requires.fields

pub cases-case-requires : goal.cases-case-requires
cases-case-requires t c =
    let fits = case_fits c.args.table.now (fields_of c.args.table.now c.args.message) c.args.tree.now
    (oneof_count c.args.table.now c.args.message) c.args.at c.args.self.now.free c.args.self.now.words.items
    c.loop-oneof.oneof c.loop-oneof.place c.loop-oneof.self.free
    (get_or c.members_of-members.result c.loop-oneof.oneof 0) c.loop-oneof.self.words.items c.requires.fields
    c.requires.oneofs c.requires.from_one c.requires.slots c.requires.room
    (omega (arith, c.loop-oneof-test.true, c.oneof_count-oneof-end.ensures.number)) (c.members_of-members.ensures c.loop-oneof.oneof) c.loop-oneof.invariant in
    (omega (arith, c.decreases), (c.requires.valid, (c.requires.fields, (fits.known, (fits.from, (fits.slot, fits.room))))))

pub cases-overflow_add-place : goal.cases-overflow_add-place
cases-overflow_add-place t c =
    let fits = case_fits c.args.table.now (fields_of c.args.table.now c.args.message) c.args.tree.now
    (oneof_count c.args.table.now c.args.message) c.args.at c.args.self.now.free c.args.self.now.words.items
    c.loop-oneof.oneof c.loop-oneof.place c.loop-oneof.self.free
    (get_or c.members_of-members.result c.loop-oneof.oneof 0) c.loop-oneof.self.words.items c.requires.fields
    c.requires.oneofs c.requires.from_one c.requires.slots c.requires.room
    (omega (arith, c.loop-oneof-test.true, c.oneof_count-oneof-end.ensures.number)) (c.members_of-members.ensures c.loop-oneof.oneof) c.loop-oneof.invariant in
    omega (arith, fits.slot, fits.room)

pub cases-loop-oneof-preserved : goal.cases-loop-oneof-preserved
cases-loop-oneof-preserved t c =
    cases_step c.args.table.now (fields_of c.args.table.now c.args.message) c.args.tree.now
    (oneof_count c.args.table.now c.args.message) c.args.at c.args.self.now.free c.args.self.now.words.items
    c.loop-oneof.oneof c.loop-oneof.place (c.loop-oneof.place + 3) c.loop-oneof.self.free c.case.new.self.free
    (get_or c.members_of-members.result c.loop-oneof.oneof 0) c.loop-oneof.self.words.items
    c.case.new.self.words.items
    c.requires.fields c.requires.oneofs c.requires.slots
    (omega (arith, c.loop-oneof-test.true, c.oneof_count-oneof-end.ensures.number))
    (c.members_of-members.ensures c.loop-oneof.oneof) refl c.loop-oneof.invariant c.in_ok-case.ensures.free
    c.in_ok-case.ensures.puts

pub cases-returns-clause-free : goal.cases-returns-clause-free
cases-returns-clause-free t c =
    let none : oneof_count c.args.table.now c.args.message - c.loop-oneof.oneof ≡ 0 = omega (arith, c.loop-oneof-test.false, c.oneof_count-oneof-end.ensures.number) in
    let last = subst (λ n. CasesOn c.args.table.now (fields_of c.args.table.now c.args.message) c.args.tree.now
    (oneof_count c.args.table.now c.args.message) c.args.at c.args.self.now.free c.args.self.now.words.items
    c.loop-oneof.oneof n c.loop-oneof.place c.loop-oneof.self.free c.loop-oneof.self.words.items) none
    c.loop-oneof.invariant in
    cases_free c.args.table.now (fields_of c.args.table.now c.args.message) c.args.tree.now
    (oneof_count c.args.table.now c.args.message) c.args.at c.args.self.now.free c.args.self.now.words.items
    c.loop-oneof.oneof c.loop-oneof.place c.loop-oneof.self.free c.loop-oneof.self.words.items last

pub cases-returns-clause-puts : goal.cases-returns-clause-puts
cases-returns-clause-puts t c =
    let none : oneof_count c.args.table.now c.args.message - c.loop-oneof.oneof ≡ 0 = omega (arith, c.loop-oneof-test.false, c.oneof_count-oneof-end.ensures.number) in
    let last = subst (λ n. CasesOn c.args.table.now (fields_of c.args.table.now c.args.message) c.args.tree.now
    (oneof_count c.args.table.now c.args.message) c.args.at c.args.self.now.free c.args.self.now.words.items
    c.loop-oneof.oneof n c.loop-oneof.place c.loop-oneof.self.free c.loop-oneof.self.words.items) none
    c.loop-oneof.invariant in
    cases_end c.args.table.now (fields_of c.args.table.now c.args.message) c.args.tree.now
    (oneof_count c.args.table.now c.args.message) c.args.at c.args.self.now.free c.args.self.now.words.items
    c.loop-oneof.oneof c.loop-oneof.place c.loop-oneof.self.free c.loop-oneof.self.words.items last

pub elements-overflow_mul-len : goal.elements-overflow_mul-len
elements-overflow_mul-len t c =
    let room = elements_room c.args.table.now c.args.kind c.args.values.now.items c.args.self.now.free c.len.result
    c.element_words-width.result (omega (arith, c.len.ensures)) c.element_words-width.ensures.value
    c.requires.room in omega (arith, room)

pub elements-take-at-requires : goal.elements-take-at-requires
elements-take-at-requires t c =
    elements_room c.args.table.now c.args.kind c.args.values.now.items c.args.self.now.free c.len.result
    c.element_words-width.result (omega (arith, c.len.ensures)) c.element_words-width.ensures.value
    c.requires.room

pub elements-loop-value-init : goal.elements-loop-value-init
elements-loop-value-init t c =
    let size = elements_size c.args.kind c.args.values.now.items c.args.self.now.free c.take-at.result
    c.take-at.new.self.free c.put.new.self.free c.len.result c.element_words-width.result c.take-at.ensures.first
    c.take-at.ensures.free c.put.ensures.free (omega (arith, c.len.ensures)) c.element_words-width.ensures.value
    in
    subst (λ xs. ElementsOn c.args.table.now c.args.kind c.args.values.now.items c.take-at.result c.put.new.self.free
    c.put.new.self.words.items xs c.take-at.result c.put.new.self.free c.put.new.self.words.items)
    (sym c.deref-value-items.ensures.value)
    (elements_begin c.args.table.now c.args.kind c.args.values.now.items c.take-at.result c.put.new.self.free
    c.put.new.self.words.items c.requires.items size)

pub elements-item-requires : goal.elements-item-requires
elements-item-requires t c =
    let size = elements_size c.args.kind c.args.values.now.items c.args.self.now.free c.take-at.result
    c.take-at.new.self.free c.put.new.self.free c.len.result c.element_words-width.result c.take-at.ensures.first
    c.take-at.ensures.free c.put.ensures.free (omega (arith, c.len.ensures)) c.element_words-width.ensures.value
    in
    let left = elements_left c.args.table.now c.args.kind c.args.values.now.items c.args.self.now.free c.take-at.result c.put.new.self.free c.take-at.ensures.first size c.requires.room in
    let fits = element_fits c.args.table.now c.args.kind c.args.values.now.items c.take-at.result c.put.new.self.free
    c.put.new.self.words.items c.deref-value-items.result.now c.loop-value.value-index c.value-item.result
    c.loop-value.next c.loop-value.self.free c.loop-value.self.words.items
    (omega (arith, c.take-at.ensures.first, c.requires.slot)) left c.loop-value-test.true c.value-item.is
    c.loop-value.invariant in
    let below = element_weight c.deref-value-items.result.now c.loop-value.value-index c.value-item.result c.loop-value-test.true c.value-item.is in
    let items = ap (λ xs. items_weight (items_of xs)) c.deref-value-items.ensures.value in
    (omega (arith, below, items, c.decreases), (c.requires.valid, (fits.item, (fits.from, (fits.slot, fits.room)))))

pub elements-overflow_add-next : goal.elements-overflow_add-next
elements-overflow_add-next t c =
    let size = elements_size c.args.kind c.args.values.now.items c.args.self.now.free c.take-at.result
    c.take-at.new.self.free c.put.new.self.free c.len.result c.element_words-width.result c.take-at.ensures.first
    c.take-at.ensures.free c.put.ensures.free (omega (arith, c.len.ensures)) c.element_words-width.ensures.value
    in
    let left = elements_left c.args.table.now c.args.kind c.args.values.now.items c.args.self.now.free c.take-at.result c.put.new.self.free c.take-at.ensures.first size c.requires.room in
    let fits = element_fits c.args.table.now c.args.kind c.args.values.now.items c.take-at.result c.put.new.self.free
    c.put.new.self.words.items c.deref-value-items.result.now c.loop-value.value-index c.value-item.result
    c.loop-value.next c.loop-value.self.free c.loop-value.self.words.items
    (omega (arith, c.take-at.ensures.first, c.requires.slot)) left c.loop-value-test.true c.value-item.is
    c.loop-value.invariant in
    omega (arith, fits.slot, fits.room, c.element_words-width.ensures.value)

pub elements-loop-value-preserved : goal.elements-loop-value-preserved
elements-loop-value-preserved t c =
    elements_next c.args.table.now c.args.kind c.args.values.now.items c.take-at.result c.put.new.self.free
    c.put.new.self.words.items c.deref-value-items.result.now c.loop-value.value-index c.value-item.result
    c.loop-value.next (c.loop-value.next + c.element_words-width.result) c.loop-value.self.free
    c.item.new.self.free c.loop-value.self.words.items c.item.new.self.words.items
    c.loop-value-test.true c.value-item.is c.loop-value.invariant c.in_ok-item.ensures.free (ap (λ w. c.loop-value.next + w) c.element_words-width.ensures.value) c.in_ok-item.ensures.puts

pub elements-returns-clause-free : goal.elements-returns-clause-free
elements-returns-clause-free t c =
    let size = elements_size c.args.kind c.args.values.now.items c.args.self.now.free c.take-at.result
    c.take-at.new.self.free c.put.new.self.free c.len.result c.element_words-width.result c.take-at.ensures.first
    c.take-at.ensures.free c.put.ensures.free (omega (arith, c.len.ensures)) c.element_words-width.ensures.value
    in
    let last = subst (λ xs. ElementsOn c.args.table.now c.args.kind c.args.values.now.items c.take-at.result
    c.put.new.self.free c.put.new.self.words.items xs c.loop-value.next c.loop-value.self.free
    c.loop-value.self.words.items)
    (drop_all c.loop-value.value-index c.deref-value-items.result.now c.loop-value-test.false)
    c.loop-value.invariant in
    elements_free c.args.table.now c.args.kind c.args.values.now.items c.args.self.now.free c.take-at.result
    c.put.new.self.free c.loop-value.self.free c.put.new.self.words.items c.loop-value.self.words.items
    c.loop-value.next c.take-at.ensures.first size last

pub elements-returns-clause-puts : goal.elements-returns-clause-puts
elements-returns-clause-puts t c =
    let size = elements_size c.args.kind c.args.values.now.items c.args.self.now.free c.take-at.result
    c.take-at.new.self.free c.put.new.self.free c.len.result c.element_words-width.result c.take-at.ensures.first
    c.take-at.ensures.free c.put.ensures.free (omega (arith, c.len.ensures)) c.element_words-width.ensures.value
    in
    let last = subst (λ xs. ElementsOn c.args.table.now c.args.kind c.args.values.now.items c.take-at.result
    c.put.new.self.free c.put.new.self.words.items xs c.loop-value.next c.loop-value.self.free
    c.loop-value.self.words.items)
    (drop_all c.loop-value.value-index c.deref-value-items.result.now c.loop-value-test.false)
    c.loop-value.invariant in
    subst (λ a. ElementsPut c.args.table.now c.args.kind c.args.values.now.items c.args.place a
    c.args.self.now.words.items c.loop-value.self.free c.loop-value.self.words.items) c.take-at.ensures.first
    (elements_end c.args.table.now c.args.kind c.args.values.now.items c.args.place c.take-at.result
    c.put.new.self.free c.loop-value.self.free c.args.self.now.words.items c.put.new.self.words.items
    c.loop-value.self.words.items c.loop-value.next last size
    (omega (arith, c.take-at.ensures.first, c.requires.room)) c.requires.from_one
    (omega (arith, c.take-at.ensures.first, c.requires.slot))
    (c.in_ok-put.ensures.words ∙ ap (λ (x : Vec (ℕ × ℕ)). x.items ++ (c.args.place, c.take-at.result) ∷ [])
    c.take-at.ensures.words))

pub entries-overflow_mul-len : goal.entries-overflow_mul-len
entries-overflow_mul-len t c =
    let room = entries_room c.args.table.now c.args.kind c.args.entries.now.items c.args.self.now.free c.len.result (omega (arith, c.len.ensures)) c.requires.room in omega (arith, room)

pub entries-take-at-requires : goal.entries-take-at-requires
entries-take-at-requires t c =
    entries_room c.args.table.now c.args.kind c.args.entries.now.items c.args.self.now.free c.len.result (omega (arith, c.len.ensures)) c.requires.room

pub entries-loop-entry-init : goal.entries-loop-entry-init
entries-loop-entry-init t c =
    let size : c.take-at.result + 4 * length c.args.entries.now.items ≡ c.put.new.self.free =
    omega (arith, c.take-at.ensures.first, c.take-at.ensures.free, c.put.ensures.free, c.len.ensures) in
    subst (λ xs. EntriesOn c.args.table.now c.args.key c.args.kind c.args.entries.now.items c.take-at.result
    c.put.new.self.free c.put.new.self.words.items xs c.take-at.result c.put.new.self.free
    c.put.new.self.words.items) (sym c.deref-entry-items.ensures.value)
    (entries_begin c.args.table.now c.args.key c.args.kind c.args.entries.now.items c.take-at.result
    c.put.new.self.free c.put.new.self.words.items c.requires.pairs size)

pub entries-item-requires : goal.entries-item-requires
entries-item-requires t c =
    let size : c.take-at.result + 4 * length c.args.entries.now.items ≡ c.put.new.self.free =
    omega (arith, c.take-at.ensures.first, c.take-at.ensures.free, c.put.ensures.free, c.len.ensures) in
    let left = entries_left c.args.table.now c.args.kind c.args.entries.now.items c.args.self.now.free c.take-at.result c.put.new.self.free c.take-at.ensures.first size c.requires.room in
    let fits = entry_fits c.args.table.now c.args.key c.args.kind c.args.entries.now.items c.take-at.result
    c.put.new.self.free c.put.new.self.words.items c.deref-entry-items.result.now c.loop-entry.entry-index
    c.entry-item.result c.loop-entry.next c.loop-entry.self.free c.loop-entry.self.words.items c.requires.key
    (omega (arith, c.take-at.ensures.first, c.requires.slot)) left c.loop-entry-test.true c.entry-item.is
    c.loop-entry.invariant in
    let below = entry_weight c.deref-entry-items.result.now c.loop-entry.entry-index c.entry-item.result c.loop-entry-test.true c.entry-item.is in
    let items = ap (λ xs. pairs_weight (pairs_of xs)) c.deref-entry-items.ensures.value in
    let wide = narrow c.args.key in
    (omega (arith, below, items, c.decreases), (c.requires.valid, (fits.first, (fits.from, (omega (arith, fits.slot, wide), omega (arith, fits.room))))))

pub entries-overflow_add-next : goal.entries-overflow_add-next
entries-overflow_add-next t c =
    let size : c.take-at.result + 4 * length c.args.entries.now.items ≡ c.put.new.self.free =
    omega (arith, c.take-at.ensures.first, c.take-at.ensures.free, c.put.ensures.free, c.len.ensures) in
    let left = entries_left c.args.table.now c.args.kind c.args.entries.now.items c.args.self.now.free c.take-at.result c.put.new.self.free c.take-at.ensures.first size c.requires.room in
    let fits = entry_fits c.args.table.now c.args.key c.args.kind c.args.entries.now.items c.take-at.result
    c.put.new.self.free c.put.new.self.words.items c.deref-entry-items.result.now c.loop-entry.entry-index
    c.entry-item.result c.loop-entry.next c.loop-entry.self.free c.loop-entry.self.words.items c.requires.key
    (omega (arith, c.take-at.ensures.first, c.requires.slot)) left c.loop-entry-test.true c.entry-item.is
    c.loop-entry.invariant in
    omega (arith, fits.slot, fits.room)

pub entries-item-requires-in-loop-entry : goal.entries-item-requires-in-loop-entry
entries-item-requires-in-loop-entry t c =
    let size : c.take-at.result + 4 * length c.args.entries.now.items ≡ c.put.new.self.free =
    omega (arith, c.take-at.ensures.first, c.take-at.ensures.free, c.put.ensures.free, c.len.ensures) in
    let left = entries_left c.args.table.now c.args.kind c.args.entries.now.items c.args.self.now.free c.take-at.result c.put.new.self.free c.take-at.ensures.first size c.requires.room in
    let fits = entry_fits c.args.table.now c.args.key c.args.kind c.args.entries.now.items c.take-at.result
    c.put.new.self.free c.put.new.self.words.items c.deref-entry-items.result.now c.loop-entry.entry-index
    c.entry-item.result c.loop-entry.next c.loop-entry.self.free c.loop-entry.self.words.items c.requires.key
    (omega (arith, c.take-at.ensures.first, c.requires.slot)) left c.loop-entry-test.true c.entry-item.is
    c.loop-entry.invariant in
    let below = entry_weight c.deref-entry-items.result.now c.loop-entry.entry-index c.entry-item.result c.loop-entry-test.true c.entry-item.is in
    let items = ap (λ xs. pairs_weight (pairs_of xs)) c.deref-entry-items.ensures.value in
    let wide = narrow c.args.kind in (
      omega (arith, below, items, c.decreases),
      (
        c.requires.valid,
        (
          fits.value,
          (
            omega (arith, fits.from),
            (
              omega (arith, fits.slot, wide, c.in_ok-item.ensures.free),
              omega (arith, fits.room, c.in_ok-item.ensures.free),
            ),
          ),
        ),
      ),
    )

pub entries-overflow_add-next-in-loop-entry : goal.entries-overflow_add-next-in-loop-entry
entries-overflow_add-next-in-loop-entry t c =
    let size : c.take-at.result + 4 * length c.args.entries.now.items ≡ c.put.new.self.free =
    omega (arith, c.take-at.ensures.first, c.take-at.ensures.free, c.put.ensures.free, c.len.ensures) in
    let left = entries_left c.args.table.now c.args.kind c.args.entries.now.items c.args.self.now.free c.take-at.result c.put.new.self.free c.take-at.ensures.first size c.requires.room in
    let fits = entry_fits c.args.table.now c.args.key c.args.kind c.args.entries.now.items c.take-at.result
    c.put.new.self.free c.put.new.self.words.items c.deref-entry-items.result.now c.loop-entry.entry-index
    c.entry-item.result c.loop-entry.next c.loop-entry.self.free c.loop-entry.self.words.items c.requires.key
    (omega (arith, c.take-at.ensures.first, c.requires.slot)) left c.loop-entry-test.true c.entry-item.is
    c.loop-entry.invariant in
    omega (arith, fits.slot, fits.room)

pub entries-loop-entry-preserved : goal.entries-loop-entry-preserved
entries-loop-entry-preserved t c =
    entries_next c.args.table.now c.args.key c.args.kind c.args.entries.now.items c.take-at.result c.put.new.self.free
    c.put.new.self.words.items c.deref-entry-items.result.now c.loop-entry.entry-index c.entry-item.result
    c.loop-entry.next (c.loop-entry.next + 4) c.loop-entry.self.free c.item.new.self.free
    c.item-in-loop-entry.new.self.free c.loop-entry.self.words.items c.item.new.self.words.items
    c.item-in-loop-entry.new.self.words.items
    c.requires.key c.loop-entry-test.true c.entry-item.is c.loop-entry.invariant c.in_ok-item.ensures.free
    c.in_ok-item-2.ensures.free refl c.in_ok-item.ensures.puts c.in_ok-item-2.ensures.puts

pub entries-returns-clause-free : goal.entries-returns-clause-free
entries-returns-clause-free t c =
    let size : c.take-at.result + 4 * length c.args.entries.now.items ≡ c.put.new.self.free =
    omega (arith, c.take-at.ensures.first, c.take-at.ensures.free, c.put.ensures.free, c.len.ensures) in
    let last = subst (λ xs. EntriesOn c.args.table.now c.args.key c.args.kind c.args.entries.now.items
    c.take-at.result c.put.new.self.free c.put.new.self.words.items xs c.loop-entry.next c.loop-entry.self.free
    c.loop-entry.self.words.items)
    (drop_all c.loop-entry.entry-index c.deref-entry-items.result.now c.loop-entry-test.false)
    c.loop-entry.invariant in
    entries_free c.args.table.now c.args.key c.args.kind c.args.entries.now.items c.args.self.now.free
    c.take-at.result c.put.new.self.free c.loop-entry.self.free c.put.new.self.words.items
    c.loop-entry.self.words.items c.loop-entry.next c.take-at.ensures.first size last

pub entries-returns-clause-puts : goal.entries-returns-clause-puts
entries-returns-clause-puts t c =
    let size : c.take-at.result + 4 * length c.args.entries.now.items ≡ c.put.new.self.free =
    omega (arith, c.take-at.ensures.first, c.take-at.ensures.free, c.put.ensures.free, c.len.ensures) in
    let last = subst (λ xs. EntriesOn c.args.table.now c.args.key c.args.kind c.args.entries.now.items
    c.take-at.result c.put.new.self.free c.put.new.self.words.items xs c.loop-entry.next c.loop-entry.self.free
    c.loop-entry.self.words.items)
    (drop_all c.loop-entry.entry-index c.deref-entry-items.result.now c.loop-entry-test.false)
    c.loop-entry.invariant in
    subst (λ a. EntriesPut c.args.table.now c.args.key c.args.kind c.args.entries.now.items c.args.place a
    c.args.self.now.words.items c.loop-entry.self.free c.loop-entry.self.words.items) c.take-at.ensures.first
    (entries_end c.args.table.now c.args.key c.args.kind c.args.entries.now.items c.args.place c.take-at.result
    c.put.new.self.free c.loop-entry.self.free c.args.self.now.words.items c.put.new.self.words.items
    c.loop-entry.self.words.items c.loop-entry.next last size
    (omega (arith, c.take-at.ensures.first, c.requires.room)) c.requires.from_one
    (omega (arith, c.take-at.ensures.first, c.requires.slot))
    (c.in_ok-put.ensures.words ∙ ap (λ (x : Vec (ℕ × ℕ)). x.items ++ (c.args.place, c.take-at.result) ∷ [])
    c.take-at.ensures.words))

pub field-returns-then-is_member-clause-member : goal.field-returns-then-is_member-clause-member
field-returns-then-is_member-clause-member t c =
    λ _. (refl, refl)

pub field-returns-then-is_member-clause-place : goal.field-returns-then-is_member-clause-place
field-returns-then-is_member-clause-place t c =
    let own : is_member c.args.field.now.label ≡ true = sym c.is_member.ensures ∙ c.if-is_member.true in λ fails. absurd (true≢false (sym own ∙ fails))

pub field-returns-then-is_member-clause-free : goal.field-returns-then-is_member-clause-free
field-returns-then-is_member-clause-free t c =
    let own : is_member c.args.field.now.label ≡ true = sym c.is_member.ensures ∙ c.if-is_member.true in λ fails. absurd (true≢false (sym own ∙ fails))

pub field-returns-then-is_member-clause-puts : goal.field-returns-then-is_member-clause-puts
field-returns-then-is_member-clause-puts t c =
    let own : is_member c.args.field.now.label ≡ true = sym c.is_member.ensures ∙ c.if-is_member.true in λ fails. absurd (true≢false (sym own ∙ fails))

pub field-content-requires : goal.field-content-requires
field-content-requires t c =
    fields_ascend c.args.table.now c.requires.fields.0 0 c.args.tree.now c.requires.fields.1

pub field-slot-requires : goal.field-slot-requires
field-slot-requires t c =
    let own : is_member c.args.field.now.label ≡ false = sym c.is_member.ensures ∙ c.if-is_member.false in
    let found = found_there c.args.table.now c.args.field.now.kind c.args.field.now.number c.args.tree.now (content_of c.in-Some.content.now) (sym c.in-Some.ensures.content) in
    let holds = field_holds c.args.table.now c.requires.fields.0 c.requires.field.0 c.args.field.now c.args.tree.now
    (content_of c.in-Some.content.now) c.requires.fields.1 c.requires.fields.2 c.requires.field.1
    (sym c.in-Some.ensures.content) in
    let room = c.requires.room own in
    (omega (arith, c.in-Some.ensures.less, c.decreases), (c.requires.valid, (own, (holds, (c.requires.from_one, (c.requires.slot own, omega (arith, found, room)))))))

pub field-returns-in_ok-slot-in-Some-clause-member : goal.field-returns-in_ok-slot-in-Some-clause-member
field-returns-in_ok-slot-in-Some-clause-member t c =
    let own : is_member c.args.field.now.label ≡ false = sym c.is_member.ensures ∙ c.if-is_member.false in λ holds. absurd (true≢false (sym holds ∙ own))

pub field-returns-in_ok-slot-in-Some-clause-place : goal.field-returns-in_ok-slot-in-Some-clause-place
field-returns-in_ok-slot-in-Some-clause-place t c =
    λ _. refl

pub field-returns-in_ok-slot-in-Some-clause-free : goal.field-returns-in_ok-slot-in-Some-clause-free
field-returns-in_ok-slot-in-Some-clause-free t c =
    let found = found_there c.args.table.now c.args.field.now.kind c.args.field.now.number c.args.tree.now
    (content_of c.in-Some.content.now) (sym c.in-Some.ensures.content) in
    λ _. omega (arith, found, c.in_ok-slot-in-Some.ensures.free)

pub field-returns-in_ok-slot-in-Some-clause-puts : goal.field-returns-in_ok-slot-in-Some-clause-puts
field-returns-in_ok-slot-in-Some-clause-puts t c =
    λ _. field_there c.args.table.now c.args.field.now c.args.tree.now (content_of c.in-Some.content.now) c.args.place
    c.args.self.now.free c.slot.new.self.free c.args.self.now.words.items c.slot.new.self.words.items
    (sym c.in-Some.ensures.content) c.in_ok-slot-in-Some.ensures.puts

pub field-returns-in_ok-put-in-None-clause-member : goal.field-returns-in_ok-put-in-None-clause-member
field-returns-in_ok-put-in-None-clause-member t c =
    let own : is_member c.args.field.now.label ≡ false = sym c.is_member.ensures ∙ c.if-is_member.false in λ holds. absurd (true≢false (sym holds ∙ own))

pub field-returns-in_ok-put-in-None-clause-place : goal.field-returns-in_ok-put-in-None-clause-place
field-returns-in_ok-put-in-None-clause-place t c =
    λ _. refl

pub field-returns-in_ok-put-in-None-clause-free : goal.field-returns-in_ok-put-in-None-clause-free
field-returns-in_ok-put-in-None-clause-free t c =
    let none = found_none c.args.table.now c.args.field.now.kind c.args.field.now.number c.args.tree.now (sym c.in-None.ensures.content) in λ _. omega (arith, none, c.put.ensures.free)

pub field-returns-in_ok-put-in-None-clause-puts : goal.field-returns-in_ok-put-in-None-clause-puts
field-returns-in_ok-put-in-None-clause-puts t c =
    λ own. field_absent c.args.table.now c.args.field.now c.args.tree.now c.args.place c.args.self.now.free
    c.put.new.self.free c.args.self.now.words.items c.put.new.self.words.items own (sym c.in-None.ensures.content)
    (c.requires.slot own) c.put.ensures.free c.in_ok-put-in-None.ensures.words

pub item-returns-in-Number-clause-free : goal.item-returns-in-Number-clause-free
item-returns-in-Number-clause-free t c =
    let none = number_words c.args.table.now c.args.kind c.args.value.now c.in-Number.number c.in-Number.is in
    on_ok_weaker c.put.result (λ _. omega (arith, none, c.put.ensures.free)) c.put.ensures.words

pub item-returns-in-Number-clause-puts : goal.item-returns-in-Number-clause-puts
item-returns-in-Number-clause-puts t c =
    on_ok_weaker c.put.result (λ words. item_number c.args.table.now c.args.kind c.args.value.now c.in-Number.number
    c.args.place c.args.self.now.free c.put.new.self.free c.args.self.now.words.items c.put.new.self.words.items
    c.in-Number.is c.requires.item c.requires.slot c.put.ensures.free words) c.put.ensures.words

pub item-overflow_add-place : goal.item-overflow_add-place
item-overflow_add-place t c =
    let two = run_two c.args.table.now c.args.kind c.args.value.now c.in-Run.bytes c.in-Run.is c.requires.item in omega (arith, two, c.requires.slot, c.requires.room)

pub item-run-requires-clause-from_one : goal.item-run-requires-clause-from_one
item-run-requires-clause-from_one t c =
    omega arith

pub item-run-requires-clause-slot : goal.item-run-requires-clause-slot
item-run-requires-clause-slot t c =
    let two = run_two c.args.table.now c.args.kind c.args.value.now c.in-Run.bytes c.in-Run.is c.requires.item in omega (arith, two, c.requires.slot, c.put-in-Run.ensures.free)

pub item-run-requires-clause-room : goal.item-run-requires-clause-room
item-run-requires-clause-room t c =
    let whole = run_words_is c.args.table.now c.args.kind c.args.value.now c.in-Run.bytes c.in-Run.is in
    subst (λ xs. c.put-in-Run.new.self.free + run_words (length xs) < 2 ^ 64) (sym c.as_slice.ensures)
    (omega (arith, whole, c.requires.room, c.put-in-Run.ensures.free))

pub item-returns-in_ok-put-in-Run-clause-free : goal.item-returns-in_ok-put-in-Run-clause-free
item-returns-in_ok-put-in-Run-clause-free t c =
    let whole = run_words_is c.args.table.now c.args.kind c.args.value.now c.in-Run.bytes c.in-Run.is in
    let sizes = subst (λ xs. OnOk c.run.result (c.run.new.self.free ≡ c.put-in-Run.new.self.free + run_words (length xs))) c.as_slice.ensures c.run.ensures.free in
    on_ok_weaker c.run.result (λ size. omega (arith, size, whole, c.put-in-Run.ensures.free)) sizes

pub item-returns-in_ok-put-in-Run-clause-puts : goal.item-returns-in_ok-put-in-Run-clause-puts
item-returns-in_ok-put-in-Run-clause-puts t c =
    let sizes = subst (λ xs. OnOk c.run.result (c.run.new.self.free ≡ c.put-in-Run.new.self.free + run_words (length xs))) c.as_slice.ensures c.run.ensures.free in
    let there = subst
    (λ xs. OnOk c.run.result
    (RunPut xs (c.args.place + 1) c.put-in-Run.new.self.free c.put-in-Run.new.self.words.items c.run.new.self.free
    c.run.new.self.words.items)) c.as_slice.ensures c.run.ensures.puts in
    on_ok_both c.run.result
    (λ size puts. item_run c.args.table.now c.args.kind c.args.value.now c.in-Run.bytes c.args.place
    c.args.self.now.free c.put-in-Run.new.self.free c.run.new.self.free c.args.self.now.words.items
    c.put-in-Run.new.self.words.items c.run.new.self.words.items c.in-Run.is c.requires.item
    (omega (arith, c.len.ensures, c.len.type_inv)) c.requires.from_one c.requires.slot c.put-in-Run.ensures.free
    size
    (c.in_ok-put-in-Run.ensures.words ∙ ap (λ n. c.args.self.now.words.items ++ (c.args.place, n) ∷ []) c.len.ensures) puts)
    sizes there

pub item-node-requires : goal.item-node-requires
item-node-requires t c =
    let whole = node_words_is c.args.table.now c.args.kind c.args.value.now c.in-Node.tree c.message.result c.in-Node.is c.message.ensures in
    let weighs : item_weight (item_of c.args.value.now) ≡ 1 + weight c.in-Node.tree = ap (λ (x : Value). item_weight (item_of x)) c.in-Node.is in (
      omega (arith, weighs, c.decreases),
      (
        c.requires.valid,
        (
          node_fields c.args.table.now c.args.kind c.args.value.now c.in-Node.tree c.message.result c.in-Node.is c.requires.item c.message.ensures,
          (
            node_oneofs c.args.table.now c.args.kind c.args.value.now c.in-Node.tree c.message.result c.in-Node.is c.requires.item c.message.ensures,
            (omega (arith, c.requires.from_one, c.requires.slot, c.put-in-Node.ensures.free), omega (arith, whole, c.requires.room, c.put-in-Node.ensures.free)),
          ),
        ),
      ),
    )

pub item-returns-in_ok-put-in-Node-clause-free : goal.item-returns-in_ok-put-in-Node-clause-free
item-returns-in_ok-put-in-Node-clause-free t c =
    let whole = node_words_is c.args.table.now c.args.kind c.args.value.now c.in-Node.tree c.message.result c.in-Node.is c.message.ensures in
    on_ok_weaker c.node.result (λ size. omega (arith, size, whole, c.put-in-Node.ensures.free)) c.node.ensures.free

pub item-returns-in_ok-put-in-Node-clause-puts : goal.item-returns-in_ok-put-in-Node-clause-puts
item-returns-in_ok-put-in-Node-clause-puts t c =
    on_ok_both c.node.result
    (λ size puts. item_node c.args.table.now c.args.kind c.args.value.now c.in-Node.tree c.message.result c.args.place
    c.args.self.now.free c.put-in-Node.new.self.free c.node.new.self.free c.args.self.now.words.items
    c.put-in-Node.new.self.words.items c.node.new.self.words.items c.in-Node.is c.requires.item c.message.ensures
    c.requires.from_one c.requires.slot (omega (arith, c.requires.room)) c.put-in-Node.ensures.free size
    c.in_ok-put-in-Node.ensures.words puts)
    c.node.ensures.free c.node.ensures.puts

pub node-size_words-requires : goal.node-size_words-requires
node-size_words-requires t c =
    c.requires.valid

pub node-take-at-requires : goal.node-take-at-requires
node-take-at-requires t c =
    omega (arith, c.size_words.ensures, c.requires.room)

pub node-slots-requires : goal.node-slots-requires
node-slots-requires t c = (
  omega (arith, c.decreases),
  (
    c.requires.valid,
    (
      c.requires.fields,
      (
        omega (arith, c.take-at.ensures.first, c.requires.from_one),
        (
          omega (arith, c.take-at.ensures.first, c.take-at.ensures.free, c.size_words.ensures),
          omega (arith, c.take-at.ensures.free, c.size_words.ensures, c.requires.room),
        ),
      ),
    ),
  ),
)

pub node-cases-requires : goal.node-cases-requires
node-cases-requires t c =
    let less = keep_less c.args.table.now (fields_of c.args.table.now c.args.message) (is_member_at (fields_of c.args.table.now c.args.message)) c.args.tree.now in (
      omega (arith, c.decreases),
      (
        c.requires.valid,
        (
          c.requires.fields,
          (
            c.requires.oneofs,
            (
              omega (arith, c.in_ok-place.ensures.place, c.take-at.ensures.first, c.requires.from_one),
              (
                omega (
                  arith,
                  less,
                  c.in_ok-place.ensures.place,
                  c.in_ok-place.ensures.free,
                  c.take-at.ensures.first,
                  c.take-at.ensures.free,
                  c.size_words.ensures,
                ),
                omega (
                  arith,
                  c.in_ok-place.ensures.free,
                  c.take-at.ensures.free,
                  c.size_words.ensures,
                  c.requires.room,
                ),
              ),
            ),
          ),
        ),
      ),
    )

pub node-returns-clause-free : goal.node-returns-clause-free
node-returns-clause-free t c =
    on_ok_weaker c.cases.result (λ last. omega (arith, last, c.in_ok-place.ensures.free, c.take-at.ensures.free, c.size_words.ensures)) c.cases.ensures.free

pub node-returns-clause-puts : goal.node-returns-clause-puts
node-returns-clause-puts t c =
    on_ok_both c.cases.result
    (λ last cases. node_puts c.args.table.now c.args.message c.args.tree.now c.args.self.now.free c.take-at.result
    c.take-at.new.self.free c.in_ok-place.place c.slots.new.self.free c.cases.new.self.free
    c.args.self.now.words.items c.take-at.new.self.words.items c.slots.new.self.words.items
    c.cases.new.self.words.items
    c.take-at.ensures.first (c.take-at.ensures.free ∙ ap (λ n. c.args.self.now.free + n) c.size_words.ensures)
    (ap (λ (x : Vec (ℕ × ℕ)). x.items) c.take-at.ensures.words) c.in_ok-place.ensures.place
    c.in_ok-place.ensures.free last c.in_ok-place.ensures.puts cases)
    c.cases.ensures.free c.cases.ensures.puts

pub slot-optional-requires-clause-from_one : goal.slot-optional-requires-clause-from_one
slot-optional-requires-clause-from_one t c =
    c.requires.from_one

pub slot-optional-requires-clause-slot : goal.slot-optional-requires-clause-slot
slot-optional-requires-clause-slot t c =
    c.requires.slot

pub slot-optional-requires-clause-room : goal.slot-optional-requires-clause-room
slot-optional-requires-clause-room t c =
    let whole : content_words c.args.table.now c.args.kind (content_of c.args.content.now)
    ≡ item_words c.args.table.now c.args.kind (item_of c.in-One.value) =
    ap (λ (x : FieldValue). content_words c.args.table.now c.args.kind (content_of x)) c.in-One.is in
    let less = run_words_less c.args.table.now c.args.kind (item_of c.in-One.value) in
    omega (arith, less, whole, c.requires.room)

pub slot-item-requires : goal.slot-item-requires
slot-item-requires t c =
    let h = holds_one c.args.table.now c.args.label c.args.kind c.args.content.now c.in-One.value c.in-One.is c.requires.content in
    let whole : content_words c.args.table.now c.args.kind (content_of c.args.content.now)
    ≡ item_words c.args.table.now c.args.kind (item_of c.in-One.value) =
    ap (λ (x : FieldValue). content_words c.args.table.now c.args.kind (content_of x)) c.in-One.is in
    let weighs : content_weight (content_of c.args.content.now) ≡ item_weight (item_of c.in-One.value) = ap (λ (x : FieldValue). content_weight (content_of x)) c.in-One.is in
    let wide = narrow c.args.kind in
    (omega (arith, weighs, c.decreases), (c.requires.valid, (h.0.1, (c.requires.from_one, (omega (arith, wide, c.requires.slot), omega (arith, whole, c.requires.room))))))

pub slot-returns-in-Optional-clause-free : goal.slot-returns-in-Optional-clause-free
slot-returns-in-Optional-clause-free t c =
    let h = holds_one c.args.table.now c.args.label c.args.kind c.args.content.now c.in-One.value c.in-One.is c.requires.content in
    let whole : content_words c.args.table.now c.args.kind (content_of c.args.content.now)
    ≡ item_words c.args.table.now c.args.kind (item_of c.in-One.value) =
    ap (λ (x : FieldValue). content_words c.args.table.now c.args.kind (content_of x)) c.in-One.is in
    let none = no_message_in c.args.table.now c.args.kind (item_of c.in-One.value) (h.1 c.in-Optional.is) h.0.1 in
    let run = run_words_whole c.args.table.now c.args.kind (item_of c.in-One.value) none in
    on_ok_weaker c.optional.result (λ size. let there = size none in omega (arith, there, run, whole)) c.optional.ensures.free

pub slot-returns-in-Optional-clause-puts : goal.slot-returns-in-Optional-clause-puts
slot-returns-in-Optional-clause-puts t c =
    on_ok_weaker c.optional.result
    (λ puts. slot_optional_put c.args.table.now c.args.label c.args.kind c.args.content.now c.in-One.value
    c.args.place c.args.self.now.free c.optional.new.self.free c.args.self.now.words.items
    c.optional.new.self.words.items c.in-One.is c.in-Optional.is c.requires.content puts) c.optional.ensures.puts

pub slot-returns-in_default : goal.slot-returns-in_default
slot-returns-in_default t c =
    let whole : content_words c.args.table.now c.args.kind (content_of c.args.content.now)
    ≡ item_words c.args.table.now c.args.kind (item_of c.in-One.value) =
    ap (λ (x : FieldValue). content_words c.args.table.now c.args.kind (content_of x)) c.in-One.is in
    record {
      free = on_ok_weaker c.item.result (λ size. omega (arith, size, whole)) c.item.ensures.free;
      puts = on_ok_weaker c.item.result
          (λ puts. slot_one_put c.args.table.now c.args.label c.args.kind c.args.content.now c.in-One.value
          c.args.place c.args.self.now.free c.item.new.self.free c.args.self.now.words.items
          c.item.new.self.words.items c.in-One.is c.in_default.not-Optional c.requires.own c.requires.content puts)
          c.item.ensures.puts;
    }

pub slot-overflow_add-place : goal.slot-overflow_add-place
slot-overflow_add-place t c =
    omega (arith, c.requires.slot, c.requires.room)

pub slot-elements-requires : goal.slot-elements-requires
slot-elements-requires t c =
    let h = holds_many c.args.table.now c.args.label c.args.kind c.args.content.now c.in-Many.values c.in-Many.is c.requires.content in
    let whole : content_words c.args.table.now c.args.kind (content_of c.args.content.now)
    ≡ many_words c.args.table.now c.args.kind (items_of c.in-Many.values.items) =
    ap (λ (x : FieldValue). content_words c.args.table.now c.args.kind (content_of x)) c.in-Many.is in
    let weighs : content_weight (content_of c.args.content.now) ≡ items_weight (items_of c.in-Many.values.items) = ap (λ (x : FieldValue). content_weight (content_of x)) c.in-Many.is in (
      omega (arith, weighs, c.decreases),
      (
        c.requires.valid,
        (
          h.2,
          (
            omega arith,
            (
              omega (arith, c.requires.slot, c.put.ensures.free),
              omega (arith, whole, c.requires.room, c.put.ensures.free),
            ),
          ),
        ),
      ),
    )

pub slot-returns-in_ok-put-in-Many-clause-free : goal.slot-returns-in_ok-put-in-Many-clause-free
slot-returns-in_ok-put-in-Many-clause-free t c =
    let whole : content_words c.args.table.now c.args.kind (content_of c.args.content.now)
    ≡ many_words c.args.table.now c.args.kind (items_of c.in-Many.values.items) =
    ap (λ (x : FieldValue). content_words c.args.table.now c.args.kind (content_of x)) c.in-Many.is in
    on_ok_weaker c.elements.result (λ size. omega (arith, size, whole, c.put.ensures.free)) c.elements.ensures.free

pub slot-returns-in_ok-put-in-Many-clause-puts : goal.slot-returns-in_ok-put-in-Many-clause-puts
slot-returns-in_ok-put-in-Many-clause-puts t c =
    let count : c.len.result ≡ length c.in-Many.values.items = omega (arith, c.len.ensures) in
    on_ok_both c.elements.result
    (λ size puts. slot_many_put c.args.table.now c.args.label c.args.kind c.args.content.now c.in-Many.values
    c.args.place c.args.self.now.free c.put.new.self.free c.elements.new.self.free c.args.self.now.words.items
    c.put.new.self.words.items c.elements.new.self.words.items c.in-Many.is c.requires.content
    (omega (arith, c.len.ensures, c.len.type_inv)) c.requires.slot c.put.ensures.free size
    (c.in_ok-put-in-Many.ensures.words ∙ ap (λ n. c.args.self.now.words.items ++ (c.args.place, n) ∷ []) count) puts)
    c.elements.ensures.free c.elements.ensures.puts

pub slot-overflow_add-place-in-Pairs : goal.slot-overflow_add-place-in-Pairs
slot-overflow_add-place-in-Pairs t c =
    omega (arith, c.requires.slot, c.requires.room)

pub slot-entries-requires : goal.slot-entries-requires
slot-entries-requires t c =
    let h = key_given c.args.table.now c.args.label c.args.kind c.key.result c.args.content.now c.in-Pairs.entries
    c.in-Pairs.is c.requires.content (λ key e. c.key.ensures ∙ ap key_kind e) in
    let whole : content_words c.args.table.now c.args.kind (content_of c.args.content.now)
    ≡ pairs_words c.args.table.now c.args.kind (pairs_of c.in-Pairs.entries.items) =
    ap (λ (x : FieldValue). content_words c.args.table.now c.args.kind (content_of x)) c.in-Pairs.is in
    let weighs : content_weight (content_of c.args.content.now) ≡ pairs_weight (pairs_of c.in-Pairs.entries.items) =
    ap (λ (x : FieldValue). content_weight (content_of x)) c.in-Pairs.is in (
      omega (arith, weighs, c.decreases),
      (
        c.requires.valid,
        (
          h.3,
          (
            h.1,
            (
              omega arith,
              (
                omega (arith, c.requires.slot, c.put-in-Pairs.ensures.free),
                omega (arith, whole, c.requires.room, c.put-in-Pairs.ensures.free),
              ),
            ),
          ),
        ),
      ),
    )

pub slot-returns-in_ok-put-in-Pairs-clause-free : goal.slot-returns-in_ok-put-in-Pairs-clause-free
slot-returns-in_ok-put-in-Pairs-clause-free t c =
    let whole : content_words c.args.table.now c.args.kind (content_of c.args.content.now)
    ≡ pairs_words c.args.table.now c.args.kind (pairs_of c.in-Pairs.entries.items) =
    ap (λ (x : FieldValue). content_words c.args.table.now c.args.kind (content_of x)) c.in-Pairs.is in
    on_ok_weaker c.entries.result (λ size. omega (arith, size, whole, c.put-in-Pairs.ensures.free)) c.entries.ensures.free

pub slot-returns-in_ok-put-in-Pairs-clause-puts : goal.slot-returns-in_ok-put-in-Pairs-clause-puts
slot-returns-in_ok-put-in-Pairs-clause-puts t c =
    let count : c.len-in-Pairs.result ≡ length c.in-Pairs.entries.items = omega (arith, c.len-in-Pairs.ensures) in
    on_ok_both c.entries.result
    (λ size puts. slot_pairs_put c.args.table.now c.args.label c.args.kind c.key.result c.args.content.now
    c.in-Pairs.entries c.args.place c.args.self.now.free c.put-in-Pairs.new.self.free c.entries.new.self.free
    c.args.self.now.words.items c.put-in-Pairs.new.self.words.items c.entries.new.self.words.items c.in-Pairs.is
    c.requires.content (λ key e. c.key.ensures ∙ ap key_kind e)
    (omega (arith, c.len-in-Pairs.ensures, c.len-in-Pairs.type_inv)) c.requires.slot c.put-in-Pairs.ensures.free
    size
    (c.in_ok-put-in-Pairs.ensures.words ∙ ap (λ n. c.args.self.now.words.items ++ (c.args.place, n) ∷ []) count) puts)
    c.entries.ensures.free c.entries.ensures.puts

pub slots-loop-field-init : goal.slots-loop-field-init
slots-loop-field-init t c =
    subst (λ xs. SlotsOn c.args.table.now (fields_of c.args.table.now c.args.message) c.args.tree.now c.args.at
    c.args.self.now.free c.args.self.now.words.items xs c.args.at c.args.self.now.free
    c.args.self.now.words.items) (sym c.fields-fields.ensures.value)
    (slots_begin c.args.table.now (fields_of c.args.table.now c.args.message) c.args.tree.now c.args.at
    c.args.self.now.free c.args.self.now.words.items c.requires.fields
    (are_fields c.args.table.now c.args.message c.requires.valid).ascend)

pub slots-field-requires : goal.slots-field-requires
slots-field-requires t c =
    let fits = field_fits c.args.table.now c.args.message c.args.tree.now c.args.at c.args.self.now.free
    c.args.self.now.words.items c.fields-fields.result.now c.loop-field.field-index c.field-item.result
    c.loop-field.place c.loop-field.self.free c.loop-field.self.words.items c.requires.valid c.requires.fields
    c.requires.from_one c.requires.slots c.requires.room c.loop-field-test.true c.field-item.is
    c.loop-field.invariant in
    (omega (arith, c.decreases), (c.requires.valid, (fits.known, (fits.field, (fits.from, (fits.slot, fits.room))))))

pub slots-loop-field-preserved : goal.slots-loop-field-preserved
slots-loop-field-preserved t c =
    slots_step c.args.table.now (fields_of c.args.table.now c.args.message) c.args.tree.now c.args.at
    c.args.self.now.free c.args.self.now.words.items c.fields-fields.result.now c.loop-field.field-index
    c.field-item.result c.loop-field.place c.in_ok-place.place c.loop-field.self.free c.field.new.self.free
    c.loop-field.self.words.items c.field.new.self.words.items c.requires.fields c.requires.slots
    c.loop-field-test.true c.field-item.is c.loop-field.invariant
    (λ holds. let same = c.in_ok-place.ensures.member holds in (same.0, ap (λ (b : Builder). b.free) same.1, ap (λ (b : Builder). b.words.items) same.1))
    c.in_ok-place.ensures.place c.in_ok-place.ensures.free c.in_ok-place.ensures.puts

pub slots-returns-clause-place : goal.slots-returns-clause-place
slots-returns-clause-place t c =
    let last = subst (λ xs. SlotsOn c.args.table.now (fields_of c.args.table.now c.args.message) c.args.tree.now
    c.args.at c.args.self.now.free c.args.self.now.words.items xs c.loop-field.place c.loop-field.self.free
    c.loop-field.self.words.items)
    (drop_all c.loop-field.field-index c.fields-fields.result.now c.loop-field-test.false) c.loop-field.invariant
    in
    let done = slots_end c.args.table.now (fields_of c.args.table.now c.args.message) c.args.tree.now c.args.at
    c.args.self.now.free c.args.self.now.words.items c.loop-field.place c.loop-field.self.free
    c.loop-field.self.words.items last in done.place_is

pub slots-returns-clause-free : goal.slots-returns-clause-free
slots-returns-clause-free t c =
    let last = subst (λ xs. SlotsOn c.args.table.now (fields_of c.args.table.now c.args.message) c.args.tree.now
    c.args.at c.args.self.now.free c.args.self.now.words.items xs c.loop-field.place c.loop-field.self.free
    c.loop-field.self.words.items)
    (drop_all c.loop-field.field-index c.fields-fields.result.now c.loop-field-test.false) c.loop-field.invariant
    in
    let done = slots_end c.args.table.now (fields_of c.args.table.now c.args.message) c.args.tree.now c.args.at
    c.args.self.now.free c.args.self.now.words.items c.loop-field.place c.loop-field.self.free
    c.loop-field.self.words.items last in done.free_is

pub slots-returns-clause-puts : goal.slots-returns-clause-puts
slots-returns-clause-puts t c =
    let last = subst (λ xs. SlotsOn c.args.table.now (fields_of c.args.table.now c.args.message) c.args.tree.now
    c.args.at c.args.self.now.free c.args.self.now.words.items xs c.loop-field.place c.loop-field.self.free
    c.loop-field.self.words.items)
    (drop_all c.loop-field.field-index c.fields-fields.result.now c.loop-field-test.false) c.loop-field.invariant
    in
    let done = slots_end c.args.table.now (fields_of c.args.table.now c.args.message) c.args.tree.now c.args.at
    c.args.self.now.free c.args.self.now.words.items c.loop-field.place c.loop-field.self.free
    c.loop-field.self.words.items last in done.on
