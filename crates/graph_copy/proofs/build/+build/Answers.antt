use Rattle.std.proofs.Common.{◌≡◌, ◌+◌, ◌-◌, ◌*◌, ℕ, suc, length, drop, Some, true, false, refl, sym, ap, subst, ◌∙◌, arith, ⊎_elim, inl, inr}
use Rattle.mrpc_table.specs.MapEntries.{last_of_each}
use Rattle.mrpc_table.specs.Node.{Node, one, many, pairs}
use Rattle.mrpc_table.specs.Normal.{fields_of}
use Rattle.mrpc_table.specs.View.{item_of, items_of, pairs_of, node_of}
use Rattle.mrpc_table.specs.declared.table.Label.{Label}
use Rattle.mrpc_table.specs.declared.tree.FieldValue.TheVariants.{One}
use Rattle.graph_form.specs.Roles.{slot_role, own_slots, oneof_count}
use Rattle.graph_form.specs.Placed.{Word}
use Rattle.graph_form.specs.Forgotten.{slot_content, with_member}
use Rattle.graph_copy.specs.Makes.{insert_all, IsMadeFromWord, IsMadeFromSlots}
use Rattle.graph_copy.proofs.Inserting.{insert_last}
use Rattle.graph_copy.proofs.Making.{run_made, no_room, node_made, item_made, slot_optional, slot_repeated, slot_packed, slot_map, slot_plain, slot_member}
use Rattle.graph_copy.proofs.Gathering.{ElementsOn, elements_begin, elements_more, elements_end, EntriesOn}
use Rattle.graph_copy.proofs.Gathering.{entries_begin, entries_more, entries_end, SlotsOn, slots_begin, slots_more}
use Rattle.graph_copy.proofs.Gathering.{slots_end, CasesOn, cases_begin, cases_more, cases_end, unknown_member}
use Rattle.graph_copy.proofs.Gathering.{member_found, node_done}
use Rattle.graph_copy.proofs.build.+build.Goals as goal

pub elements-loop-element-init : goal.elements-loop-element-init
elements-loop-element-init t c =
    let start = c.next-address.new.self.loads.now in
    let all : c.args.count ≡ c.args.count - 0 = omega arith in
    subst (λ n. ElementsOn c.args.table.now c.args.kind c.args.room c.args.count start n start c.in_ok-values.values.items) all
    (subst (ElementsOn c.args.table.now c.args.kind c.args.room c.args.count start c.args.count start)
    (sym c.in_ok-values.ensures.items)
    (elements_begin c.args.table.now c.args.kind c.args.room c.args.count start))

pub elements-loop-element-preserved : goal.elements-loop-element-preserved
elements-loop-element-preserved t c =
    let some : c.args.count - c.loop-element._element ≡ suc (c.args.count - (c.loop-element._element + 1)) = omega (arith, c.loop-element-test.true) in
    subst (ElementsOn c.args.table.now c.args.kind c.args.room c.args.count c.next-address.new.self.loads.now
    (c.args.count - (c.loop-element._element + 1)) c.item.new.tape.loads.now) (sym c.in_ok-push.ensures.items)
    (elements_more c.args.table.now c.args.kind c.args.room c.args.count (c.args.count - c.loop-element._element)
    (c.args.count - (c.loop-element._element + 1)) c.next-address.new.self.loads.now c.loop-element.tape.loads.now
    c.item.new.tape.loads.now c.loop-element.values.items c.in_ok-item.field-0
    some c.loop-element.invariant c.in_ok-item.ensures)

pub elements-returns : goal.elements-returns
elements-returns t c =
    let none : c.args.count - c.loop-element._element ≡ 0 = omega (arith, c.loop-element-test.false) in
    elements_end c.args.table.now c.args.kind c.args.room c.args.count c.next-address.result c.args.tape.now.loads.now
    c.next-address.new.self.loads.now c.loop-element.tape.loads.now c.loop-element.values.items
    c.next-address.ensures
    (subst (λ n. ElementsOn c.args.table.now c.args.kind c.args.room c.args.count c.next-address.new.self.loads.now n
    c.loop-element.tape.loads.now c.loop-element.values.items) none c.loop-element.invariant)

pub entries-loop-entry-init : goal.entries-loop-entry-init
entries-loop-entry-init t c =
    let start = c.next-address.new.self.loads.now in
    let all : c.args.count ≡ c.args.count - 0 = omega arith in
    subst (λ n. EntriesOn c.args.table.now c.args.key c.args.kind c.args.room c.args.count start n start c.in_ok-entries.entries.items) all
    (subst (EntriesOn c.args.table.now c.args.key c.args.kind c.args.room c.args.count start c.args.count start)
    (sym c.in_ok-entries.ensures.items)
    (entries_begin c.args.table.now c.args.key c.args.kind c.args.room c.args.count start))

pub entries-loop-entry-preserved : goal.entries-loop-entry-preserved
entries-loop-entry-preserved t c =
    let some : c.args.count - c.loop-entry._entry ≡ suc (c.args.count - (c.loop-entry._entry + 1)) = omega (arith, c.loop-entry-test.true) in
    subst (EntriesOn c.args.table.now c.args.key c.args.kind c.args.room c.args.count
    c.next-address.new.self.loads.now (c.args.count - (c.loop-entry._entry + 1))
    c.item-in-loop-entry.new.tape.loads.now) (sym c.in_ok-push.ensures.items)
    (entries_more c.args.table.now c.args.key c.args.kind c.args.room c.args.count
    (c.args.count - c.loop-entry._entry) (c.args.count - (c.loop-entry._entry + 1))
    c.next-address.new.self.loads.now c.loop-entry.tape.loads.now c.item.new.tape.loads.now
    c.item-in-loop-entry.new.tape.loads.now c.loop-entry.entries.items
    c.in_ok-first.first c.in_ok-second.second some c.loop-entry.invariant c.in_ok-first.ensures c.in_ok-second.ensures)

pub entries-returns : goal.entries-returns
entries-returns t c = λ place depth deep H P rest sound is.
    let none : c.args.count - c.loop-entry._entry ≡ 0 = omega (arith, c.loop-entry-test.false) in
    let d = entries_end c.args.table.now c.args.key c.args.kind c.args.room c.args.count c.next-address.result
    c.args.tape.now.loads.now c.next-address.new.self.loads.now c.loop-entry.tape.loads.now
    c.loop-entry.entries.items c.next-address.ensures
    (subst (λ n. EntriesOn c.args.table.now c.args.key c.args.kind c.args.room c.args.count
    c.next-address.new.self.loads.now n c.loop-entry.tape.loads.now c.loop-entry.entries.items) none
    c.loop-entry.invariant) place depth deep H P rest sound is in
    (c.in_ok-kept.ensures ∙ ap (last_of_each c.args.key) d.0, d.1)

pub item-returns : goal.item-returns
item-returns t c = λ place depth deep.
    item_made c.args.table.now c.args.kind place depth c.next-first.result c.args.tape.now.loads.now
    c.next-first.new.self.loads.now c.value.new.tape.loads.now (item_of c.in_ok-item.item) c.next-first.ensures
    (c.in_ok-item.ensures place depth true deep (inl refl))

pub member-returns-in_ok-push-in-Some : goal.member-returns-in_ok-push-in-Some
member-returns-in_ok-push-in-Some t c = λ place depth oneof deep.
    member_found c.args.table.now (fields_of c.args.table.now c.args.message) c.args.room c.next-case.result
    c.args.tape.now.loads.now c.next-case.new.self.loads.now c.item.new.tape.loads.now c.args.found.now.items
    c.push.new.self.items c.in-Some.field.now c.in_ok-value-in-Some.value
    c.next-case.ensures c.if-case-eq0.false (sym c.in-Some.ensures) c.in_ok-value-in-Some.ensures
    (λ u. ap (λ xs. insert_all xs u) c.in_ok-push-in-Some.ensures.items ∙ insert_last c.args.found.now.items c.in-Some.field.now.number (One c.in_ok-value-in-Some.value) u)
    place depth oneof deep

pub member-returns-in-None : goal.member-returns-in-None
member-returns-in-None t c = λ place depth oneof deep.
    let fs = fields_of c.args.table.now c.args.message in
    unknown_member c.args.table.now fs c.next-case.result c.args.tape.now.loads.now c.next-case.new.self.loads.now
    (λ (w : Word). (u : Node) → insert_all c.args.found.now.items (with_member c.args.table.now fs w u)
    ≡ insert_all c.args.found.now.items u)
    c.next-case.ensures c.if-case-eq0.false (sym c.in-None.ensures) place depth oneof

pub members-loop-oneof-init : goal.members-loop-oneof-init
members-loop-oneof-init t c =
    let n = oneof_count c.args.table.now c.args.message in
    let all : oneof_count c.args.table.now c.args.message ≡ oneof_count c.args.table.now c.args.message - 0 = omega arith in
    subst (λ k. CasesOn c.args.table.now (fields_of c.args.table.now c.args.message) c.args.room n
    c.args.tape.now.loads.now k c.args.tape.now.loads.now c.args.found.now.items c.args.found.now.items) all
    (cases_begin c.args.table.now (fields_of c.args.table.now c.args.message) c.args.room n c.args.tape.now.loads.now c.args.found.now.items)

pub members-loop-oneof-preserved : goal.members-loop-oneof-preserved
members-loop-oneof-preserved t c =
    let n = oneof_count c.args.table.now c.args.message in
    let some : oneof_count c.args.table.now c.args.message - c.loop-oneof._oneof
    ≡ suc (oneof_count c.args.table.now c.args.message - (c.loop-oneof._oneof + 1)) =
    omega (arith, c.loop-oneof-test.true, c.oneof_count-oneof-end.ensures.number) in
    cases_more c.args.table.now (fields_of c.args.table.now c.args.message) c.args.room n (n - c.loop-oneof._oneof)
    (n - (c.loop-oneof._oneof + 1)) c.args.tape.now.loads.now c.loop-oneof.tape.loads.now
    c.member.new.tape.loads.now c.args.found.now.items c.loop-oneof.found.items c.member.new.found.items
    some c.loop-oneof.invariant c.in_ok-member.ensures

pub members-returns : goal.members-returns
members-returns t c =
    let n = oneof_count c.args.table.now c.args.message in
    let none : oneof_count c.args.table.now c.args.message - c.loop-oneof._oneof ≡ 0 = omega (arith, c.loop-oneof-test.false, c.oneof_count-oneof-end.ensures.number) in
    cases_end c.args.table.now (fields_of c.args.table.now c.args.message) c.args.room n c.args.tape.now.loads.now c.loop-oneof.tape.loads.now c.args.found.now.items c.loop-oneof.found.items
    (subst (λ k. CasesOn c.args.table.now (fields_of c.args.table.now c.args.message) c.args.room n
    c.args.tape.now.loads.now k c.loop-oneof.tape.loads.now c.args.found.now.items c.loop-oneof.found.items) none
    c.loop-oneof.invariant)

pub node-returns : goal.node-returns
node-returns t c = λ place depth deep.
    let T = c.args.table.now in
    let fs = fields_of c.args.table.now c.args.message in
    let slots = subst
    (λ xs. IsMadeFromSlots T fs (own_slots fs) depth place c.args.tape.now.loads.now c.slots.new.tape.loads.now xs
    c.slots.new.found.items) c.new-found.ensures.items (c.in_ok-slots.ensures place depth deep) in
    node_done T c.args.message place depth c.args.tape.now.loads.now c.slots.new.tape.loads.now
    c.members.new.tape.loads.now c.slots.new.found.items c.members.new.found.items
    (node_of c.in_ok-fields.fields.items)
    slots (c.in_ok-members.ensures (place + 2 * length (own_slots fs)) depth deep) c.in_ok-fields.ensures

pub slot-returns-in_ok-value-in-Optional : goal.slot-returns-in_ok-value-in-Optional
slot-returns-in_ok-value-in-Optional t c =
    let Made : Label → Type 0 = λ l. (place depth : ℕ) → depth + c.args.room ≡ 32
    → IsMadeFromWord c.args.table.now (slot_role l c.args.kind depth, place) c.args.tape.now.loads.now
    c.optional.new.tape.loads.now (λ w. Some (one (item_of c.in_ok-value-in-Optional.value))
    ≡ slot_content c.args.table.now l c.args.kind w) in
    subst Made (sym c.in-Optional.is) (λ place depth deep.
    slot_optional c.args.table.now c.args.kind place depth c.next-first.result c.args.tape.now.loads.now
    c.next-first.new.self.loads.now c.optional.new.tape.loads.now (item_of c.in_ok-value-in-Optional.value)
    c.next-first.ensures c.if-first-eq0.false
    (c.in_ok-value-in-Optional.ensures c.args.table.now place))

pub slot-returns-in_ok-values-in-Repeated : goal.slot-returns-in_ok-values-in-Repeated
slot-returns-in_ok-values-in-Repeated t c =
    let is = items_of c.in_ok-values-in-Repeated.values.items in
    let Made : Label → Type 0 = λ l. (place depth : ℕ) → depth + c.args.room ≡ 32
    → IsMadeFromWord c.args.table.now (slot_role l c.args.kind depth, place) c.args.tape.now.loads.now
    c.elements.new.tape.loads.now (λ w. Some (many is) ≡ slot_content c.args.table.now l c.args.kind w) in
    ⊎_elim
    (λ same. subst Made (sym same)
    (λ place depth deep. slot_repeated c.args.table.now c.args.kind place depth c.next-first.result
    c.args.tape.now.loads.now c.next-first.new.self.loads.now c.elements.new.tape.loads.now is
    c.next-first.ensures c.if-first-eq0.false
    (c.in_ok-values-in-Repeated.ensures (place + 1) depth deep)))
    (λ same. subst Made (sym same)
    (λ place depth deep. slot_packed c.args.table.now c.args.kind place depth c.next-first.result
    c.args.tape.now.loads.now c.next-first.new.self.loads.now c.elements.new.tape.loads.now is
    c.next-first.ensures c.if-first-eq0.false
    (c.in_ok-values-in-Repeated.ensures (place + 1) depth deep)))
    c.in-Repeated.is

pub slot-returns-in_ok-entries-in-Map : goal.slot-returns-in_ok-entries-in-Map
slot-returns-in_ok-entries-in-Map t c =
    let ps = pairs_of c.in_ok-entries-in-Map.entries.items in
    let Made : Label → Type 0 = λ l. (place depth : ℕ) → depth + c.args.room ≡ 32
    → IsMadeFromWord c.args.table.now (slot_role l c.args.kind depth, place) c.args.tape.now.loads.now
    c.entries.new.tape.loads.now (λ w. Some (pairs ps) ≡ slot_content c.args.table.now l c.args.kind w) in
    subst Made (sym c.in-Map.is) (λ place depth deep.
    slot_map c.args.table.now c.in-Map.key c.args.kind place depth c.next-first.result c.args.tape.now.loads.now
    c.next-first.new.self.loads.now c.entries.new.tape.loads.now ps c.next-first.ensures c.if-first-eq0.false
    (c.in_ok-entries-in-Map.ensures (place + 1) depth deep))

pub slot-returns-in_ok-value-in-Plain : goal.slot-returns-in_ok-value-in-Plain
slot-returns-in_ok-value-in-Plain t c =
    let i = item_of c.in_ok-value-in-Plain.value in
    let Made : Label → Type 0 = λ l. (place depth : ℕ) → depth + c.args.room ≡ 32
    → IsMadeFromWord c.args.table.now (slot_role l c.args.kind depth, place) c.args.tape.now.loads.now
    c.value.new.tape.loads.now (λ w. Some (one i) ≡ slot_content c.args.table.now l c.args.kind w) in
    ⊎_elim
    (λ same. subst Made (sym same)
    (λ place depth deep. slot_plain c.args.table.now c.args.kind place depth c.next-first.result
    c.args.tape.now.loads.now c.next-first.new.self.loads.now c.value.new.tape.loads.now i c.next-first.ensures
    c.if-first-eq0.false
    (c.in_ok-value-in-Plain.ensures place depth false deep (inr c.if-first-eq0.false))))
    (λ some. subst Made (sym some.1)
    (λ place depth deep. slot_member c.args.table.now some.0 c.args.kind place depth c.next-first.result
    c.args.tape.now.loads.now c.next-first.new.self.loads.now c.value.new.tape.loads.now i c.next-first.ensures
    c.if-first-eq0.false
    (c.in_ok-value-in-Plain.ensures place depth false deep (inr c.if-first-eq0.false))))
    c.in-Plain.is

pub slots-loop-place-preserved : goal.slots-loop-place-preserved
slots-loop-place-preserved t c =
    let fs = fields_of c.args.table.now c.args.message in
    let all = c.fields-fields.result.now in
    slots_more c.args.table.now fs (own_slots fs) (own_slots (drop c.loop-place.from all))
    (own_slots (drop (c.in-Some.place + 1) all)) c.args.room c.args.tape.now.loads.now c.loop-place.tape.loads.now
    c.slot.new.tape.loads.now c.args.found.now.items c.loop-place.found.items c.keep.new.found.items
    c.index-fields-place.result c.in_ok-content.content
    (c.in-Some.ensures.found c.index-fields-place.result c.index-fields-place.is) c.loop-place.invariant c.in_ok-content.ensures c.in_ok-keep.ensures

pub slots-loop-place-init : goal.slots-loop-place-init
slots-loop-place-init t c =
    let fs = fields_of c.args.table.now c.args.message in
    subst (λ gs. SlotsOn c.args.table.now fs (own_slots fs) c.args.room c.args.tape.now.loads.now
    (own_slots gs) c.args.tape.now.loads.now c.args.found.now.items c.args.found.now.items)
    (sym c.fields-fields.ensures.value)
    (slots_begin c.args.table.now fs (own_slots fs) c.args.room c.args.tape.now.loads.now c.args.found.now.items)

pub slots-returns : goal.slots-returns
slots-returns t c =
    let fs = fields_of c.args.table.now c.args.message in
    slots_end c.args.table.now fs (own_slots fs) c.args.room c.args.tape.now.loads.now c.loop-place.tape.loads.now c.args.found.now.items c.loop-place.found.items
    (subst (λ gs. SlotsOn c.args.table.now fs (own_slots fs) c.args.room c.args.tape.now.loads.now gs
    c.loop-place.tape.loads.now c.args.found.now.items c.loop-place.found.items) c.in_default.ensures.none
    c.loop-place.invariant)

pub value-returns-then-room-eq0 : goal.value-returns-then-room-eq0
value-returns-then-room-eq0 t c = λ place depth needed deep there.
    no_room c.args.table.now c.args.kind c.in-Message.message place depth needed c.args.first c.args.room
    c.args.tape.now.loads.now c.args.tape.now.loads.now _ (sym c.in-Message.ensures) c.if-room-eq0.true deep there

pub value-returns-in_ok-run-in-Run : goal.value-returns-in_ok-run-in-Run
value-returns-in_ok-run-in-Run t c = λ place depth needed deep there.
    run_made c.args.table.now c.args.kind place depth needed c.args.first c.args.tape.now.loads.now
    c.run.new.tape.loads.now c.in_ok-run-in-Run.field-0 (sym c.in-Run.ensures)
    (c.in_ok-run-in-Run.ensures c.args.table.now)

pub value-returns-in_ok-node-in-Message : goal.value-returns-in_ok-node-in-Message
value-returns-in_ok-node-in-Message t c = λ place depth needed deep there.
    node_made c.args.table.now c.args.kind c.in-Message.message place depth needed c.args.first c.args.room
    c.args.tape.now.loads.now c.node.new.tape.loads.now c.in_ok-node-in-Message.field-0
    (sym c.in-Message.ensures) c.if-room-eq0.false deep there c.in_ok-node-in-Message.ensures
