use Rattle.std.proofs.Common.{◌≡◌, ◌∙◌, ◌-◌, ◌++◌, ◌/◌, ◌%◌, ℕ, [], ◌∷◌, List, map, length, take, cond, refl, ap, subst, sym, arith}
use Rattle.std.proofs.lemmas.Option.{slice_get_read}
use Rattle.mrpc_table.specs.Node.{Item, no_fields}
use Rattle.mrpc_table.specs.View.{item_of, node_of, pairs_of}
use Rattle.mrpc_table.specs.declared.table.Field.{Field}
use Rattle.mrpc_table.specs.declared.tree.FieldValue.{FieldValue}
use Rattle.mrpc_table.specs.declared.tree.Value.{Value}
use Rattle.mrpc_table.specs.MapEntries.{last_of_each}
use Rattle.mrpc_table.specs.SortedEntries.{items_of_entry}
use Rattle.wire_decode.specs.Merged.{join_fields}
use Rattle.wire_decode.specs.Contents.{with_content, some_pairs}
use Rattle.wire_decode.specs.Ordered.{HasEachField, AreValues, AreEntriesRead}
use Rattle.wire_decode.proofs.Merging.{map-pushed}
use Rattle.wire_decode.proofs.Payloads.{VarintAt-moves}
use Rattle.wire_decode.proofs.Orderly.{SoFar, sofar-first, sofar-more, sofar-last}
use Rattle.wire_decode.proofs.OrderlyValues.{ValuesBefore, EntriesBefore, node-value, single-field, list-field}
use Rattle.wire_decode.proofs.OrderlyValues.{map-field, values-start, values-more, values-again, entries-start}
use Rattle.wire_decode.proofs.OrderlyValues.{entries-more, entries-again, pair-read, ok-has, on-ok-has}
use Rattle.wire_decode.proofs.ordered.+ordered.Goals as goal

pub ordered_entries-loop-first-init : goal.ordered_entries-loop-first-init
ordered_entries-loop-first-init t c =
    let P : List (Value × Value)
    → Type 0 = λ xs. EntriesBefore c.args.table.now c.args.room c.args.key c.args.kind c.args.bytes.now c.args.tag
    c.args.start c.args.start (map items_of_entry xs) in
    (omega arith, subst P (sym c.entries-entries.ensures) (entries-start c.args.table.now c.args.room c.args.key c.args.kind c.args.bytes.now c.args.tag c.args.start))

pub ordered_entries-returns-in-None-clause-found : goal.ordered_entries-returns-in-None-clause-found
ordered_entries-returns-in-None-clause-found t c =
    let es = c.loop-first.entries.items in
    let e = c.in_ok-entry.entry in
    let roomy = c.room_ahead.new.vector.items in
    let pushed : c.push.new.self.items ≡ roomy ++ e ∷ [] =
    subst (λ b. c.push.new.self.items ≡ cond b (roomy ++ e ∷ []) roomy) (sym c.in_ok-ok.ensures.variant)
    c.push.ensures.items in
    let all : c.push.new.self.items ≡ es ++ e ∷ [] = pushed ∙ ap (λ xs. xs ++ e ∷ []) c.room_ahead.ensures in
    let P : List (Item × Item) → Type 0 = λ xs. AreEntriesRead c.args.table.now c.args.room c.args.key c.args.kind c.args.bytes.now c.args.tag c.args.start c.in_ok-inside.next xs in
    subst P (sym (ap (map items_of_entry) all ∙ map-pushed items_of_entry es e))
    (entries-more c.args.table.now c.args.room c.args.key c.args.kind c.args.bytes.now c.args.tag c.args.start
    c.loop-first.first c.in_ok-inside.inside c.in_ok-inside.next (map items_of_entry es)
    (items_of_entry e) c.if-tag-ne2.false c.loop-first.invariant.1 c.in_ok-inside.ensures.found
    c.in_ok-entry.ensures)

pub ordered_entries-loop-first-preserved : goal.ordered_entries-loop-first-preserved
ordered_entries-loop-first-preserved t c =
    let es = c.loop-first.entries.items in
    let e = c.in_ok-entry.entry in
    let roomy = c.room_ahead.new.vector.items in
    let pushed : c.push.new.self.items ≡ roomy ++ e ∷ [] =
    subst (λ b. c.push.new.self.items ≡ cond b (roomy ++ e ∷ []) roomy) (sym c.in_ok-ok.ensures.variant)
    c.push.ensures.items in
    let all : c.push.new.self.items ≡ es ++ e ∷ [] = pushed ∙ ap (λ xs. xs ++ e ∷ []) c.room_ahead.ensures in
    let P : List (Item × Item) → Type 0 = λ xs. AreEntriesRead c.args.table.now c.args.room c.args.key c.args.kind c.args.bytes.now c.args.tag c.args.start c.in_ok-inside.next xs in
    let more = subst P (sym (ap (map items_of_entry) all ∙ map-pushed items_of_entry es e))
    (entries-more c.args.table.now c.args.room c.args.key c.args.kind c.args.bytes.now c.args.tag c.args.start
    c.loop-first.first c.in_ok-inside.inside c.in_ok-inside.next (map items_of_entry es)
    (items_of_entry e) c.if-tag-ne2.false c.loop-first.invariant.1 c.in_ok-inside.ensures.found
    c.in_ok-entry.ensures) in (
      omega (arith, c.loop-first.invariant.0, c.in_ok-inside.ensures.ahead, c.in_ok-inside.ensures.order, c.in-Some.ensures.ahead),
      entries-again c.args.table.now c.args.room c.args.key c.args.kind c.args.bytes.now c.args.tag c.args.start
          c.in_ok-inside.next c.in-Some.behind (map items_of_entry c.push.new.self.items) more
          c.in-Some.ensures.found,
    )

pub ordered_values-loop-first-init : goal.ordered_values-loop-first-init
ordered_values-loop-first-init t c =
    let P : List Value → Type 0 = λ xs. ValuesBefore c.args.table.now c.args.room c.args.kind c.args.bytes.now c.args.tag c.args.start c.args.start (map item_of xs) in
    (omega arith, subst P (sym c.list-values.ensures) (values-start c.args.table.now c.args.room c.args.kind c.args.bytes.now c.args.tag c.args.start))

pub ordered_values-returns-in-None-clause-found : goal.ordered_values-returns-in-None-clause-found
ordered_values-returns-in-None-clause-found t c =
    let vs = c.loop-first.values.items in
    let v = c.in_ok-value.value in
    let roomy = c.room_ahead.new.vector.items in
    let pushed : c.push.new.self.items ≡ roomy ++ v ∷ [] =
    subst (λ b. c.push.new.self.items ≡ cond b (roomy ++ v ∷ []) roomy) (sym c.in_ok-ok.ensures.variant)
    c.push.ensures.items in
    let all : c.push.new.self.items ≡ vs ++ v ∷ [] = pushed ∙ ap (λ xs. xs ++ v ∷ []) c.room_ahead.ensures in
    let P : List Item → Type 0 = λ xs. AreValues c.args.table.now c.args.room c.args.kind c.args.bytes.now c.args.tag c.args.start c.in_ok-value.next xs in
    subst P (sym (ap (map item_of) all ∙ map-pushed item_of vs v))
    (values-more c.args.table.now c.args.room c.args.kind c.args.bytes.now c.args.tag c.args.start c.loop-first.first
    c.in_ok-value.next (map item_of vs) (item_of v) c.loop-first.invariant.1 c.in_ok-value.ensures.found)

pub ordered_values-loop-first-preserved : goal.ordered_values-loop-first-preserved
ordered_values-loop-first-preserved t c =
    let vs = c.loop-first.values.items in
    let v = c.in_ok-value.value in
    let roomy = c.room_ahead.new.vector.items in
    let pushed : c.push.new.self.items ≡ roomy ++ v ∷ [] =
    subst (λ b. c.push.new.self.items ≡ cond b (roomy ++ v ∷ []) roomy) (sym c.in_ok-ok.ensures.variant)
    c.push.ensures.items in
    let all : c.push.new.self.items ≡ vs ++ v ∷ [] = pushed ∙ ap (λ xs. xs ++ v ∷ []) c.room_ahead.ensures in
    let P : List Item → Type 0 = λ xs. AreValues c.args.table.now c.args.room c.args.kind c.args.bytes.now c.args.tag c.args.start c.in_ok-value.next xs in
    let more = subst P (sym (ap (map item_of) all ∙ map-pushed item_of vs v))
    (values-more c.args.table.now c.args.room c.args.kind c.args.bytes.now c.args.tag c.args.start c.loop-first.first
    c.in_ok-value.next (map item_of vs) (item_of v) c.loop-first.invariant.1 c.in_ok-value.ensures.found) in (
      omega (arith, c.loop-first.invariant.0, c.in_ok-value.ensures.ahead, c.in-Some.ensures.ahead),
      values-again c.args.table.now c.args.room c.args.kind c.args.bytes.now c.args.tag c.args.start
          c.in_ok-value.next c.in-Some.behind (map item_of c.push.new.self.items) more c.in-Some.ensures.found,
    )

pub ordered_entry-returns-then-next-bytes : goal.ordered_entry-returns-then-next-bytes
ordered_entry-returns-then-next-bytes t c =
    let first = ok-has c.read_tag.result (c.in_ok-tag.tag, c.in_ok-tag.first) _ c.in_ok-tag.ensures.value c.read_tag.ensures.found in
    let second = ok-has c.read_tag-2.result (c.in_ok-tag-2.tag, c.in_ok-tag-2.second) _ c.in_ok-tag-2.ensures.value c.read_tag-2.ensures.found in
    pair-read c.args.table.now c.args.room c.args.key c.args.kind c.args.bytes.now c.args.start c.in_ok-tag.tag
    c.in_ok-tag.first c.in_ok-entry_key.middle c.in_ok-tag-2.tag c.in_ok-tag-2.second c.in_ok-value.next
    (item_of c.in_ok-entry_key.entry_key) (item_of c.in_ok-value.value)
    first c.if-tag-ne1.false c.in_ok-entry_key.ensures.found second c.if-tag-ne2.false c.in_ok-value.ensures.found c.if-next-bytes.true

pub ordered_single-returns-clause-found : goal.ordered_single-returns-clause-found
ordered_single-returns-clause-found t c =
    let old = node_of c.args.whole.now.items in
    let pushed = on-ok-has c.push_content.result _ _ c.in_ok-ok.ensures.value c.push_content.ensures in
    single-field c.args.table.now c.args.room c.args.label c.args.kind c.args.bytes.now c.args.tag c.args.start
    c.in_ok-value.next (item_of c.in_ok-value.value) old (node_of c.push_content.new.whole.items)
    c.requires.single c.in_ok-value.ensures.found
    (pushed ∙ ap (λ o. join_fields old (with_content (c.args.tag / 8) o no_fields)) c.single_content.ensures)

pub ordered_list-returns-clause-found : goal.ordered_list-returns-clause-found
ordered_list-returns-clause-found t c =
    let old = node_of c.args.whole.now.items in
    let pushed = on-ok-has c.push_content.result _ _ c.in_ok-ok.ensures.value c.push_content.ensures in
    list-field c.args.table.now c.args.room c.args.label c.args.kind c.args.bytes.now c.args.tag c.args.start
    c.in_ok-values.next (map item_of c.in_ok-values.values.items) old (node_of c.push_content.new.whole.items)
    c.requires.list c.in_ok-values.ensures.found
    (pushed ∙ ap (λ o. join_fields old (with_content (c.args.tag / 8) o no_fields)) c.many.ensures)

pub ordered_map-returns-clause-found : goal.ordered_map-returns-clause-found
ordered_map-returns-clause-found t c =
    let old = node_of c.args.whole.now.items in
    let es = map items_of_entry c.in_ok-entries.entries.items in
    let kept = ok-has c.last_of_each.result c.in_ok-kept.kept (λ ps. pairs_of ps.items ≡ last_of_each c.args.key es) c.in_ok-kept.ensures.value c.last_of_each.ensures in
    let pushed = on-ok-has c.push_content.result _ _ c.in_ok-ok.ensures.value c.push_content.ensures in
    map-field c.args.table.now c.args.room c.args.key c.args.kind c.args.bytes.now c.args.tag c.args.start
    c.in_ok-entries.next es old (node_of c.push_content.new.whole.items) c.in_ok-entries.ensures.found
    (pushed ∙ ap (λ o. join_fields old (with_content (c.args.tag / 8) o no_fields)) (c.pairs.ensures ∙ ap some_pairs kept))

pub ordered_node-returns-clause-found : goal.ordered_node-returns-clause-found
ordered_node-returns-clause-found t c =
    let T = c.args.table.now in
    let bytes = c.args.bytes.now in
    let tree = node_of c.in_ok-fields.fields.items in
    let P : List Field → Type 0 = λ fs. HasEachField T (c.args.room - 1) fs (take c.in_ok-first.end bytes) c.in_ok-first.first tree in
    node-value T c.args.room c.args.place bytes c.args.start (c.args.tag % 8) c.in_ok-first.first c.in_ok-first.end
    tree (omega (arith, c.if-room-eq0.false)) c.if-tag-ne2.false c.in_ok-first.ensures.found
    (subst P c.fields.ensures.value c.in_ok-fields.ensures)

pub ordered_message-loop-at-init : goal.ordered_message-loop-at-init
ordered_message-loop-at-init t c =
    let T = c.args.table.now in
    let P : List (ℕ × FieldValue) → Type 0 = λ xs. SoFar T c.args.room c.args.fields.now c.args.bytes.now c.args.start c.args.start 0 0 (node_of xs) in
    (omega arith, c.requires.place, subst P (sym c.in_ok-whole.ensures) (sofar-first T c.args.room c.args.fields.now c.args.bytes.now c.args.start))

pub ordered_message-loop-at-preserved : goal.ordered_message-loop-at-preserved
ordered_message-loop-at-preserved t c =
    let T = c.args.table.now in
    let fs = c.args.fields.now in
    let bytes = c.args.bytes.now in
    let f = c.index-fields-place.result in
    let tag = c.in_ok-tag.tag in
    let new = node_of c.ordered_field.new.whole.items in
    let known = sym c.in_ok-place.ensures.found ∙ slice_get_read fs (length fs) c.in_ok-place.place f refl c.in_ok-place.ensures.bound c.index-fields-place.is in
    let tagged = ok-has c.read_tag.result (tag, c.in_ok-tag.behind) _ c.in_ok-tag.ensures.value c.read_tag.ensures.found in
    let may = sym c.may_follow.ensures ∙ c.if-not-may_follow.false in
    let more = sofar-more T c.args.room fs bytes c.args.start c.loop-at.at c.loop-at.last c.loop-at.oneofs
    (node_of c.loop-at.whole.items) new f tag c.in_ok-tag.behind c.in_ok-at.at c.requires.ascend
    c.loop-at.invariant.2 known (omega (arith, c.if-number-last.false)) may tagged c.in_ok-at.ensures.found in
    let P : ℕ → Type 0 = λ k. SoFar T c.args.room fs bytes c.args.start c.in_ok-at.at (tag / 8) k new in
    (omega (arith, c.loop-at.invariant.0, VarintAt-moves tagged.stands, c.in_ok-at.ensures.ahead), c.in_ok-at.ensures.within, subst P (sym c.oneofs_with-oneofs.ensures) more)

pub ordered_message-returns : goal.ordered_message-returns
ordered_message-returns t c =
    let ends : c.loop-at.at ≡ length c.args.bytes.now = omega (arith, c.loop-at-test.false, c.loop-at.invariant.1) in
    sofar-last c.args.table.now c.args.room c.args.fields.now c.args.bytes.now c.args.start c.loop-at.at
    c.loop-at.last c.loop-at.oneofs (node_of c.loop-at.whole.items) ends c.loop-at.invariant.2
