use Rattle.std.proofs.Common.{◌≡◌, ◌∙◌, ℕ, suc, ◌-◌, ap, sym, map, arith, subst, List, rules}
use Rattle.std.specs.Option.{option_map}
use Rattle.std.proofs.lemmas.List.{map-id}
use Rattle.std.proofs.lemmas.Iterator.Adapters.{YieldsList-from_vec}
use Rattle.std.proofs.lemmas.Iterator.Consumers.{YieldsList-end}
use Rattle.mrpc_table.specs.Node.{no_fields, Item}
use Rattle.mrpc_table.specs.View.{item_of, content_of, node_of}
use Rattle.wire_decode.proofs.Views.{node_of-last}
use Rattle.mrpc_table.specs.declared.tree.FieldValue.{FieldValue}
use Rattle.wire_decode.specs.Merged.{merged, part_of_entry, singles_in, contents_of, join_fields}
use Rattle.wire_decode.specs.Contents.{with_content}
use Rattle.wire_decode.specs.Finished.{finished_of}
use Rattle.wire_decode.specs.EntryParts.{IsMeaningOfAll}
use Rattle.wire_decode.proofs.Merging.{elements-same, finished-merged, finished-pushed, part-all, singles-more, merged-zero}
use Rattle.wire_decode.proofs.merge.+merge.Goals as goal

pub elements-returns-then-not-is_message_kind : goal.elements-returns-then-not-is_message_kind
elements-returns-then-not-is_message_kind t c =
    elements-same (merged c.args.table.now c.args.depth) c.args.kind (map item_of c.args.values.items) (sym c.is_message_kind.ensures ∙ c.if-not-is_message_kind.true)

pub merged-returns : goal.merged-returns
merged-returns t c =
    let T = c.args.table.now in
    let raw = node_of c.args.raw.items in
    let d = c.args.depth - 1 in
    let more : c.args.depth ≡ suc d = omega (arith, c.if-depth-eq0.false) in
    finished-merged T d c.args.place c.fields-fields.result.now raw (node_of c.in_ok-counted_records.field-0.items)
    (node_of c.in_ok-raw.raw.items) (node_of c.in_ok-held.held.items) (node_of c.in_ok-fields.fields.items)
    c.fields-fields.ensures.value (c.fields-fields.ensures.ascend c.requires) c.in_ok-counted_records.ensures c.in_ok-raw.ensures.same c.in_ok-held.ensures c.in_ok-fields.ensures
    ∙ sym (ap (λ x. merged T x c.args.place raw) more)

pub merged-returns-then-depth-eq0 : goal.merged-returns-then-depth-eq0
merged-returns-then-depth-eq0 t c =
    let T = c.args.table.now in
    let raw = node_of c.args.raw.items in
    ap node_of c.new.ensures.items ∙ sym (ap (λ d. merged T d c.args.place raw) c.if-depth-eq0.true ∙ merged-zero T c.args.place raw)

pub finished-loop-number-preserved : goal.finished-loop-number-preserved
finished-loop-number-preserved t c =
    let inner = merged c.args.table.now c.args.depth in
    let fs = c.args.fields.now in
    let n = c.in-Some.number in
    let x : ℕ × FieldValue = (n, c.in-Some.content) in
    let ys = c.loop-number.yielded in
    let done = c.in_ok-done.done in
    c.in_ok-push_content.ensures
    ∙ ap (λ u. join_fields u (with_content n (option_map content_of done) no_fields)) c.loop-number.invariant
    ∙ ap (λ o. join_fields (finished_of inner fs (node_of ys)) (with_content n o no_fields)) c.in_ok-done.ensures
    ∙ sym (finished-pushed inner fs n (content_of c.in-Some.content) (node_of ys))
    ∙ sym (ap (finished_of inner fs) (node_of-last ys x))

pub entry-loop-number-preserved : goal.entry-loop-number-preserved
entry-loop-number-preserved t c =
    let n = c.in-Some.number in
    let x : ℕ × FieldValue = (n, c.in-Some.content) in
    let ys = c.loop-number.yielded in
    let now = node_of ys in
    let K : List Item → Type 0 = λ is. IsMeaningOfAll c.args.key is (option_map item_of c.in_ok-some_key.some_key) in
    let V : List Item → Type 0 = λ is. IsMeaningOfAll c.args.kind is (option_map item_of c.in_ok-some_key.some_value) in
    let seen = node_of-last ys x in (
      subst K (sym (ap (λ u. singles_in (contents_of 1 u)) seen
          ∙ singles-more 1 n (content_of c.in-Some.content) now))
          (c.in_ok-some_key.ensures.key (singles_in (contents_of 1 now)) c.loop-number.invariant.0),
      subst V (sym (ap (λ u. singles_in (contents_of 2 u)) seen
          ∙ singles-more 2 n (content_of c.in-Some.content) now))
          (c.in_ok-some_key.ensures.value (singles_in (contents_of 2 now)) c.loop-number.invariant.1),
    )

pub entry-returns : goal.entry-returns
entry-returns t c =
    let inner = merged c.args.table.now c.args.depth in
    let ys = c.loop-number.yielded in
    let e = YieldsList-from_vec {s = c.into_iter-number-iterator.result} c.args.raw.items (search rules) (search rules) in
    let fin = YieldsList-end e ys c.loop-number.number-iterator c.loop-number.yielded_by c.next.result c.next.new.self c.in-None.is c.next.ensures.steps in
    let all = sym (map-id ys) ∙ fin.0 in
    let first = c.in_ok-key.ensures ∙ part-all inner c.args.key (singles_in (contents_of 1 (node_of ys)))
    (option_map item_of c.loop-number.keys) c.loop-number.invariant.0
    ∙ ap (λ zs. part_of_entry inner 1 c.args.key (node_of zs)) all in
    let second = c.in_ok-value.ensures ∙ part-all inner c.args.kind (singles_in (contents_of 2 (node_of ys)))
    (option_map item_of c.loop-number.values) c.loop-number.invariant.1
    ∙ ap (λ zs. part_of_entry inner 2 c.args.kind (node_of zs)) all in
    λ i. (first i, second i)
