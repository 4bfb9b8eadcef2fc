use Rattle.std.proofs.Common.{◌∙◌, sym, subst, ℕ, List, length, rules}
use Rattle.std.proofs.lemmas.List.{map-id}
use Rattle.std.proofs.lemmas.Iterator.Adapters.{YieldsList-from_vec}
use Rattle.std.proofs.lemmas.Iterator.Consumers.{YieldsList-turn, YieldsList-so_far}
use Rattle.mrpc_table.specs.Node.{Node}
use Rattle.mrpc_table.specs.View.{node_of, content_of}
use Rattle.mrpc_table.specs.declared.tree.FieldValue.{FieldValue}
use Rattle.wire_decode.proofs.Views.{node_of-last}
use Rattle.wire_decode.specs.Gathered.{IsGathered}
use Rattle.wire_decode.specs.NumberOrder.{AreNumbersAtMost}
use Rattle.wire_decode.proofs.Adding.{gathered-more}
use Rattle.wire_decode.proofs.Sorting.{fall-most}
use Rattle.wire_decode.proofs.merge.gathered.Goals as goal

pub loop-number-preserved : goal.loop-number-preserved
loop-number-preserved c =
    let ys = c.loop-number.yielded in
    let x : ℕ × FieldValue = (c.in-Some.number, c.in-Some.content) in
    let e = YieldsList-from_vec {s = c.into_iter-number-iterator.result} c.args.raw.items (search rules) (search rules) in
    let so_far = YieldsList-so_far e ys c.loop-number.number-iterator c.loop-number.yielded_by in
    let turn = YieldsList-turn e ys c.loop-number.number-iterator c.loop-number.yielded_by c.next.result c.next.new.self x c.in-Some.is c.next.ensures.steps in
    let most = fall-most 0 c.args.raw.items (length ys) x c.requires.sorted turn.0 turn.1 in
    let M : List (ℕ × FieldValue) → Type 0 = λ zs. AreNumbersAtMost c.in-Some.number (node_of zs) in
    let at_most = subst M (sym (sym (map-id ys) ∙ so_far)) most in
    let more = gathered-more c.args.fields.now (node_of ys) (node_of c.loop-number.held.items)
    (node_of c.add.new.held.items) c.in-Some.number (content_of c.in-Some.content) c.merge_mode_at-form.result.0
    c.loop-number.invariant c.merge_mode_at-form.ensures c.in_ok-add.ensures at_most in
    let P : Node → Type 0 = λ t. IsGathered c.args.fields.now t (node_of c.add.new.held.items) in
    subst P (sym (node_of-last ys x)) more
