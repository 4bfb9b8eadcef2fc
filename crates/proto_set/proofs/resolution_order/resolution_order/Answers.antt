use Rattle.std.proofs.Common.{List, ℕ, ◌∷◌, [], ◌++◌, sym, ap, ◌∙◌, subst}
use Rattle.proto_set.specs.Reaching.{AreOthers}
use Rattle.proto_set.proofs.Joining.{Pair, order_more, joined_is}
use Rattle.proto_set.proofs.resolution_order.resolution_order.Goals as goal

pub loop-pair-init : goal.loop-pair-init
loop-pair-init c = c.in_ok-push.ensures.ok ∙ ap (λ (ks : List ℕ). ks ++ 0 ∷ []) c.new-order.ensures

pub loop-pair-preserved : goal.loop-pair-preserved
loop-pair-preserved c =
    order_more c.deref-pair-items.result.now c.loop-pair.pair-index _ c.loop-pair.order c.push-in-loop-pair.new.self
    c.loop-pair-test.true c.loop-pair.invariant c.in_ok-push-2.ensures.ok

pub returns : goal.returns
returns c =
    let set = c.args.members.now in
    let marks = c.args.marks.now in
    let pairs = c.deref-pair-items.result.now in
    joined_is set marks pairs c.loop-pair.pair-index c.loop-pair.order c.loop-pair-test.false c.loop-pair.invariant
    (subst (λ (ps : List Pair). AreOthers set marks ps) (sym c.deref-pair-items.ensures.value) c.in_ok-pairs.ensures)
    c.requires.reached
