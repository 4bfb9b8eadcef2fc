use Rattle.std.proofs.Common.{◌≡◌, ◌<◌, ◌∷◌, [], ◌++◌, Vec, Global, Some, length, sym, ap, ◌∙◌, arith}
use Rattle.std.specs.Prelude.{slice_get}
use Rattle.std.proofs.lemmas.Bool.{false≢true}
use Rattle.std.proofs.lemmas.Option.{slice_get-get_or, get_or_from_slice_get}
use Rattle.proto_set.specs.declared.traversal.VisitState.TheVariants.{New, Left}
use Rattle.proto_set.proofs.Visited.{paths_apart}
use Rattle.proto_set.proofs.Joining.{Pair, others_none, others_more, others_skip, others_sorted}
use Rattle.proto_set.proofs.resolution_order.by_path.Goals as goal
use Rattle.proto_set.proofs.resolution_order.by_path.Goals.{then-is_visit_finished+in_ok-push, else-is_visit_finished}

pub loop-i-init : goal.loop-i-init
loop-i-init c = others_none c.args.members.now c.args.marks.now c.new-pairs.result.items c.new-pairs.ensures.items

pub loop-i-preserved : goal.loop-i-preserved
loop-i-preserved c =
    let set = c.args.members.now in
    let marks = c.args.marks.now in
    let i = c.loop-i.i in
    let within : i < length marks = omega (arith, c.requires.count, c.loop-i-test.true) in
    elim c.if-is_visit_finished.branch [
      | then-is_visit_finished+in_ok-push w ↦
          let left : slice_get marks i ≡ Some Left =
          slice_get-get_or marks i New within ∙ ap Some (c.is_visit_finished.ensures.0 w.if-is_visit_finished.true) in
          let e : c.if-is_visit_finished.pairs.items ≡ c.loop-i.pairs.items ++ (w.as_slice.result, i) ∷ [] =
          ap (λ (v : Vec Pair Global). v.items) w.pairs-is ∙ w.in_ok-push.ensures.items in
          others_more set marks i w.index-members-i.result w.as_slice.result c.loop-i.pairs.items c.if-is_visit_finished.pairs.items
          c.loop-i-test.true c.loop-i.auto.i left w.as_slice.ensures e c.loop-i.invariant
      | else-is_visit_finished w ↦
          let other : slice_get marks i ≡ Some Left → ⊥ = λ at.
          false≢true (sym w.if-is_visit_finished.false ∙ c.is_visit_finished.ensures.1 (get_or_from_slice_get marks i Left New at)) in
          others_skip set marks i c.loop-i.pairs.items c.if-is_visit_finished.pairs.items other
          (ap (λ (v : Vec Pair Global). v.items) w.pairs-is) c.loop-i.invariant
    ]

pub returns : goal.returns
returns c =
    others_sorted c.args.members.now c.args.marks.now c.loop-i.i c.loop-i.pairs.items c.sort.new.self.items (paths_apart c.requires.own)
    (omega (arith, c.requires.count, c.loop-i-test.false)) c.loop-i.invariant c.in_ok-sort.ensures.permutation c.in_ok-sort.ensures.sorted
