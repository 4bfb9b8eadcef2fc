use Rattle.std.proofs.Common.{◌<◌, ◌≤◌, length, ap, arith, rules}
use Rattle.receive_heap.specs.declared.holes.PlaceRange.{PlaceRange}
use Rattle.receive_heap.proofs.Joins.{same_hole, clear_joined, stands_joined, clear_apart}
use Rattle.receive_heap.proofs.holes.merge_next.Goals as goal
use Rattle.receive_heap.proofs.holes.merge_next.Goals.{else-index-len-via-then-index-len+else-index-span, else-index-len-via-else-index-len}

pub returns-then-index-span-clause-stands : goal.returns-then-index-span-clause-stands
returns-then-index-span-clause-stands c = rw c.remove-hole.ensures.items
    (stands_joined _ c.args.index c.args.span c.remove-hole.result c.requires.holes c.requires.stands (search rules) c.remove-hole.ensures.value
    (let lt : c.args.index < length c.args.holes.now.items = search rules in
    let e = same_hole _ c.args.index c.index.result.now c.remove-hole.result lt c.index.ensures c.remove-hole.ensures.value in
    omega (arith, ap (λ (h : PlaceRange). h.at) e, c.if-index-span.true)))

pub returns-then-index-span-clause-clear : goal.returns-then-index-span-clause-clear
returns-then-index-span-clause-clear c = rw c.remove-hole.ensures.items
    (clear_joined _ c.args.index c.args.span c.remove-hole.result c.requires.holes (search rules) c.remove-hole.ensures.value
    (let lt : c.args.index < length c.args.holes.now.items = search rules in
    let e = same_hole _ c.args.index c.index.result.now c.remove-hole.result lt c.index.ensures c.remove-hole.ensures.value in
    omega (arith, ap (λ (h : PlaceRange). h.at) e, c.if-index-span.true)))

pub returns-clause-clear : goal.returns-clause-clear
returns-clause-clear c = elim c.else-index-len.branch [
  | else-index-len-via-then-index-len+else-index-span w ↦ clear_apart _ c.args.index c.args.span w.index.result.now
      c.requires.holes c.requires.stands (search rules) w.index.ensures w.if-index-span.false
  | else-index-len-via-else-index-len w ↦ λ k d le klt. let past : length c.args.holes.now.items ≤ c.args.index = search rules in omega (arith, past, le, klt)
]
