use Rattle.std.proofs.Common.{◌<◌, ◌-◌, length, ap, arith}
use Rattle.receive_heap.specs.declared.holes.PlaceRange.{PlaceRange}
use Rattle.receive_heap.proofs.Joins.{same_hole, holes_removed, clear_joined_before, stands_joined_before, clear_apart_before}
use Rattle.receive_heap.proofs.holes.merge_previous.Goals as goal
use Rattle.receive_heap.proofs.holes.merge_previous.Goals.{else-index-gt0-via-then-index-gt0+else-index-span, else-index-gt0-via-else-index-gt0}

pub returns-then-index-span-clause-holes : goal.returns-then-index-span-clause-holes
returns-then-index-span-clause-holes c = rw c.remove-hole.ensures.items
    (holes_removed _ (c.args.index - 1) (omega (arith, c.requires.stands.within, c.if-index-gt0.true)) c.requires.holes)

pub returns-then-index-span-clause-stands : goal.returns-then-index-span-clause-stands
returns-then-index-span-clause-stands c = rw c.remove-hole.ensures.items
    (stands_joined_before _ c.args.index c.args.span c.remove-hole.result c.requires.holes c.requires.stands
    c.if-index-gt0.true (omega (arith, c.requires.stands.within, c.if-index-gt0.true)) c.remove-hole.ensures.value
    (let lt : c.args.index - 1 < length c.args.holes.now.items = omega (arith, c.requires.stands.within, c.if-index-gt0.true) in
    let e = same_hole _ (c.args.index - 1) c.index.result.now c.remove-hole.result lt c.index.ensures c.remove-hole.ensures.value in
    let f = same_hole _ (c.args.index - 1) c.index-then-index-gt0.result.now c.remove-hole.result lt c.index-then-index-gt0.ensures c.remove-hole.ensures.value in
    omega (arith, ap (λ (h : PlaceRange). h.at) e, ap (λ (h : PlaceRange). h.words) e, ap (λ (h : PlaceRange). h.at) f, ap (λ (h : PlaceRange). h.words) f, c.if-index-span.true)))

pub returns-then-index-span-clause-before : goal.returns-then-index-span-clause-before
returns-then-index-span-clause-before c = rw c.remove-hole.ensures.items
    (clear_joined_before _ c.args.index c.args.span c.remove-hole.result c.requires.holes c.if-index-gt0.true
    (omega (arith, c.requires.stands.within, c.if-index-gt0.true)) c.remove-hole.ensures.value)

pub returns-clause-before : goal.returns-clause-before
returns-clause-before c = elim c.else-index-gt0.branch [
  | else-index-gt0-via-then-index-gt0+else-index-span w ↦ clear_apart_before _ c.args.index c.args.span
      w.index.result.now c.requires.holes c.requires.stands w.if-index-gt0.true
      (omega (arith, c.requires.stands.within, w.if-index-gt0.true)) w.index.ensures
      (let lt : c.args.index - 1 < length c.args.holes.now.items = omega (arith, c.requires.stands.within, w.if-index-gt0.true) in
      let e = same_hole _ (c.args.index - 1) w.index.result.now w.index-then-index-gt0.result.now lt w.index.ensures w.index-then-index-gt0.ensures in
      λ touch. w.if-index-span.false (omega (arith, ap (λ (h : PlaceRange). h.at) e, ap (λ (h : PlaceRange). h.words) e, touch)))
  | else-index-gt0-via-else-index-gt0 w ↦ λ k d klt. omega (arith, w.if-index-gt0.false, klt)
]
