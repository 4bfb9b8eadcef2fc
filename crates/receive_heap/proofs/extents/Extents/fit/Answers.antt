use Rattle.std.proofs.Common.{◌≡◌, ◌<◌, All, Some, rules, sym, ap, subst, arith, slice_index_or}
use Rattle.std.specs.Map.{values_of}
use Rattle.receive_heap.specs.declared.holes.PlaceRange.{PlaceRange}
use Rattle.receive_heap.specs.Parts.{IsFirstFitAt}
use Rattle.receive_heap.proofs.Places.{hole_within, hole_behind}
use Rattle.receive_heap.specs.Layout.{Layout, IsFirstFit}
use Rattle.receive_heap.proofs.Kept.{first_from_index, one_fit, fit_some}
use Rattle.receive_heap.proofs.extents.Extents.fit.Goals as goal

pub returns-in_err-index-clause-only : goal.returns-in_err-index-clause-only
returns-in_err-index-clause-only c at fits =
    let all : All (λ hole. hole.words < c.args.words) c.args.self.now.holes = search rules in
    absurd (fit_some c.args.self.now.holes c.args.words at fits all)

pub returns-clause-some : goal.returns-clause-some
returns-clause-some c =
    subst (λ holes. IsFirstFit holes c.args.words c.index.result.now.at) (ap (λ (layout : Layout). layout.holes) c.self.view_is)
    (first_from_index c.self.inside.holes.items c.args.words c.in_ok-index.index c.index.result.now (rw (sym c.deref.ensures.value) c.in_ok-index.ensures) c.index.ensures)

pub returns-clause-inside : goal.returns-clause-inside
returns-clause-inside c =
    let layout : Layout = record { words = c.self.inside.words; holes = c.self.inside.holes.items; held = values_of c.self.inside.held.entries; next = c.self.inside.next } in
    let fits : IsFirstFitAt c.self.inside.holes.items c.args.words c.in_ok-index.index = rw (sym c.deref.ensures.value) c.in_ok-index.ensures in
    let hole = hole_within layout c.self.invariant.partition c.self.invariant.some c.in_ok-index.index c.index.result.now fits.within in
    let behind = hole_behind layout c.self.invariant.partition c.self.invariant.some c.in_ok-index.index c.index.result.now fits.within in
    let words = fits.there c.index.result.now in
    let at : c.index.result.now ≡ slice_index_or c.self.inside.holes.items c.in_ok-index.index c.index.result.now = c.index.ensures in
    let size = ap (λ (l : Layout). l.words) c.self.view_is in
    let same = ap (λ (s : PlaceRange). s.at) at in
    (omega (arith, behind, same), omega (arith, hole, words, same, size))

pub returns-clause-only : goal.returns-clause-only
returns-clause-only c at fits =
    ap Some (one_fit c.args.self.now.holes c.args.words c.index.result.now.at at (returns-clause-some c) fits)
