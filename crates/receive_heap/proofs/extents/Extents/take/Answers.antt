use Rattle.std.proofs.Common.{◌≡◌, ◌≤◌, ◌+◌, ◌++◌, ◌∷◌, [], length, refl, rules, ◌∙◌, ◌<◌, All, ap, sym, subst}
use Rattle.std.specs.Map.{values_of}
use Rattle.receive_heap.specs.Layout.{Layout, IsFirstFit}
use Rattle.std.specs.BTreeMap.{insert_entry}
use Rattle.std.specs.Ordering.{nat_cmp}
use Rattle.std.specs.Vec.{vec_capacity}
use Rattle.receive_heap.proofs.Calls.{take_keeps, places_taken}
use Rattle.receive_heap.proofs.Places.{are_holes}
use Rattle.receive_heap.proofs.Kept.{fits_some, first_from_index, insert_entry-last, values_pushed}
use Rattle.receive_heap.proofs.extents.Extents.take.Goals as goal

pub returns-then-is_err-clause-no_hole : goal.returns-then-is_err-clause-no_hole
returns-then-is_err-clause-no_hole c =
    let seen = ap (λ (layout : Layout). layout.holes) c.self.view_is in (
      λ none. absurd none,
      λ all. fits_some c.self.inside.holes.items c.args.words c.in-Some.index
          (rw (sym c.deref.ensures.value) c.in-Some.ensures)
          (subst (λ holes. All (λ hole. hole.words < c.args.words) holes) (sym seen) all),
    )

pub shrink_hole-requires-clause-holes : goal.shrink_hole-requires-clause-holes
shrink_hole-requires-clause-holes c = rw c.reserve.ensures.items
    (are_holes (record {
      words = c.self.inside.words;
      holes = c.self.inside.holes.items;
      held = values_of c.self.inside.held.entries;
      next = c.self.inside.next;
    }) c.self.invariant.partition
    c.self.invariant.words c.self.invariant.apart c.self.invariant.some)

pub returns-clause-front : goal.returns-clause-front
returns-clause-front c =
    let seen = ap (λ (layout : Layout). layout.holes) c.self.view_is in
    subst (λ holes. IsFirstFit holes c.args.words c.index.result.now.at) seen
    (first_from_index c.self.inside.holes.items c.args.words c.in-Some.index c.index.result.now
    (rw (sym c.deref.ensures.value) c.in-Some.ensures) (rw (sym c.reserve.ensures.items) c.index.ensures))

pub returns-clause-held : goal.returns-clause-held
returns-clause-held c =
    let entries : c.insert.new.self.entries ≡ insert_entry nat_cmp c.self.inside.held.entries c.self.inside.next
    (record { number = c.self.inside.next; at = c.index.result.now.at; words = c.args.words }) = search rules in
    let last = entries ∙ insert_entry-last c.self.inside.held.entries c.self.inside.next
    (record { number = c.self.inside.next; at = c.index.result.now.at; words = c.args.words })
    c.self.invariant.known in
    let seen = ap (λ (layout : Layout). layout.held) c.self.view_is in
    ap values_of last ∙ values_pushed c.self.inside.held.entries (
      c.self.inside.next,
      record { number = c.self.inside.next; at = c.index.result.now.at; words = c.args.words },
    )
    ∙ ap (λ held. held ++ (record {
      number = c.self.inside.next;
      at = c.index.result.now.at;
      words = c.args.words;
    }) ∷ []) seen

pub invariant_of-self-2 : goal.invariant_of-self-2
invariant_of-self-2 c =
    let entries : c.insert.new.self.entries ≡ insert_entry nat_cmp c.self.inside.held.entries c.self.inside.next
    (record { number = c.self.inside.next; at = c.index.result.now.at; words = c.args.words }) = search rules in
    let last = entries ∙ insert_entry-last c.self.inside.held.entries c.self.inside.next
    (record { number = c.self.inside.next; at = c.index.result.now.at; words = c.args.words })
    c.self.invariant.known in
    let len : length c.shrink_hole.new.holes.items ≤ length c.self.inside.holes.items = search rules in
    let room : length c.self.inside.holes.items + (length c.self.inside.held.entries + 1) ≤ vec_capacity c.shrink_hole.new.holes = search rules in
    rw last
    (take_keeps c.self.inside.words c.self.inside.next c.self.inside.holes.items c.shrink_hole.new.holes.items
    c.self.inside.held.entries (record {
      number = c.self.inside.next;
      at = c.index.result.now.at;
      words = c.args.words;
    }) _ _ c.self.invariant refl c.requires.some c.shrink_hole.ensures.holes
    (places_taken c.reserve.new.self.items c.self.inside.holes.items c.shrink_hole.new.holes.items c.in-Some.index
    c.args.words c.index.result.now c.reserve.ensures.items (search rules) c.index.ensures c.shrink_hole.ensures.places)
    len room)
