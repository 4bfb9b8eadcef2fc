use Rattle.std.proofs.Common.{◌≡◌, ◌+◌, length, None, rules, ◌≢◌, ◌≤◌, All, arith, refl, ap, sym, subst}
use Rattle.std.specs.Map.{values_of, lookup, remove_entry}
use Rattle.std.specs.BTreeMap.{is_at}
use Rattle.std.specs.Ordering.{nat_cmp}
use Rattle.receive_heap.specs.Layout.{Layout, IsWithout}
use Rattle.receive_heap.proofs.Kept.{without, absent, present, some_words}
use Rattle.receive_heap.proofs.Calls.{reclaim_keeps}
use Rattle.receive_heap.proofs.Places.{are_holes, block_within, meets_none}
use Rattle.receive_heap.proofs.extents.Extents.reclaim.Goals as goal

pub returns-clause-held : goal.returns-clause-held
returns-clause-held c =
    let seen = ap (λ (layout : Layout). layout.held) c.self.view_is in
    rw c.in-Some.ensures.entries
    (subst (λ held. IsWithout c.args.block held
    (values_of (remove_entry (is_at (nat_cmp c.args.block)) c.self.inside.held.entries))) seen
    (without c.args.block c.self.inside.next c.self.inside.held.entries c.in-Some.held c.self.invariant.known
    (sym c.in-Some.ensures.value)))

pub returns-clause-not_held : goal.returns-clause-not_held
returns-clause-not_held c =
    let seen = ap (λ (layout : Layout). layout.held) c.self.view_is in (
      λ wrong. cc,
      λ all.
          absurd (present c.args.block c.self.inside.next c.self.inside.held.entries c.in-Some.held
          c.self.invariant.known (sym c.in-Some.ensures.value)
          (subst (λ held. All (λ block. block.number ≢ c.args.block) held) (sym seen) all)),
    )

pub returns-in_default-clause-not_held : goal.returns-in_default-clause-not_held
returns-in_default-clause-not_held c =
    let seen = ap (λ (layout : Layout). layout.held) c.self.view_is in
    let none = absent c.args.block c.self.inside.next c.self.inside.held.entries c.self.invariant.known
    (let none : lookup (is_at (nat_cmp c.args.block)) c.self.inside.held.entries ≡ None = search rules in none) in
    (λ is. subst (λ held. All (λ block. block.number ≢ c.args.block) held) seen none, λ all. refl)

pub free-requires-clause-holes : goal.free-requires-clause-holes
free-requires-clause-holes c =
    are_holes (record {
      words = c.self.inside.words;
      holes = c.self.inside.holes.items;
      held = values_of c.self.inside.held.entries;
      next = c.self.inside.next;
    }) c.self.invariant.partition
    c.self.invariant.words c.self.invariant.apart c.self.invariant.some

pub free-requires-clause-some : goal.free-requires-clause-some
free-requires-clause-some c = some_words c.args.block c.self.inside.next c.self.inside.held.entries c.in-Some.held c.self.invariant.known (sym c.in-Some.ensures.value)

pub free-requires-clause-small : goal.free-requires-clause-small
free-requires-clause-small c =
    let within = block_within (record {
      words = c.self.inside.words;
      holes = c.self.inside.holes.items;
      held = values_of c.self.inside.held.entries;
      next = c.self.inside.next;
    }) c.self.invariant.partition
    (is_at (nat_cmp c.args.block)) c.self.inside.held.entries c.in-Some.held refl (sym c.in-Some.ensures.value)
    (some_words c.args.block c.self.inside.next c.self.inside.held.entries c.in-Some.held c.self.invariant.known
    (sym c.in-Some.ensures.value)) in
    omega (arith, within, c.self.invariant.words)

pub free-requires-clause-apart : goal.free-requires-clause-apart
free-requires-clause-apart c =
    meets_none (record {
      words = c.self.inside.words;
      holes = c.self.inside.holes.items;
      held = values_of c.self.inside.held.entries;
      next = c.self.inside.next;
    }) c.self.invariant.partition
    c.self.invariant.some (is_at (nat_cmp c.args.block)) c.self.inside.held.entries c.in-Some.held refl
    (sym c.in-Some.ensures.value)
    (some_words c.args.block c.self.inside.next c.self.inside.held.entries c.in-Some.held c.self.invariant.known
    (sym c.in-Some.ensures.value))

pub invariant_of-self-2 : goal.invariant_of-self-2
invariant_of-self-2 c =
    let len : length c.free.new.holes.items ≤ length c.self.inside.holes.items + 1 = search rules in
    rw c.in-Some.ensures.entries
    (reclaim_keeps c.self.inside.words c.self.inside.next c.args.block c.self.inside.holes.items
    c.free.new.holes.items c.self.inside.held.entries c.in-Some.held _ _ c.self.invariant
    (sym c.in-Some.ensures.value) c.free.ensures.holes c.free.ensures.places len c.free.ensures.capacity)
