use Rattle.std.proofs.Common.{arith, ℕ, ◌<◌, ◌++◌, length, length-append, All, ap, subst, sym, ◌∙◌, append-nil}
use Rattle.mrpc_base.specs.Heap.{stores_of, races_up_to}
use Rattle.mrpc_base.proofs.Due.{stores_up_to-first, races_past-first, races_up_to-none, races_past-all, length-first, in_heap-first, first_of_due}
use Rattle.mrpc_base.proofs.plain_words.make_due.Goals as goal

pub loop-place-preserved : goal.loop-place-preserved
loop-place-preserved c =
    let old = c.loop-place.races.races in
    let new = c.take_due.new.self.races in
    let store : ℕ × ℕ = (c.in-Some.place, c.in-Some.value) in
    let first = c.in-Some.ensures.first in
    let stored = c.store.ensures in
    let kept = c.loop-place.invariant in
    let fewer = length-first old new store (first_of_due c.args.number old new store first) in
    let longer = ap length stored.stores ∙ length-append c.loop-place.words.stores _ in
    let inside = (in_heap-first c.loop-place.words.size old new store (first_of_due c.args.number old new store first) kept.in_heap).1 in
    record {
      stores = ap (λ stores. stores ++ stores_of (races_up_to c.args.number new)) stored.stores
          ∙ stores_up_to-first c.args.number old new store c.loop-place.words.stores first ∙ kept.stores;
      races = races_past-first c.args.number old new store first ∙ kept.races;
      size = stored.size ∙ kept.size;
      listed = c.in-Some.ensures.listed ∙ kept.listed;
      counted = omega (arith, fewer, longer, kept.counted);
      in_heap = subst (λ size. All (λ race. race.place < size) new) (sym stored.size) inside;
    }

pub returns-clause-stores : goal.returns-clause-stores
returns-clause-stores c =
    let none = races_up_to-none c.args.number c.loop-place.races.races c.in_default.ensures.none in
    sym (ap (λ races. c.loop-place.words.stores ++ stores_of races) none ∙ append-nil c.loop-place.words.stores) ∙ c.loop-place.invariant.stores

pub returns-clause-races : goal.returns-clause-races
returns-clause-races c =
    c.in_default.ensures.unchanged ∙ sym (races_past-all c.args.number c.loop-place.races.races c.in_default.ensures.none) ∙ c.loop-place.invariant.races
