use Rattle.std.proofs.Common.{arith, ℕ, ◌<◌, ◌++◌, length, length-append, All, ap, subst, sym, ◌∙◌}
use Rattle.mrpc_base.specs.Heap.{stores_of}
use Rattle.mrpc_base.proofs.Due.{stores-first, length-first, in_heap-first}
use Rattle.mrpc_base.proofs.plain_words.make_all.Goals as goal

pub loop-place-preserved : goal.loop-place-preserved
loop-place-preserved c =
    let old = c.loop-place.races.races in
    let new = c.take_first.new.self.races in
    let store : ℕ × ℕ = (c.in-Some.place, c.in-Some.value) in
    let first = c.in-Some.ensures.first in
    let stored = c.store.ensures in
    let kept = c.loop-place.invariant in
    let fewer = length-first old new store first in
    let longer = ap length stored.stores ∙ length-append c.loop-place.words.stores _ in
    record {
      stores = ap (λ stores. stores ++ stores_of new) stored.stores ∙ stores-first old new store c.loop-place.words.stores first ∙ kept.stores;
      size = stored.size ∙ kept.size;
      listed = c.in-Some.ensures.listed ∙ kept.listed;
      counted = omega (arith, fewer, longer, kept.counted);
      in_heap = subst (λ size. All (λ race. race.place < size) new) (sym stored.size) (in_heap-first c.loop-place.words.size old new store first kept.in_heap).1;
    }
