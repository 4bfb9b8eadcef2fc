use Rattle.std.proofs.Common.{◌<◌, arith, ap}
use Rattle.mrpc_base.specs.Heap.{Heap, Race}
use Rattle.mrpc_base.proofs.Listed.{Lists-from_answer}
use Rattle.mrpc_base.proofs.plain_words.PlainWords.race.Goals as goal

pub invariant_of-self : goal.invariant_of-self
invariant_of-self c =
    let kept = c.self.invariant in
    let seen = ap (λ (heap : Heap). heap.size) c.self.view_is in
    let InHeap : Race → Type 0 = λ race. race.place < c.self.inside.words.size in
    let inside : c.args.place < c.self.inside.words.size = omega (arith, seen, c.requires.in_heap) in
    let lists = Lists-from_answer InHeap c.self.inside.races c.list.new.self (record { load = c.args.load; place = c.args.place; value = c.args.value }) c.list.result
    c.list.ensures.made c.list.ensures.counted c.list.ensures.memory inside kept.in_heap in
    record {
      begun = kept.begun;
      for_loads = kept.for_loads;
      for_stores = omega (arith, lists.one_more, c.can_count.ensures, c.len-waiting.ensures.len);
      listed = omega (arith, lists.listed, kept.listed);
      in_heap = lists.all;
    }
