use Rattle.std.proofs.Common.{◌≡◌, ◌≤◌, ◌+◌, ◌-◌, ◌++◌, length}
use Rattle.mrpc_base.specs.Heap.{AreLoads}
use Rattle.graph_form.specs.Loading.{AreExpectedAfter}
use Rattle.graph_copy.specs.Expected.{expected, AreInHeap}
use Rattle.graph_copy.proofs.take.take_words.Given as goal

-- the loads so far lead to the words expected now
abbrev pub invariant-loop-next : goal.invariant-loop-next
invariant-loop-next g l = record {
  leads : AreExpectedAfter l.table l.fn.walk.size (expected l.table l.fn.walk) l.loads.items (expected l.table l.walk);
  fits : AreInHeap l.fn.walk.size (expected l.table l.walk);
  same : l.walk.size ≡ l.fn.walk.size;
  size : g.W.Words.size l.words ≡ g.W.Words.size l.fn.words;
  adds : g.W.Words.loads l.words ≡ g.W.Words.loads l.fn.words ++ l.loads.items;
  after : AreLoads g.W.Words.after_load l.fn.words l.loads.items l.words;
  room : l.limit ≤ g.W.Words.room l.words + length l.loads.items;
  few : length l.loads.items ≤ l.limit;
}

abbrev pub decreases-loop-next : goal.decreases-loop-next
decreases-loop-next g l = l.limit - length l.loads.items
