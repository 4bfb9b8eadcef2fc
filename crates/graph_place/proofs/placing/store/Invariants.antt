use Rattle.std.proofs.Common.{◌≡◌, ◌≤◌, ◌+◌, ◌++◌, length, take}
use Rattle.graph_place.proofs.placing.store.Given as goal

-- the words so far are stored, and there is room for the others
abbrev pub invariant-loop-word : goal.invariant-loop-word
invariant-loop-word g l = record {
  stores : g.H.Stores.stores l.heap ≡ g.H.Stores.stores l.fn.heap ++ take l.word-index l.words;
  size : g.H.Stores.words l.heap ≡ g.H.Stores.words l.fn.heap;
  room : length l.words ≤ g.H.Stores.room l.heap + l.word-index;
  same : (first : g.row.H.Denot) → g.H.Stores.since first l.fn.heap → g.H.Stores.since first l.heap;
}
