use Rattle.std.proofs.Common.{◌≡◌, ◌<◌, ◌+◌, ◌++◌, All, length}
use Rattle.mrpc_base.specs.Heap.{stores_of}
use Rattle.mrpc_base.proofs.plain_words.make_all.Given as goal

abbrev pub invariant-loop-place : goal.invariant-loop-place
invariant-loop-place l = record {
  stores : l.words.stores ++ stores_of l.races.races ≡ l.initial.words.stores ++ stores_of l.initial.races.races;
  size : l.words.size ≡ l.initial.words.size;
  listed : l.races.listed ≡ l.initial.races.listed;
  counted : length l.words.stores + length l.races.races ≡ length l.initial.words.stores + length l.initial.races.races;
  in_heap : All (λ race. race.place < l.words.size) l.races.races;
}

abbrev pub decreases-loop-place : goal.decreases-loop-place
decreases-loop-place l = length l.races.races
