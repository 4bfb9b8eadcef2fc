use Rattle.std.proofs.Common.{◌≡◌, ℕ, ◌<◌, ◌≤◌, ◌⊎◌, get_or}
use Rattle.std.specs.List.{Any}
use Rattle.receive_heap.specs.declared.holes.PlaceRange.{PlaceRange}
use Rattle.receive_heap.proofs.holes.largest.Given as goal

abbrev pub invariant-loop-hole : goal.invariant-loop-hole
invariant-loop-hole l =
    ((k : ℕ) (d : PlaceRange) → k < l.hole-index → (get_or l.holes k d).words ≤ l.most)
    × (Any (λ hole. hole.words ≡ l.most) l.holes ⊎ (l.most ≡ 0))
