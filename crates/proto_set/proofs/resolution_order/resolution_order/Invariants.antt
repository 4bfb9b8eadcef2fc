use Rattle.std.proofs.Common.{◌≡◌, ◌∷◌, take}
use Rattle.proto_set.specs.Reaching.{places_in}
use Rattle.proto_set.proofs.resolution_order.resolution_order.Given as goal

-- the root and the pairs up to here
abbrev pub invariant-loop-pair : goal.invariant-loop-pair
invariant-loop-pair l = l.order ≡ 0 ∷ take l.pair-index (places_in l.pair-items)
