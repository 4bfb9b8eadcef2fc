-- Two links that were returned to a fabric are the ends of one link, in either order.
use Rattle.std.proofs.Common.{◌≡◌, ◌<◌, ◌++◌, ℕ, zero, suc, List, [], ◌∷◌, Some, subst, map, length, arith, IsPermutation}
use Rattle.std.specs.Prelude.{slice_get}
use Rattle.std.specs.List.{swap}
use Rattle.std.proofs.lemmas.List.Sorted.{IsPermutation-keeps}
use Rattle.service.specs.Served.{ArePairs}
use Rattle.tests_runs.specs.Meeting.{AreTwo}

module _ {L : Type 0} (pair : L → L → Type 0) where
  pub are_more : (a : ℕ × L) (more : List (ℕ × L)) → AreTwo pair (a ∷ more) → 0 < length more
  are_more a [] two = absurd two
  are_more a (b ∷ more) two = omega arith

  -- the entry after the first one
  pub next_is_pair : (a b : ℕ × L) (more : List (ℕ × L)) → AreTwo pair (a ∷ more) → slice_get more 0 ≡ Some b
      → pair a.1 b.1
  next_is_pair a b [] two is = absurd two
  next_is_pair a b (c ∷ d ∷ more) two is = absurd two
  next_is_pair a b (c ∷ []) two is = subst (λ (x : ℕ × L). pair a.1 x.1) (let same : c ≡ b = cc is in same) two

  -- any two connections of a run are ends of one link, if it has two
  pub pairs_are_two : {A : Type 0} (entry : A → ℕ × L) (conns : List A) → ArePairs (λ s. (entry s).1) pair conns
      → length (map entry conns ++ []) ≡ 2 → AreTwo pair (map entry conns ++ [])
  pairs_are_two entry [] pairs long = absurd (omega arith)
  pairs_are_two entry (a ∷ []) pairs long = absurd pairs
  pairs_are_two entry (a ∷ b ∷ []) pairs long = pairs.0
  pairs_are_two entry (a ∷ b ∷ c ∷ more) pairs long = absurd (omega arith)

-- the relation is symmetric
module _ {L : Type 0} (pair : L → L → Type 0) (turned : (a b : L) → pair a b → pair b a) where
  are_two_swapped : (l : List (ℕ × L)) (i j : ℕ) → i < length l → j < length l → AreTwo pair l
      → AreTwo pair (swap l i j)
  are_two_swapped [] i j p q two = absurd two
  are_two_swapped (a ∷ []) i j p q two = absurd two
  are_two_swapped (a ∷ b ∷ []) zero zero p q two = two
  are_two_swapped (a ∷ b ∷ []) zero (suc zero) p q two = turned a.1 b.1 two
  are_two_swapped (a ∷ b ∷ []) (suc zero) zero p q two = turned a.1 b.1 two
  are_two_swapped (a ∷ b ∷ []) (suc zero) (suc zero) p q two = two
  are_two_swapped (a ∷ b ∷ []) zero (suc (suc j)) p q two = absurd (omega arith)
  are_two_swapped (a ∷ b ∷ []) (suc zero) (suc (suc j)) p q two = absurd (omega arith)
  are_two_swapped (a ∷ b ∷ []) (suc (suc i)) j p q two = absurd (omega arith)
  are_two_swapped (a ∷ b ∷ c ∷ more) i j p q two = absurd two

  pub are_two_moved : (xs ys : List (ℕ × L)) → IsPermutation xs ys → AreTwo pair xs → AreTwo pair ys
  are_two_moved xs ys moved two = IsPermutation-keeps xs (AreTwo pair) two are_two_swapped ys moved
