-- The code's own: the indices of files in an order.
use Rattle.std.specs.Prelude.{◌≡◌, ℕ, List, length, Some, slice_get}

-- the index of each file in an order, for those that are in it
pub record AreOrderIndices (order : List ℕ) (count : ℕ) (places : List ℕ) : Type 0 where
  pub count_is : length places ≡ count
  pub back : (k i : ℕ) → slice_get order k ≡ Some i → slice_get places i ≡ Some k

-- the indices of some of the files
pub record AreSomeIndices (places some placed : List ℕ) : Type 0 where
  pub same : length placed ≡ length some
  pub each : (n i k : ℕ) → slice_get some n ≡ Some i → slice_get placed n ≡ Some k → slice_get places i ≡ Some k
