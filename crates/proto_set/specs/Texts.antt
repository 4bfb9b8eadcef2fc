-- Offsets in concatenated texts.
use Rattle.std.specs.Prelude.{ℕ, ◌+◌, ◌<◌, ◌≤◌, List, take, sum}

-- the offset where a text starts, given the sizes of the texts
abbrev pub base_at : List ℕ → ℕ → ℕ
base_at sizes k = sum (take k sizes)

-- an offset lies in the text with index k
pub record IsInTextOf (sizes : List ℕ) (k place : ℕ) : Type 0 where
  pub from : base_at sizes k ≤ place
  pub below : place < base_at sizes (k + 1)
