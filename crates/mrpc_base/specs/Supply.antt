-- The code's own: bytes that are given in order, a piece at a time.
use Rattle.std.specs.Prelude.{ℕ, List}

-- the bytes that were given, and those that remain
pub record SupplyState : Type 0 where
  pub given : List ℕ
  pub left : List ℕ
