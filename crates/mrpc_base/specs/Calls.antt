-- The code's own: the calls of a device in memory, and those that are to fail.
use Rattle.std.specs.Prelude.{ℕ, List}

-- how many calls a device in memory had and how many failed, and the numbers of the calls that are to fail, counted
-- from 1
pub record CallCount : Type 0 where
  pub failing : List ℕ
  pub calls : ℕ
  pub failures : ℕ
