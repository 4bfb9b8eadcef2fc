-- Sizes as numbers of 64 bits.
use Rattle.std.specs.Prelude.{ℕ, ◌-◌, ◌^◌, min}

-- a size, or the largest 64-bit number if the size is larger
abbrev pub capped : ℕ → ℕ
capped n = min n (2 ^ 64 - 1)
