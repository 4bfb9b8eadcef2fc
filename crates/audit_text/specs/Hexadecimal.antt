-- The code's own: how hexadecimal digits are read, two per byte.
use Rattle.std.specs.Prelude.{ℕ, ◌/◌, ◌%◌, List, ◌∷◌, slice_index}
use Rattle.hex.specs.Hex.{lower_digits}

-- the digits of a byte, and then others
abbrev pub with_digits : ℕ → List ℕ → List ℕ
with_digits byte rest = slice_index lower_digits (byte / 16) ∷ slice_index lower_digits (byte % 16) ∷ rest
