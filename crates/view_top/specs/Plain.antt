-- Bytes that a terminal prints, and an SVG may have.
use Rattle.std.specs.Prelude.{◌≡◌, ◌==◌, ◌&&◌, ◌||◌, nat_le, nat_lt, ℕ, Bool, true, List}
use Rattle.std.specs.List.{list_all}

-- printable ASCII, or a line feed
abbrev pub is_plain : ℕ → Bool
is_plain byte = (nat_le 32 byte && nat_lt byte 127) || byte == 10

abbrev pub IsPlain : List ℕ → Type 0
IsPlain bytes = list_all is_plain bytes ≡ true
