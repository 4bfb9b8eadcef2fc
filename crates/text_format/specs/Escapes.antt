-- How strings and bytes are quoted in the text format (Protocol Buffers, "Text Format Language
-- Specification", "String Values"). The choice of escape for each byte is protoc's.
use Rattle.std.specs.Prelude.{ℕ, ◌+◌, ◌/◌, ◌%◌, ◌==◌, ◌&&◌, ◌||◌, nat_le, nat_lt, Bool, List, [], ◌∷◌, ◌++◌, Option, Some, None, if◌then◌else◌}
use Rattle.std.specs.List.{flat_map}

-- the letter after a backslash: a line feed, a carriage return and a tab have one, and both quotation marks
-- and a backslash represent themselves
abbrev pub letter_of : ℕ → Option ℕ
letter_of b =
    if b == 10 then Some 110
    else if b == 13 then Some 114
    else if b == 9 then Some 116
    else if (b == 34 || b == 39) || b == 92 then Some b
    else None

-- a byte without a letter that needs no escape: printable ASCII
abbrev pub is_printable : ℕ → Bool
is_printable b = nat_le 32 b && nat_lt b 127

-- a backslash and the byte in three octal digits
abbrev pub octal : ℕ → List ℕ
octal b = 92 ∷ (48 + b / 64) ∷ (48 + b / 8 % 8) ∷ (48 + b % 8) ∷ []

abbrev pub escape_by : Option ℕ → ℕ → List ℕ
escape_by (Some letter) b = 92 ∷ letter ∷ []
escape_by None b = if is_printable b then b ∷ [] else octal b

-- the form of a byte between quotation marks
abbrev pub escape : ℕ → List ℕ
escape b = escape_by (letter_of b) b

abbrev pub quoted_string : List ℕ → List ℕ
quoted_string bytes = (34 ∷ flat_map escape bytes) ++ 34 ∷ []
