-- The lines of a text, the words of a line, and the numbers that words spell.
use Rattle.std.specs.Prelude.{ℕ, ◌-◌, ◌^◌, ◌≤◌, ◌==◌, nat_lt, Bool, false, not, ◌&&◌, ◌||◌, if◌then◌else◌, List, [], ◌∷◌, length, take, count_by, Option, Some, None, unwrap_or, slice_get}
use Rattle.std.specs.List.{flat_map, slice_split, list_all}
use Rattle.std.specs.Char.{is_ascii_digit}
use Rattle.std.specs.Str.Parse.{digits_value}
use Rattle.mrpc_table.specs.declared.words.Decimal.{Decimal}
use Rattle.mrpc_table.specs.declared.words.Decimal.TheVariants.{Small, Large}

-- a text is split at its line feeds: each piece but the last is a whole line, and the last is what follows the last
-- line feed
abbrev pub pieces_of : List ℕ → List (List ℕ)
pieces_of text = slice_split (λ c. c == 10) text

abbrev pub whole_lines : List ℕ → List (List ℕ)
whole_lines text = take (length (pieces_of text) - 1) (pieces_of text)

abbrev pub remainder_of : List ℕ → List ℕ
remainder_of text = unwrap_or (slice_get (pieces_of text) (length (pieces_of text) - 1)) []

-- how many line feeds a text has
abbrev pub line_count : List ℕ → ℕ
line_count text = count_by (λ c. c == 10) text

-- the words of a line, with one space between each two
abbrev pub words_of : List ℕ → List (List ℕ)
words_of line = slice_split (λ c. c == 32) line

-- decimal digits without a leading zero
abbrev pub is_decimal : List ℕ → Bool
is_decimal [] = false
is_decimal (c ∷ cs) = list_all is_ascii_digit (c ∷ cs) && (not (c == 48) || length cs == 0)

abbrev pub number_of : List ℕ → Option ℕ
number_of word = if is_decimal word then Some (digits_value 10 word) else None

-- a number of at most 64 bits, or a larger one
abbrev pub in_64_bits : ℕ → Decimal
in_64_bits n = if nat_lt n (2 ^ 64) then Small n else Large

-- the size of a number: one of more than 64 bits counts as 2^64, since all of them are above each size and outside of
-- every range
abbrev pub magnitude : Decimal → ℕ
magnitude (Small n) = n
magnitude Large = 2 ^ 64

-- a number from the least to the most, both included
abbrev pub IsIn : (least most n : ℕ) → Type 0
IsIn least most n = (least ≤ n) × (n ≤ most)

-- words, each after a space
abbrev pub after_spaces : List (List ℕ) → List ℕ
after_spaces words = flat_map (λ w. 32 ∷ w) words
