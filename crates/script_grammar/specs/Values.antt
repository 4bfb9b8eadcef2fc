-- The numbers that words spell, and the values that lines store (this project's own).
use Rattle.std.specs.Prelude.{◌≡◌, ℕ, ◌-◌, ◌%◌, ◌^◌, ◌<◌, ◌≤◌, nat_lt, nat_le, Bool, true, ◌&&◌, ◌||◌, List, ◌∷◌, ◌++◌, length, codes, Some}
use Rattle.std.specs.List.{list_all}
use Rattle.std.specs.Str.Parse.{digits_value}
use Rattle.mrpc_table.specs.Lines.{number_of}

-- decimal digits without a leading zero, of any length
abbrev pub IsNumber : List ℕ → ℕ → Type 0
IsNumber word n = number_of word ≡ Some n

-- a value, as a line writes it: decimal digits, `-` and decimal digits, or `0x` and hexadecimal digits
pub data WrittenValue : Type 0 where
  plain : (n : ℕ) → WrittenValue
  negative : (n : ℕ) → WrittenValue
  hexadecimal : (digits : List ℕ) → WrittenValue

-- 0 to 9 and a to f
abbrev pub is_hexadecimal : ℕ → Bool
is_hexadecimal c = (nat_le 48 c && nat_le c 57) || (nat_le 97 c && nat_le c 102)

-- 1 to 16 digits
abbrev pub are_hexadecimal : List ℕ → Bool
are_hexadecimal digits = (nat_lt 0 (length digits) && nat_le (length digits) 16) && list_all is_hexadecimal digits

abbrev pub IsValue : List ℕ → WrittenValue → Type 0
IsValue word (plain n) = IsNumber word n
IsValue word (negative n) = (digits : List ℕ) × (word ≡ 45 ∷ digits) × IsNumber digits n
IsValue word (hexadecimal digits) = (word ≡ codes "0x" ++ digits) × (are_hexadecimal digits ≡ true)

-- it fits 64 bits; a negative number is at least -2^63
abbrev pub IsInRange : WrittenValue → Type 0
IsInRange (plain n) = n < 2 ^ 64
IsInRange (negative n) = n ≤ 2 ^ 63
IsInRange (hexadecimal digits) = Unit {0}

-- the 64 bits that are stored: two's complement for a negative number
abbrev pub stored_word : WrittenValue → ℕ
stored_word (plain n) = n
stored_word (negative n) = (2 ^ 64 - n) % 2 ^ 64
stored_word (hexadecimal digits) = digits_value 16 digits
