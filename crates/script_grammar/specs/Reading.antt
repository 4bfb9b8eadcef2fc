-- The code's own: the value that the code finds a word to store; Large if it is out of range.
use Rattle.std.specs.Prelude.{ℕ, ◌-◌, ◌%◌, ◌^◌, ◌==◌, nat_le, Bool, false, ◌&&◌, if◌then◌else◌, List, [], ◌∷◌, drop, Option, Some, None, option_map}
use Rattle.std.specs.Str.Parse.{digits_value}
use Rattle.mrpc_table.specs.Lines.{number_of, in_64_bits}
use Rattle.mrpc_table.specs.declared.words.Decimal.{Decimal}
use Rattle.mrpc_table.specs.declared.words.Decimal.TheVariants.{Small, Large}
use Rattle.script_grammar.specs.Values.{are_hexadecimal}

abbrev pub negated : Decimal → Decimal
negated (Small n) = if nat_le n (2 ^ 63) then Small ((2 ^ 64 - n) % 2 ^ 64) else Large
negated Large = Large

abbrev pub hexadecimal_in : List ℕ → Option Decimal
hexadecimal_in digits = if are_hexadecimal digits then Some (Small (digits_value 16 digits)) else None

abbrev pub has_first_byte : ℕ → List ℕ → Bool
has_first_byte c [] = false
has_first_byte c (d ∷ ds) = d == c

abbrev pub value_in : List ℕ → Option Decimal
value_in [] = None
value_in (c ∷ cs) =
    if c == 45 then option_map negated (option_map in_64_bits (number_of cs))
    else if c == 48 && has_first_byte 120 cs then hexadecimal_in (drop 1 cs)
    else option_map in_64_bits (number_of (c ∷ cs))
