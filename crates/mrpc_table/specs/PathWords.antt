-- The words that spell a path (this project's own format).
use Rattle.std.specs.Prelude.{ℕ, ◌==◌, nat_le, if◌then◌else◌, List, [], ◌∷◌, length, Option, None, option_map, option_and_then}
use Rattle.std.specs.List.{slice_split}
use Rattle.mrpc_table.specs.Lines.{number_of, in_64_bits}
use Rattle.mrpc_table.specs.declared.words.Decimal.{Decimal}
use Rattle.mrpc_table.specs.declared.limits.TheConstants.{MAX_PATH}
use Rattle.mrpc_table.specs.declared.path.PathWord.{PathWord}

-- a number of any length
abbrev pub decimal_of : List ℕ → Option Decimal
decimal_of word = option_map in_64_bits (number_of word)

-- the path of one number
abbrev pub path_of_number : Decimal → PathWord
path_of_number n = record { way = []; last = n }

abbrev pub path_with_first : Decimal → PathWord → PathWord
path_with_first n p = record { way = n ∷ p.way; last = p.last }

abbrev pub path_of_parts : List (List ℕ) → Option PathWord
path_of_parts [] = None
path_of_parts (part ∷ []) = option_map path_of_number (decimal_of part)
path_of_parts (part ∷ other ∷ parts) =
    option_and_then (λ n. option_map (path_with_first n) (path_of_parts (other ∷ parts))) (decimal_of part)

abbrev pub path_of : List ℕ → Option PathWord
path_of word =
    let parts = slice_split (λ c. c == 46) word in
    if nat_le (length parts) MAX_PATH then path_of_parts parts else None
