-- The code's own: a number at the start of a text.
use Rattle.std.specs.Prelude.{◌≡◌, ℕ, ◌^◌, ◌<◌, true, List, ◌++◌, Some}
use Rattle.std.specs.Char.{is_ascii_digit}
use Rattle.std.specs.List.{list_all}
use Rattle.mrpc_table.specs.Lines.{number_of}

-- the text is the digits of a 64-bit number, and then this remainder
pub record IsNumberBefore (text : List ℕ) (n : ℕ) (rest : List ℕ) : Type 0 where
  pub digits : List ℕ
  pub parts : text ≡ digits ++ rest
  pub are_digits : list_all is_ascii_digit digits ≡ true
  pub spells : number_of digits ≡ Some n
  pub small : n < 2 ^ 64
