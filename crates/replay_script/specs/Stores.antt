-- The code's own: the values of lines with short numbers.
use Rattle.std.specs.Prelude.{◌≡◌, ℕ, ◌^◌, ◌<◌, true, List, [], ◌∷◌, ◌++◌}
use Rattle.std.specs.Char.{is_ascii_digit}
use Rattle.std.specs.List.{list_all}
use Rattle.script_grammar.specs.WordKinds.{Meaning, word, number, unbounded}
use Rattle.script_grammar.specs.Values.{IsNumber}
use Rattle.script_grammar.specs.declared.keyword.Keyword.TheVariants as keyword
use Rattle.script_grammar.specs.declared.form.LineForm.{LineForm}
use Rattle.replay_script.specs.Texts.{IsLineBefore}
use Rattle.replay_script.specs.Words.{IsParsedAs}
use Rattle.replay_script.specs.declared.short_lines.SubmitLine.{SubmitLine}
use Rattle.replay_script.specs.declared.short_lines.TurnLine.{TurnLine}
use Rattle.replay_script.specs.declared.store_line.StoreLine.{StoreLine}

abbrev pub store_words : StoreLine → List Meaning
store_words s = word keyword.Store ∷ number s.conn ∷ unbounded s.place ∷ number s.value ∷ []

-- the values of a request's line
abbrev pub submit_words : SubmitLine → List Meaning
submit_words s = word keyword.Submit ∷ number s.conn ∷ number s.method ∷ number s.addr ∷ []

abbrev pub turn_words : TurnLine → List Meaning
turn_words t = word keyword.Turn ∷ number t.conn ∷ unbounded t.at ∷ []

abbrev pub drain_words : (conn : ℕ) → List Meaning
drain_words conn = word keyword.Drain ∷ number conn ∷ []

-- the text is the digits of a 64-bit number, and then this remainder
pub record IsNumberBefore (text : List ℕ) (n : ℕ) (rest : List ℕ) : Type 0 where
  pub digits : List ℕ
  pub parts : text ≡ digits ++ rest
  pub are_digits : list_all is_ascii_digit digits ≡ true
  pub spells : IsNumber digits n
  pub small : n < 2 ^ 64

-- the first line of a text has these values, and this is the remainder
pub record IsFirstLineOf (f : LineForm) (text : List ℕ) (meanings : List Meaning) (rest : List ℕ) : Type 0 where
  pub line : List ℕ
  pub before : IsLineBefore text line rest
  pub said : IsParsedAs f line meanings
