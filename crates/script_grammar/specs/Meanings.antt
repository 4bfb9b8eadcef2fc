-- The meanings of a line's words (this project's own).
use Rattle.std.specs.Prelude.{List, map}
use Rattle.script_grammar.specs.WordKinds.{Meaning, word, number, unbounded, name}
use Rattle.script_grammar.specs.declared.word_kind.WordValue.{WordValue}
use Rattle.script_grammar.specs.declared.word_kind.WordValue.TheVariants as said

abbrev pub meaning_of : WordValue → Meaning
meaning_of (said.Word k) = word k
meaning_of (said.Number n) = number n
meaning_of (said.Unbounded d) = unbounded d
meaning_of (said.Name x) = name x.now

abbrev pub meanings_of : List WordValue → List Meaning
meanings_of words = map meaning_of words
