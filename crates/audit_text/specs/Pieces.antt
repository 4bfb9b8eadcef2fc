-- The code's own: lines by the pieces in which they are appended.
use Rattle.std.specs.Prelude.{ℕ, List, [], ◌∷◌, codes, map}
use Rattle.std.specs.Fmt.{decimal}
use Rattle.mrpc_table.specs.Text.{line}
use Rattle.graph_form.specs.Words.{graph_reason_word}
use Rattle.audit_text.specs.Lines.{WordList, hex_word}
use Rattle.call_history.specs.declared.happening.TookCopy.{TookCopy}
use Rattle.call_history.specs.declared.happening.TookCopy.TheVariants.{Copy, Malformed}

-- the line of an entry's note: the call, the name, and then numbers
abbrev pub note_line : List ℕ → ℕ → ℕ → List ℕ → List ℕ → List ℕ
note_line word conn seq name numbers = line (word ∷ decimal conn ∷ decimal seq ∷ name ∷ map decimal numbers)

-- the words of a copy, given its encoding
abbrev pub copy_words_of_encoding : List ℕ → TookCopy → WordList
copy_words_of_encoding encoding (Copy tree) = codes "copy" ∷ hex_word encoding ∷ []
copy_words_of_encoding encoding (Malformed reason place value) =
    codes "malformed" ∷ graph_reason_word reason ∷ decimal place ∷ decimal value ∷ []
