-- The content of a line of a redacting policy, by its form alone (this project's own format).
use Rattle.std.specs.Prelude.{ℕ, ◌&&◌, if◌then◌else◌, List, [], ◌∷◌, codes, Option, None, option_map, option_and_then}
use Rattle.std.specs.Str.{bytes_eq}
use Rattle.mrpc_table.specs.Lines.{words_of}
use Rattle.mrpc_table.specs.declared.call.CallKind.{CallKind}
use Rattle.mrpc_table.specs.declared.call.CallKind.TheVariants.{Request, Reply}
use Rattle.mrpc_table.specs.declared.words.Decimal.{Decimal}
use Rattle.mrpc_table.specs.PathWords.{decimal_of, path_of}
use Rattle.policy_redact.specs.declared.line.ClearLine.{ClearLine}

abbrev pub with_path : Decimal → CallKind → List ℕ → Option ClearLine
with_path index sort word = option_map (λ p. record { index = index; sort = sort; path = p }) (path_of word)

-- after the index: `[reply] PATH`
abbrev pub after_index : Decimal → List (List ℕ) → Option ClearLine
after_index index (path ∷ []) = with_path index Request path
after_index index (word ∷ path ∷ []) = if bytes_eq word (codes "reply") then with_path index Reply path else None
after_index index _ = None

-- `clear method INDEX [reply] PATH`
abbrev pub clear_line_of_words : List (List ℕ) → Option ClearLine
clear_line_of_words (first ∷ second ∷ index ∷ words) =
    if bytes_eq first (codes "clear") && bytes_eq second (codes "method")
    then option_and_then (λ n. after_index n words) (decimal_of index)
    else None
clear_line_of_words _ = None

-- the parsed line; none if the line is malformed
unfoldable pub clear_line_of : List ℕ → Option ClearLine
clear_line_of line = clear_line_of_words (words_of line)
