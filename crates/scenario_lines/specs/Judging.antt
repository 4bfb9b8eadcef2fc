-- The code's own: whether a word of a line is required to be a name, and isn't one.
use Rattle.std.specs.Prelude.{ℕ, Bool, false, ◌&&◌, ◌||◌, not, if◌then◌else◌, List, [], ◌∷◌}
use Rattle.mrpc_table.specs.Names.{is_name_form, is_short}
use Rattle.script_grammar.specs.declared.fault.ScriptReason.{ScriptReason}
use Rattle.script_grammar.specs.declared.fault.ScriptReason.TheVariants as script
use Rattle.script_grammar.specs.declared.word_kind.WordKind.{WordKind}
use Rattle.script_grammar.specs.declared.word_kind.WordKind.TheVariants as sort
use Rattle.scenario_lines.specs.declared.reason.LineReason.{LineReason}
use Rattle.scenario_lines.specs.declared.reason.LineReason.TheVariants.{Number, Name, Word}

-- the word is required to be a name, and isn't one
abbrev pub is_required_name_invalid : WordKind → List ℕ → Bool
is_required_name_invalid sort.Name word = not (is_name_form word && is_short word)
is_required_name_invalid _ word = false

-- one of the words is such, given as many sorts, or an earlier one was
abbrev pub lacks_name : Bool → List WordKind → List (List ℕ) → Bool
lacks_name found [] [] = found
lacks_name found (s ∷ sorts) (w ∷ words) = lacks_name (found || is_required_name_invalid s w) sorts words
lacks_name found _ _ = false

-- which reason comes first here, from the first one by the order of scripts
abbrev pub ordered : ScriptReason → Bool → LineReason
ordered script.Number lacks = Number
ordered _ lacks = if lacks then Name else Word
