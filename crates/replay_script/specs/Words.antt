-- What the words of a line mean after declarations (this project's own).
use Rattle.std.specs.Prelude.{◌≡◌, ℕ, List, Option, Some, None, option_map}
use Rattle.mrpc_table.specs.Lines.{magnitude, words_of}
use Rattle.policy_declarations.specs.Declarations.{Declared, policy_index}
use Rattle.script_grammar.specs.Forms.{word_kinds_of, form_in}
use Rattle.script_grammar.specs.Lines.{HaveMeanings}
use Rattle.script_grammar.specs.WordKinds.{Meaning, number_at, unbounded_at, name_at}
use Rattle.script_grammar.specs.declared.form.LineForm.{LineForm}
use Rattle.script_grammar.specs.declared.form.LineForm.TheVariants as form
use Rattle.replay_script.specs.declared.script.ScriptLine.{ScriptLine}
use Rattle.replay_script.specs.declared.script.ScriptLine.TheVariants as line

-- the line has this form, and its words have these values
pub record IsParsedAs (f : LineForm) (text : List ℕ) (meanings : List Meaning) : Type 0 where
  pub has_form : form_in (words_of text) ≡ Some f
  pub said : HaveMeanings (word_kinds_of f) (words_of text) meanings

-- the name of the declared policy in an operator's line
abbrev pub policy_in : LineForm → List Meaning → Option (List ℕ)
policy_in form.Attach meanings = Some (name_at meanings 4)
policy_in form.Upgrade meanings = Some (name_at meanings 3)
policy_in _ meanings = None

-- The line that words mean; none if the policy that it names isn't declared, and none for declarations and `close`.
-- Words are counted from 0. Places and positions above 64 bits are all equal, since no heap and no chain has them.
abbrev pub line_in : Declared → LineForm → List Meaning → Option ScriptLine
line_in d form.Conn m = Some (line.Conn (number_at m 1) (number_at m 2))
line_in d form.Store m = Some (line.Store (number_at m 1) (magnitude (unbounded_at m 2)) (number_at m 3))
line_in d form.Race m =
    Some (line.Race (number_at m 1) (number_at m 2) (magnitude (unbounded_at m 3)) (number_at m 4))
line_in d form.Submit m = Some (line.Submit (number_at m 1) (number_at m 2) 0 (number_at m 3))
line_in d form.Reply m = Some (line.Submit (number_at m 1) (number_at m 2) (number_at m 4) (number_at m 3))
line_in d form.Attach m =
    option_map (line.Attach (number_at m 1) (magnitude (unbounded_at m 2)) (name_at m 3)) (policy_index d (name_at m 4))
line_in d form.Detach m = Some (line.Detach (number_at m 1) (name_at m 2))
line_in d form.Upgrade m = option_map (line.Upgrade (number_at m 1) (name_at m 2)) (policy_index d (name_at m 3))
line_in d form.Moment m = Some (line.Moment (number_at m 1) (number_at m 2))
line_in d form.Turn m = Some (line.Turn (number_at m 1) (magnitude (unbounded_at m 2)))
line_in d form.Send m = Some (line.Send (number_at m 1))
line_in d form.Drain m = Some (line.Drain (number_at m 1))
line_in d _ m = None
