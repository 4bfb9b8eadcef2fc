-- The reasons of a line, given the text before it (this project's own).
use Rattle.std.specs.Prelude.{◌≡◌, ℕ, Bool, true, false, List, Some, None}
use Rattle.mrpc_table.specs.Lines.{words_of}
use Rattle.policy_declarations.specs.Blocks.{is_skipped}
use Rattle.policy_declarations.specs.Declarations.{Declared, policy_index}
use Rattle.policy_declarations.specs.DeclarationTexts.{declaration_form, declaration_form_in, HasHeadReason}
use Rattle.policy_declarations.specs.declared.declaration_form.DeclarationForm.{DeclarationForm}
use Rattle.script_grammar.specs.Forms.{word_kinds_of, form_in}
use Rattle.script_grammar.specs.Lines as words
use Rattle.script_grammar.specs.WordKinds.{Meaning}
use Rattle.script_grammar.specs.declared.form.LineForm.{LineForm}
use Rattle.script_grammar.specs.declared.fault.ScriptReason.{ScriptReason}
use Rattle.script_grammar.specs.declared.fault.ScriptReason.TheVariants.{Word, Unknown, After}
use Rattle.replay_script.specs.Lines.{HasReasonAfter}
use Rattle.replay_script.specs.Words.{IsParsedAs, policy_in, line_in}
use Rattle.replay_script.specs.declared.script.ScriptLine.{ScriptLine}

-- the state before a line: the declarations, the actions in order, and whether `close` came
pub record StateBefore : Type 0 where
  pub declared : Declared
  pub lines : List ScriptLine
  pub closed : Bool

-- the line, without its line feed, has this reason
pub data HasLineReason (loads : ℕ) (b : StateBefore) (text : List ℕ) (reason : ScriptReason) : Type 0 where
  no_form : is_skipped text ≡ false → form_in (words_of text) ≡ None → reason ≡ Word → HasLineReason loads b text reason
  -- it starts a declaration
  in_head : (f : DeclarationForm) → declaration_form_in (words_of text) ≡ Some f
      → HasHeadReason b.declared f (words_of text) reason
      → HasLineReason loads b text reason
  in_words : (f : LineForm) → form_in (words_of text) ≡ Some f → declaration_form f ≡ None
      → words.HasReason (word_kinds_of f) (words_of text) reason → HasLineReason loads b text reason
  not_declared : (f : LineForm) (meanings : List Meaning) (name : List ℕ) → IsParsedAs f text meanings
      → policy_in f meanings ≡ Some name → policy_index b.declared name ≡ None → reason ≡ Unknown
      → HasLineReason loads b text reason
  after_lines : (f : LineForm) (meanings : List Meaning) (l : ScriptLine) → IsParsedAs f text meanings
      → line_in b.declared f meanings ≡ Some l → HasReasonAfter loads b.declared.policies b.lines l reason
      → HasLineReason loads b text reason
  after_close : b.closed ≡ true → is_skipped text ≡ false → reason ≡ After → HasLineReason loads b text reason
