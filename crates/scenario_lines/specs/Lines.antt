-- What the lines of programs mean, and their faults (this project's own).
use Rattle.std.specs.Prelude.{◌≡◌, ℕ, List, [], ◌∷◌, Option, Some, None}
use Rattle.mrpc_table.specs.Lines.{words_of}
use Rattle.mrpc_table.specs.declared.words.Decimal.{Decimal}
use Rattle.mrpc_table.specs.declared.words.Decimal.TheVariants.{Small, Large}
use Rattle.app_program.specs.Programs.{IsStorePlace}
use Rattle.app_program.specs.declared.program.ProgramLine.{ProgramLine}
use Rattle.app_program.specs.declared.program.ProgramLine.TheVariants as program
use Rattle.script_grammar.specs.Lines.{HaveMeanings, HasReason}
use Rattle.script_grammar.specs.WordKinds.{Meaning, number_at, unbounded_at}
use Rattle.script_grammar.specs.declared.fault.ScriptReason.{ScriptReason}
use Rattle.script_grammar.specs.declared.word_kind.WordKind.{WordKind}
use Rattle.scenario_lines.specs.Forms.{line_form, line_sorts}
use Rattle.scenario_lines.specs.Reasons.{line_reason_of_words}
use Rattle.scenario_lines.specs.declared.form.ProgramForm.{ProgramForm}
use Rattle.scenario_lines.specs.declared.form.ProgramForm.TheVariants as line
use Rattle.scenario_lines.specs.declared.form.ProgramRole.{ProgramRole}
use Rattle.scenario_lines.specs.declared.reason.LineReason.{LineReason}
use Rattle.scenario_lines.specs.declared.reason.LineReason.TheVariants.{Word, Place}

-- ---- words

-- the empty word if no word is left; each line has a first word
abbrev pub first_word_of : List (List ℕ) → List ℕ
first_word_of [] = []
first_word_of (w ∷ words) = w

abbrev pub words_after_first : List (List ℕ) → List (List ℕ)
words_after_first [] = []
words_after_first (w ∷ words) = words

-- these words have a fault with this reason
abbrev pub IsWordsFault : List WordKind → List (List ℕ) → LineReason → Type 0
IsWordsFault sorts words reason = (why : ScriptReason) × HasReason sorts words why × (line_reason_of_words why ≡ Some reason)

-- ---- lines

-- the form of a line of a role
abbrev pub line_form_of : ProgramRole → List ℕ → Option ProgramForm
line_form_of r text = line_form r (first_word_of (words_of text))

-- a line of a role has this form, and its words mean this
pub record IsLine (r : ProgramRole) (text : List ℕ) (f : ProgramForm) (ms : List Meaning) : Type 0 where
  pub form : line_form_of r text ≡ Some f
  pub said : HaveMeanings (line_sorts f) (words_after_first (words_of text)) ms

-- the place in a line, if it has one
abbrev pub line_place : ProgramForm → List Meaning → Option Decimal
line_place line.Store ms = Some (unbounded_at ms 0)
line_place line.Spin ms = Some (unbounded_at ms 1)
line_place _ ms = None

-- the place is outside a heap with this many words: word 0 is reserved, and the heap ends
abbrev pub IsNoPlace : ℕ → Option Decimal → Type 0
IsNoPlace heap None = ⊥
IsNoPlace heap (Some (Small place)) = IsStorePlace heap place → ⊥
IsNoPlace heap (Some Large) = Unit {0}

-- the words of a form mean this line, for a heap with this many words
abbrev pub IsFormMeaning : ℕ → ProgramForm → List Meaning → ProgramLine → Type 0
IsFormMeaning heap line.Store ms (program.Store place value) =
    (unbounded_at ms 0 ≡ Small place) × IsStorePlace heap place × (value ≡ number_at ms 1)
IsFormMeaning heap line.Spin ms (program.Spin times place first second) =
    (times ≡ number_at ms 0) × (unbounded_at ms 1 ≡ Small place) × IsStorePlace heap place × (first ≡ number_at ms 2)
    × (second ≡ number_at ms 3)
IsFormMeaning heap line.Submit ms (program.Submit method addr) = (method ≡ number_at ms 0) × (addr ≡ number_at ms 1)
IsFormMeaning heap line.Reclaim ms (program.Reclaim block) = block ≡ number_at ms 0
IsFormMeaning heap line.Reply ms (program.Reply addr) = addr ≡ number_at ms 0
IsFormMeaning heap _ ms _ = ⊥

-- a line of a role means this, for a heap with this many words
pub record IsProgramLineMeaning (r : ProgramRole) (heap : ℕ) (text : List ℕ) (said : ProgramLine) : Type 0 where
  pub form : ProgramForm
  pub meanings : List Meaning
  pub is_line : IsLine r text form meanings
  pub says : IsFormMeaning heap form meanings said

-- a line of a role has a fault with this reason, for a heap with this many words
pub data IsProgramLineFault (r : ProgramRole) (heap : ℕ) (text : List ℕ) (reason : LineReason) : Type 0 where
  no_form : line_form_of r text ≡ None → reason ≡ Word → IsProgramLineFault r heap text reason
  in_words : (f : ProgramForm) → line_form_of r text ≡ Some f → IsWordsFault (line_sorts f) (words_after_first (words_of text)) reason
      → IsProgramLineFault r heap text reason
  no_place : (f : ProgramForm) (ms : List Meaning) → IsLine r text f ms → IsNoPlace heap (line_place f ms) → reason ≡ Place
      → IsProgramLineFault r heap text reason
