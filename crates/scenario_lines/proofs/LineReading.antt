-- A line by the steps of its reading: its form, its words, its place.
use Rattle.std.proofs.Common.{◌≡◌, ◌≢◌, ℕ, ◌≤◌, List, [], length, Some, refl, sym, ap, ◌∙◌, subst, arith}
use Rattle.mrpc_table.specs.Lines.{words_of}
use Rattle.script_grammar.specs.Lines.{HaveMeanings, HasReason, in_word, miscounted}
use Rattle.script_grammar.specs.WordKinds.{Meaning}
use Rattle.script_grammar.specs.declared.fault.ScriptReason.{ScriptReason}
use Rattle.script_grammar.specs.declared.fault.ScriptReason.TheVariants as script
use Rattle.script_grammar.specs.declared.word_kind.WordKind.{WordKind}
use Rattle.scenario_lines.specs.Forms.{line_sorts}
use Rattle.scenario_lines.specs.Lines.{IsLine, IsNoPlace, IsProgramLineFault, IsWordsFault, words_after_first, line_form_of, in_words, no_form, no_place, line_place}
use Rattle.scenario_lines.specs.Reasons.{IsFirstLineReason, line_reason_of_words, line_reason_rank}
use Rattle.scenario_lines.specs.declared.form.ProgramForm.{ProgramForm}
use Rattle.scenario_lines.specs.declared.form.ProgramForm.TheVariants as line
use Rattle.scenario_lines.specs.declared.form.ProgramRole.{ProgramRole}
use Rattle.scenario_lines.specs.declared.reason.LineReason.{LineReason}
use Rattle.scenario_lines.specs.declared.reason.LineReason.TheVariants.{Word, Place}

-- the law of words that a reader uses
abbrev pub NotBoth : Type 0
NotBoth = (sorts : List WordKind) (words : List (List ℕ)) (ms : List Meaning) (r : ScriptReason)
    → HaveMeanings sorts words ms → HasReason sorts words r → ⊥

at_least : (q r : LineReason) (n : ℕ) → q ≡ r → n ≤ line_reason_rank r → n ≤ line_reason_rank q
at_least q r n e h = subst (λ (x : LineReason). n ≤ line_reason_rank x) (sym e) h

-- ---- words

some_is : {A : Type 0} (a b : A) → Some a ≡ Some b → a ≡ b
some_is a b e = cc

pub same_form : (r : ProgramRole) (text : List ℕ) (f g : ProgramForm) → line_form_of r text ≡ Some f → line_form_of r text ≡ Some g → g ≡ f
same_form r text f g a b = some_is g f (sym b ∙ a)

pub words_first : NotBoth → (r : ProgramRole) (heap : ℕ) (text : List ℕ) (f : ProgramForm) (reason : LineReason)
    → line_form_of r text ≡ Some f → IsFirstLineReason (IsWordsFault (line_sorts f) (words_after_first (words_of text))) reason
    → IsFirstLineReason (IsProgramLineFault r heap text) reason
words_first one r heap text f reason form h = record { stands = in_words f form h.stands; first = by } where
  by : (other : LineReason) → IsProgramLineFault r heap text other → line_reason_rank reason ≤ line_reason_rank other
  by other (no_form e w) = absurd cc
  by other (in_words g e w) =
      h.first other (subst (λ (x : ProgramForm). IsWordsFault (line_sorts x) (words_after_first (words_of text)) other) (same_form r text f g form e) w)
  by other (no_place g ms is bad w) =
      absurd (one (line_sorts f) (words_after_first (words_of text)) ms h.stands.0
      (subst (λ (x : ProgramForm). HaveMeanings (line_sorts x) (words_after_first (words_of text)) ms) (same_form r text f g form is.form) is.said)
      h.stands.1)

-- a line of one word has none after it, and each form has some
some_sorts : (f : ProgramForm) → length (line_sorts f) ≢ 0
some_sorts line.Store e = absurd (omega (arith, e))
some_sorts line.Spin e = absurd (omega (arith, e))
some_sorts line.Submit e = absurd (omega (arith, e))
some_sorts line.Reclaim e = absurd (omega (arith, e))
some_sorts line.Reply e = absurd (omega (arith, e))

word_is : (other : LineReason) (why : ScriptReason) → line_reason_of_words why ≡ Some other → why ≡ script.Word → 2 ≤ line_reason_rank other
word_is other why e is =
    at_least other Word 2 (sym (some_is Word other (ap line_reason_of_words (sym is) ∙ e))) (omega arith)

nothing_first : (f : ProgramForm) → IsFirstLineReason (IsWordsFault (line_sorts f) []) Word
nothing_first f = record {
  stands = (script.Word, miscounted (λ e. some_sorts f (sym e)) refl, refl);
  first = λ other s. by other s.0 s.2 s.1;
} where
  by : (other : LineReason) (why : ScriptReason) → line_reason_of_words why ≡ Some other → HasReason (line_sorts f) [] why → 2 ≤ line_reason_rank other
  by other why e (miscounted count is) = word_is other why e is
  by other why e (in_word count h) = absurd (some_sorts f (sym count))

pub alone_first : NotBoth → (r : ProgramRole) (heap : ℕ) (text : List ℕ) (f : ProgramForm)
    → line_form_of r text ≡ Some f → words_after_first (words_of text) ≡ [] → IsFirstLineReason (IsProgramLineFault r heap text) Word
alone_first one r heap text f form alone =
    words_first one r heap text f Word form
    (subst (λ (ws : List (List ℕ)). IsFirstLineReason (IsWordsFault (line_sorts f) ws) Word) (sym alone) (nothing_first f))

-- ---- places

pub place_first : NotBoth → (r : ProgramRole) (heap : ℕ) (text : List ℕ) (f : ProgramForm) (ms : List Meaning)
    → IsLine r text f ms → IsNoPlace heap (line_place f ms) → IsFirstLineReason (IsProgramLineFault r heap text) Place
place_first one r heap text f ms is bad = record { stands = no_place f ms is bad refl; first = by } where
  by : (other : LineReason) → IsProgramLineFault r heap text other → 3 ≤ line_reason_rank other
  by other (no_form e w) = let form = is.form in absurd cc
  by other (in_words g e w) =
      absurd (one (line_sorts g) (words_after_first (words_of text)) ms w.0
      (subst (λ (x : ProgramForm). HaveMeanings (line_sorts x) (words_after_first (words_of text)) ms) (same_form r text g f e is.form) is.said) w.1)
  by other (no_place g ns again worse w) = at_least other Place 3 w (omega arith)
