-- What the lines of operators mean, and their faults (this project's own).
use Rattle.std.specs.Prelude.{◌≡◌, ℕ, List, Option, Some, None}
use Rattle.mrpc_table.specs.Lines.{words_of}
use Rattle.script_grammar.specs.Lines.{HaveMeanings}
use Rattle.script_grammar.specs.WordKinds.{Meaning, name_at, number_at, unbounded_at}
use Rattle.scenario_lines.specs.Forms.{step_form, step_sorts}
use Rattle.scenario_lines.specs.Lines.{IsWordsFault, words_after_first, first_word_of}
use Rattle.scenario_lines.specs.declared.form.StepForm.{StepForm}
use Rattle.scenario_lines.specs.declared.form.StepForm.TheVariants as step
use Rattle.scenario_lines.specs.declared.reason.LineReason.{LineReason}
use Rattle.scenario_lines.specs.declared.reason.LineReason.TheVariants.{Word}
use Rattle.scenario_lines.specs.declared.step.StepText.{StepText}
use Rattle.scenario_lines.specs.declared.step.StepText.TheVariants as text

-- the form of a line, by its second word
abbrev pub step_form_of : List ℕ → Option StepForm
step_form_of line = step_form (first_word_of (words_after_first (words_of line)))

-- the words of a form mean this step
abbrev pub IsStepFormMeaning : StepForm → List Meaning → StepText → Type 0
IsStepFormMeaning step.Attach ms (text.Attach count at name policy) =
    (count ≡ number_at ms 0) × (at ≡ unbounded_at ms 2) × (name.now ≡ name_at ms 3) × (policy.now ≡ name_at ms 4)
IsStepFormMeaning step.Detach ms (text.Detach count name) = (count ≡ number_at ms 0) × (name.now ≡ name_at ms 2)
IsStepFormMeaning step.Upgrade ms (text.Upgrade count name policy) =
    (count ≡ number_at ms 0) × (name.now ≡ name_at ms 2) × (policy.now ≡ name_at ms 3)
IsStepFormMeaning _ ms _ = ⊥

-- a line means this
pub record IsStepTextMeaning (line : List ℕ) (told : StepText) : Type 0 where
  pub form : StepForm
  pub meanings : List Meaning
  pub is_form : step_form_of line ≡ Some form
  pub said : HaveMeanings (step_sorts form) (words_of line) meanings
  pub tells : IsStepFormMeaning form meanings told

-- a line has a fault with this reason
pub data IsStepTextFault (line : List ℕ) (reason : LineReason) : Type 0 where
  no_form : step_form_of line ≡ None → reason ≡ Word → IsStepTextFault line reason
  in_words : (f : StepForm) → step_form_of line ≡ Some f → IsWordsFault (step_sorts f) (words_of line) reason
      → IsStepTextFault line reason
