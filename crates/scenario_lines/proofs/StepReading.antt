-- A line of an operator by the steps of its reading: its form, its words.
use Rattle.std.proofs.Common.{◌≡◌, ℕ, ◌≤◌, List, Some, sym, ◌∙◌, subst}
use Rattle.mrpc_table.specs.Lines.{words_of}
use Rattle.scenario_lines.specs.Forms.{step_sorts}
use Rattle.scenario_lines.specs.Lines.{IsWordsFault}
use Rattle.scenario_lines.specs.Reasons.{IsFirstLineReason, line_reason_rank}
use Rattle.scenario_lines.specs.StepLines.{IsStepTextFault, in_words, no_form, step_form_of}
use Rattle.scenario_lines.specs.declared.form.StepForm.{StepForm}
use Rattle.scenario_lines.specs.declared.reason.LineReason.{LineReason}

same : (f g : StepForm) → Some g ≡ Some f → g ≡ f
same f g e = cc

pub words_first : (line : List ℕ) (f : StepForm) (reason : LineReason) → step_form_of line ≡ Some f
    → IsFirstLineReason (IsWordsFault (step_sorts f) (words_of line)) reason → IsFirstLineReason (IsStepTextFault line) reason
words_first line f reason form h = record { stands = in_words f form h.stands; first = by } where
  by : (other : LineReason) → IsStepTextFault line other → line_reason_rank reason ≤ line_reason_rank other
  by other (no_form e w) = absurd cc
  by other (in_words g e w) =
      h.first other (subst (λ (x : StepForm). IsWordsFault (step_sorts x) (words_of line) other) (same f g (sym e ∙ form)) w)
