-- What the lines of programs and operators mean together (this project's own).
use Rattle.std.specs.Prelude.{◌≡◌, ℕ, ◌<◌, Bool, false, true, List, ◌∷◌, ◌++◌, count_by, Option, Some, None}
use Rattle.scenario_lines.specs.Lines.{line_form_of}
use Rattle.scenario_lines.specs.StepLines.{IsStepTextMeaning}
use Rattle.scenario_lines.specs.declared.form.ProgramForm.{ProgramForm}
use Rattle.scenario_lines.specs.declared.form.ProgramForm.TheVariants as line
use Rattle.scenario_lines.specs.declared.form.ProgramRole.{ProgramRole}
use Rattle.scenario_lines.specs.declared.form.ProgramRole.TheVariants as of
use Rattle.scenario_lines.specs.declared.step.StepText.{StepText}
use Rattle.scenario_lines.specs.declared.step.StepText.TheVariants as text
use Rattle.scenario.specs.declared.entry_words.RoleWord.{RoleWord}
use Rattle.scenario.specs.declared.entry_words.RoleWord.TheVariants as role

-- ---- programs

-- the role whose program an application has; an echo has none
abbrev pub program_role : RoleWord → Option ProgramRole
program_role role.Client = Some of.Client
program_role role.Server = Some of.Server
program_role role.Echo = None

abbrev pub is_submit_form : Option ProgramForm → Bool
is_submit_form (Some line.Submit) = true
is_submit_form _ = false

-- the number of calls that a client's program submits
abbrev pub submit_line_count : List (List ℕ) → ℕ
submit_line_count lines = count_by (λ text. is_submit_form (line_form_of of.Client text)) lines

-- ---- steps

abbrev pub count_in : StepText → ℕ
count_in (text.Attach count at name policy) = count
count_in (text.Detach count name) = count
count_in (text.Upgrade count name policy) = count

-- the policy of a step, if it has one
abbrev pub step_policy : StepText → Option (List ℕ)
step_policy (text.Attach count at name policy) = Some policy.now
step_policy (text.Detach count name) = None
step_policy (text.Upgrade count name policy) = Some policy.now

-- a valid step line follows another one with a greater count; faulty lines between them don't count
pub record HasDecreasingCount (lines : List (List ℕ)) : Type 0 where
  pub front : List (List ℕ)
  pub between : List (List ℕ)
  pub back : List (List ℕ)
  pub first : List ℕ
  pub second : List ℕ
  pub there : lines ≡ front ++ first ∷ between ++ second ∷ back
  pub earlier : StepText
  pub later : StepText
  pub first_meaning : IsStepTextMeaning first earlier
  pub second_meaning : IsStepTextMeaning second later
  pub less : count_in later < count_in earlier
