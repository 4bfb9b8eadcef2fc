-- The code's own: what the lines of an operator mean so far, as they are read one by one.
use Rattle.std.specs.Prelude.{◌≡◌, ◌⊎◌, ℕ, ◌≤◌, List, [], ◌∷◌, Contains, Option}
use Rattle.scenario.specs.Lines.{HasDecreasingCount, count_in}
use Rattle.scenario.specs.Reasons.{IsSoFar, reason_of_line}
use Rattle.scenario.specs.declared.fault.ScenarioReason.{ScenarioReason}
use Rattle.scenario.specs.declared.fault.ScenarioReason.TheVariants.{Number}
use Rattle.scenario_lines.specs.StepLines.{IsStepTextFault, IsStepTextMeaning}
use Rattle.scenario_lines.specs.declared.reason.LineReason.{LineReason}
use Rattle.scenario_lines.specs.declared.step.StepText.{StepText}

-- what the lines without a fault mean, in order
abbrev pub AreStepMeanings : List (List ℕ) → List StepText → Type 0
AreStepMeanings [] told = told ≡ []
AreStepMeanings (line ∷ lines) told =
    ((step : StepText) × (rest : List StepText) × IsStepTextMeaning line step × (told ≡ step ∷ rest)
    × AreStepMeanings lines rest)
    ⊎ (((reason : LineReason) × IsStepTextFault line reason) × AreStepMeanings lines told)

-- one of the lines has a fault with this reason, or their counts decrease
abbrev pub HasLineFault : List (List ℕ) → ScenarioReason → Type 0
HasLineFault lines q = (line : List ℕ) × (why : LineReason) × Contains lines line × IsStepTextFault line why
    × (q ≡ reason_of_line why)

abbrev pub HasLinesFault : List (List ℕ) → ScenarioReason → Type 0
HasLinesFault lines q = HasLineFault lines q ⊎ (HasDecreasingCount lines × (q ≡ Number))

-- one of the lines has this count
abbrev pub HasLineCount : List (List ℕ) → ℕ → Type 0
HasLineCount lines count = (line : List ℕ) × (step : StepText) × Contains lines line × IsStepTextMeaning line step
    × (count_in step ≡ count)

-- lines were read: what they mean, the largest count among them, and the first reason of their faults
pub record HasReadLines (lines : List (List ℕ)) (told : List StepText) (most : ℕ) (first : Option ScenarioReason)
    : Type 0 where
  pub tell : AreStepMeanings lines told
  pub above : (count : ℕ) → HasLineCount lines count → count ≤ most
  pub reached : (most ≡ 0) ⊎ HasLineCount lines most
  pub reason : IsSoFar (HasLinesFault lines) first
