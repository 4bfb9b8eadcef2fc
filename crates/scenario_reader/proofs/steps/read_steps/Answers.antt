use Rattle.std.proofs.Common.{[], List, None, sym, subst}
use Rattle.scenario_lines.specs.declared.step.StepText.{StepText}
use Rattle.scenario_reader.specs.StepLinesReading.{HasReadLines}
use Rattle.scenario_reader.proofs.Stepping.{nothing_told}
use Rattle.scenario_reader.proofs.steps.read_steps.Goals as goal

pub loop-line-init : goal.loop-line-init
loop-line-init c = subst (λ (told : List StepText). HasReadLines [] told 0 None) (sym c.new.ensures.items) nothing_told
