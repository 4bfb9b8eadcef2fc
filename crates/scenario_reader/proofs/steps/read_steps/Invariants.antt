use Rattle.std.proofs.Common.{map, take}
use Rattle.scenario_reader.specs.StepLinesReading.{HasReadLines}
use Rattle.scenario_reader.proofs.steps.read_steps.Given as goal

abbrev pub invariant-loop-line : goal.invariant-loop-line
invariant-loop-line l = HasReadLines (map (λ t. t.now) (take l.line-index l.lines)) l.steps.told.items l.steps.most l.steps.first
