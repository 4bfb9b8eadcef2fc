use Rattle.std.proofs.Common.{take}
use Rattle.scenario_lines.specs.Programs.{Each}
use Rattle.scenario_reader.specs.Walking.{IsStepOf}
use Rattle.scenario_reader.proofs.walk.plan_steps.Given as goal

abbrev pub invariant-loop-step : goal.invariant-loop-step
invariant-loop-step l = Each (IsStepOf l.declared) (take l.step-index l.told) l.steps
