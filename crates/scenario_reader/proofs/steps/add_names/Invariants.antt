use Rattle.std.proofs.Common.{◌≡◌, ◌++◌, map, take}
use Rattle.std.specs.Prelude.{filter_map}
use Rattle.scenario.specs.Lines.{step_policy}
use Rattle.scenario_reader.proofs.steps.add_names.Given as goal

abbrev pub invariant-loop-step : goal.invariant-loop-step
invariant-loop-step l =
    map (λ n. n.now) l.names.items ≡ map (λ n. n.now) l.fn.names.items ++ filter_map step_policy (take l.step-index l.told)
