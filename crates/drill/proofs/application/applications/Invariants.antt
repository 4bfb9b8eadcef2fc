use Rattle.std.proofs.Common.{◌≡◌}
use Rattle.std.specs.List.{flat_map, range_with_len}
use Rattle.drill.specs.Drill.{client_and_echo}
use Rattle.drill.proofs.application.applications.Given as goal

abbrev pub invariant-loop-before : goal.invariant-loop-before
invariant-loop-before l = l.apps ≡ flat_map (client_and_echo l.calls) (range_with_len 1 l.before)
