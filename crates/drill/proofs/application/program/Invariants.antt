use Rattle.std.proofs.Common.{◌≡◌}
use Rattle.std.specs.List.{flat_map, range_with_len}
use Rattle.drill.specs.Drill.{client_call_lines}
use Rattle.drill.proofs.application.program.Given as goal

abbrev pub invariant-loop-before : goal.invariant-loop-before
invariant-loop-before l = l.lines ≡ flat_map (client_call_lines l.calls l.number) (range_with_len 1 l.before)
