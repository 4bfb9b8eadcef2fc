use Rattle.std.proofs.Common.{◌≡◌, ◌++◌}
use Rattle.std.specs.List.{flat_map}
use Rattle.telemetry.specs.Totals.{entry_line}
use Rattle.telemetry.proofs.totals.put_methods.Given as goal

abbrev pub invariant-loop-method : goal.invariant-loop-method
invariant-loop-method l = l.out ++ flat_map entry_line l.method-iterator ≡ l.initial.out ++ flat_map entry_line l.counts.entries
