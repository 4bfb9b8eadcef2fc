use Rattle.std.proofs.Common.{◌≡◌, take}
use Rattle.std.specs.List.{flat_map}
use Rattle.run_report.specs.Counts.{methods_by}
use Rattle.run_report.proofs.counting.methods.Given as goal

abbrev pub invariant-loop-place : goal.invariant-loop-place
invariant-loop-place l = l.methods.items ≡ flat_map methods_by (take l.place l.calls.happenings)
