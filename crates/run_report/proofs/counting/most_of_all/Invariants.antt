use Rattle.std.proofs.Common.{◌≤◌, length, take}
use Rattle.std.specs.List.{flat_map}
use Rattle.run_report.specs.Counting.{counted_in}
use Rattle.run_report.proofs.counting.most_of_all.Given as goal

abbrev pub invariant-loop-one : goal.invariant-loop-one
invariant-loop-one l = length (flat_map counted_in (take l.one-index l.shown)) ≤ l.most
