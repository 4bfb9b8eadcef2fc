use Rattle.std.proofs.Common.{take}
use Rattle.std.specs.List.{flat_map}
use Rattle.run_report.specs.Counting.{counted_in}
use Rattle.run_report.specs.Counts.{HaveCounted}
use Rattle.run_report.proofs.counting.add_up.Given as goal

abbrev pub invariant-loop-place : goal.invariant-loop-place
invariant-loop-place l = HaveCounted (flat_map counted_in (take l.place l.shown)) l.all
