use Rattle.std.proofs.Common.{drop, false, map, take}
use Rattle.std.specs.List.{AllZip}
use Rattle.std.specs.Vec.Iter.{into_iter_items}
use Rattle.run_report.specs.Counts.{AreCountsOf}
use Rattle.run_report.specs.Prefixes.{AreMadePrefixes, expected_for}
use Rattle.run_report.proofs.report.counts_of.Given as goal

abbrev pub invariant-loop-one : goal.invariant-loop-one
invariant-loop-one l = AreMadePrefixes (map (expected_for false) (drop l._one-index l.shown)) (into_iter_items l.rest)
    × AllZip AreCountsOf (take l._one-index l.shown) l.counts.items
