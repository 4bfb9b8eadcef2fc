use Rattle.std.proofs.Common.{drop, map, take, true}
use Rattle.std.specs.List.{AllZip}
use Rattle.std.specs.Vec.Iter.{into_iter_items}
use Rattle.run_report.specs.Counts.{AreCountsOf}
use Rattle.run_report.specs.Prefixes.{AreMadePrefixes, expected_for}
use Rattle.run_report.specs.Report.{IsReportText}
use Rattle.run_report.proofs.report.texts_of.Given as goal

abbrev pub invariant-loop-one : goal.invariant-loop-one
invariant-loop-one l = AreMadePrefixes (map (expected_for true) (drop l.one-index l.shown)) (into_iter_items l.rest)
    × AllZip IsReportText (take l.one-index l.shown) l.texts.items × AllZip AreCountsOf (take l.one-index l.shown) l.counts.items
