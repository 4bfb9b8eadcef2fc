use Rattle.std.proofs.Common.{All}
use Rattle.std.specs.List.{AllZip, filter_map, range_with_len}
use Rattle.run_report.specs.Report.{IsReportable}
use Rattle.run_driver.specs.Running.{IsReportOfConn, conn_in}
use Rattle.run_driver.proofs.reporting.reported_all.Given as goal

abbrev pub invariant-loop-before : goal.invariant-loop-before
invariant-loop-before g l =
    AllZip (IsReportOfConn l.plan) (filter_map (conn_in l.conns) (range_with_len 1 l.before)) l.shown.items × All IsReportable l.shown.items
