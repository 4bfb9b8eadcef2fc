-- Each call is counted once more, after the line of its acceptance (this project's own).
use Rattle.std.specs.Prelude.{◌≡◌, ◌+◌, List}
use Rattle.std.specs.List.{flat_map}
use Rattle.run_report.specs.Counting.{counted_in}
use Rattle.run_report.specs.declared.reported_connection.ReportedConnection.{ReportedConnection}
use Rattle.telemetry.specs.Counts.{all_counts}
use Rattle.telemetry.specs.declared.counts.Counts.{Counts}

-- as many calls were accepted as were sent, refused and left pending
abbrev pub AreBalanced : Counts → Type 0
AreBalanced counts = counts.took ≡ counts.sent + counts.refused + counts.standing

-- the counts of all lines of a report
abbrev pub report_counts : List ReportedConnection → Counts
report_counts told = all_counts (flat_map counted_in told)
