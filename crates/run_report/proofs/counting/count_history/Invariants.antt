use Rattle.std.proofs.Common.{take}
use Rattle.std.specs.List.{flat_map}
use Rattle.call_history.specs.Trace.{taken}
use Rattle.conn_core.specs.Connections.{conn_trace}
use Rattle.run_report.specs.Counting.{counted}
use Rattle.run_report.proofs.Counted.{CountsOn}
use Rattle.run_report.proofs.counting.count_history.Given as goal

abbrev pub invariant-loop-place : goal.invariant-loop-place
invariant-loop-place l =
    CountsOn (flat_map (counted (taken (conn_trace l.calls))) (take l.place l.calls.happenings)) l.fn.totals l.totals
