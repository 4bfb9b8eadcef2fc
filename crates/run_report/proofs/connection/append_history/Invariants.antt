use Rattle.std.proofs.Common.{◌≡◌, ◌++◌, take}
use Rattle.std.specs.List.{flat_map}
use Rattle.audit_text.specs.Lines.{audit_line}
use Rattle.run_report.specs.ConnectionReport.{as_connection_event}
use Rattle.run_report.proofs.connection.append_history.Given as goal

abbrev pub invariant-loop-place : goal.invariant-loop-place
invariant-loop-place l = l.out ≡ l.fn.out ++ flat_map (λ what. audit_line l.table (as_connection_event l.calls.conn what)) (take l.place l.calls.happenings)
