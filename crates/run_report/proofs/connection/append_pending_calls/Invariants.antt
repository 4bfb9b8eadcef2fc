use Rattle.std.proofs.Common.{◌≡◌, ◌++◌, take}
use Rattle.std.specs.List.{flat_map}
use Rattle.conn_core.specs.Connections.{conn_state}
use Rattle.connection_audit.specs.Pending.{pending_line}
use Rattle.run_report.proofs.connection.append_pending_calls.Given as goal

abbrev pub invariant-loop-place : goal.invariant-loop-place
invariant-loop-place l = l.out ≡ l.fn.out ++ flat_map (pending_line l.calls.conn (conn_state l.calls)) (take l.place l.calls.chain.row)
