use Rattle.std.proofs.Common.{◌≡◌, drop}
use Rattle.std.specs.List.{flat_map}
use Rattle.conn_core.specs.Connections.{conn_state}
use Rattle.replay_run.specs.Kept.{open_connection_of}
use Rattle.connection_audit.specs.Pending.{pending_line}
use Rattle.replay_run.specs.PendingLines.{stands_lines_on}
use Rattle.replay_run.proofs.Written.{TellsRest}
use Rattle.replay_run.proofs.pending_lines.write_pending_calls_of.Given as goal

abbrev pub invariant-loop-place : goal.invariant-loop-place
invariant-loop-place g l = record {
  rest : TellsRest (g.K.Sink.written l.fn.out) (g.K.Sink.written l.out)
      (flat_map (pending_line l.calls.conn (conn_state l.calls)) (drop l.place l.calls.chain.row)) (stands_lines_on (open_connection_of l.connection));
  failures : g.K.Sink.failures l.out ≡ g.K.Sink.failures l.fn.out;
}
