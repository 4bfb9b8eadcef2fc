use Rattle.std.proofs.Common.{◌≡◌, ◌-◌, map}
use Rattle.std.specs.List.{flat_map, range_with_len}
use Rattle.replay_run.specs.Kept.{open_connection_of}
use Rattle.replay_run.specs.PendingLines.{all_stands_lines, stands_lines_at}
use Rattle.replay_run.proofs.Written.{TellsRest}
use Rattle.replay_run.proofs.pending_lines.write_pending_calls.Given as goal

abbrev pub invariant-loop-conn : goal.invariant-loop-conn
invariant-loop-conn g l = record {
  rest : TellsRest (g.K.Sink.written l.fn.out) (g.K.Sink.written l.out)
      (flat_map (stands_lines_at (map open_connection_of l.connections)) (range_with_len l.conn (17 - l.conn))) (all_stands_lines (map open_connection_of l.connections));
  failures : g.K.Sink.failures l.out ≡ g.K.Sink.failures l.fn.out;
}
