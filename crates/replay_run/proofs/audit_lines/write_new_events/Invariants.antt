use Rattle.std.proofs.Common.{◌≡◌, drop}
use Rattle.std.specs.List.{flat_map}
use Rattle.replay_run.specs.Kept.{unwritten}
use Rattle.replay_run.proofs.Written.{TellsRest, told_on}
use Rattle.replay_run.proofs.audit_lines.write_new_events.Given as goal

abbrev pub invariant-loop-place : goal.invariant-loop-place
invariant-loop-place g l = record {
  rest : TellsRest (g.K.Sink.written l.fn.out) (g.K.Sink.written l.out)
      (flat_map (told_on l.table l.connection.calls.conn) (drop l.place l.connection.calls.happenings)) (unwritten l.table l.connection);
  failures : g.K.Sink.failures l.out ≡ g.K.Sink.failures l.fn.out;
}
