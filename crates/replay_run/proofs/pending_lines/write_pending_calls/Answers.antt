use Rattle.std.proofs.Common.{◌∙◌, [], ap, sym, map}
use Rattle.replay_run.specs.Kept.{open_connection_of}
use Rattle.replay_run.specs.PendingLines.{all_stands_lines, stands_lines_on}
use Rattle.replay_run.proofs.Bytes.{appends-nothing}
use Rattle.replay_run.proofs.Queued.{stands-found, stands-nowhere, stands-one, stands-some}
use Rattle.replay_run.proofs.Written.{on-err}
use Rattle.replay_run.proofs.pending_lines.write_pending_calls.Goals as goal
use Rattle.replay_run.proofs.pending_lines.write_pending_calls.Goals.{in-Some+in_ok-write_pending_calls_of, in_default}

pub returns-in_err-write_pending_calls_of-clause-front : goal.returns-in_err-write_pending_calls_of-clause-front
returns-in_err-write_pending_calls_of-clause-front g c =
    on-err _ (stands-some c.args.connections.now (g.K.Sink.written c.args.out.now) (g.K.Sink.written c.loop-conn.out)
    (g.K.Sink.written c.write_pending_calls_of.new.out)
    c.loop-conn.conn (stands_lines_on (open_connection_of c.index-connections-place.result)) (all_stands_lines (map open_connection_of c.args.connections.now)) c.loop-conn-test.true c.loop-conn.invariant.rest
    (stands-found c.args.connections.now c.loop-conn.conn c.in-Some.place c.index-connections-place.result (sym c.index_of_connection.ensures ∙ c.in-Some.is) c.index-connections-place.is)
    c.in_err-write_pending_calls_of.ensures.front)

pub loop-conn-preserved : goal.loop-conn-preserved
loop-conn-preserved g c = elim (c.match-index_of_connection.branch) [
  | in-Some+in_ok-write_pending_calls_of w ↦ record {
    rest = stands-one c.args.connections.now (g.K.Sink.written c.args.out.now) (g.K.Sink.written c.loop-conn.out) (g.K.Sink.written c.match-index_of_connection.out)
        c.loop-conn.conn (stands_lines_on (open_connection_of w.index-connections-place.result)) (all_stands_lines (map open_connection_of c.args.connections.now)) c.loop-conn-test.true c.loop-conn.invariant.rest
        (stands-found c.args.connections.now c.loop-conn.conn w.in-Some.place w.index-connections-place.result (sym c.index_of_connection.ensures ∙ w.in-Some.is) w.index-connections-place.is)
        (rw w.out-is w.in_ok-write_pending_calls_of.ensures.lines);
    failures = ap g.K.Sink.failures w.out-is ∙ w.in_ok-write_pending_calls_of.ensures.cause.stays (λ e. cc) ∙ c.loop-conn.invariant.failures;
  }
  | in_default w ↦ record {
    rest = stands-one c.args.connections.now (g.K.Sink.written c.args.out.now) (g.K.Sink.written c.loop-conn.out) (g.K.Sink.written c.match-index_of_connection.out)
        c.loop-conn.conn [] (all_stands_lines (map open_connection_of c.args.connections.now)) c.loop-conn-test.true c.loop-conn.invariant.rest
        (stands-nowhere c.args.connections.now c.loop-conn.conn (sym c.index_of_connection.ensures ∙ w.in_default.is))
        (rw w.out-is (appends-nothing (g.K.Sink.written c.loop-conn.out)));
    failures = ap g.K.Sink.failures w.out-is ∙ c.loop-conn.invariant.failures;
  }
]
