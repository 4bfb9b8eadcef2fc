use Rattle.std.proofs.Common.{ap, ◌≡◌, length, ◌∙◌, arith}
use Rattle.replay_run.proofs.Written.{none-left}
use Rattle.replay_run.proofs.audit_lines.write_events.Goals as goal

pub returns-then-connection-count-clause-lines : goal.returns-then-connection-count-clause-lines
returns-then-connection-count-clause-lines g c =
    let count : c.len-count.result ≡ length c.args.connection.now.calls.happenings = c.len-count.ensures ∙ ap length c.history.ensures in
    none-left c.args.table.now c.args.connection.now.calls.conn c.args.connection.now.calls.happenings
    (g.K.Sink.written c.args.out.now) c.args.connection.now.told (omega arith)
