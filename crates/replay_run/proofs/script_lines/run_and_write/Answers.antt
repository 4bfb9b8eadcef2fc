use Rattle.std.proofs.Common.{◌≡◌}
use Rattle.std.proofs.lemmas.Result.{err_from_is_err_and}
use Rattle.replay_run.specs.declared.replay_error.ReplayError.TheVariants.{Wire}
use Rattle.replay_run.proofs.Ran.{broken-stopped, done-told}
use Rattle.replay_run.proofs.script_lines.run_and_write.Goals as goal

pub returns-in-Ok-clause-ran : goal.returns-in-Ok-clause-ran
returns-in-Ok-clause-ran g c = done-told c.args.script.now c.args.line.now c.args.connection.now c.run_action.new.connection c.write_events.new.connection c.args.tickets.now c.run_action.new.tickets
    (g.K.Sink.written c.args.out.now) (g.K.Sink.written c.write_events.new.out) (g.W.Sink.written c.args.wire.now) (g.W.Sink.written c.run_action.new.wire) c.write_events.result _
    c.in-Ok.ensures.ran c.is_connection.ensures c.write_events.ensures.told c.write_events.ensures.lines c.write_events.ensures.front c.write_events.ensures.not_wire

pub returns-in_err-write_events-in-Err-Wire-clause-ran : goal.returns-in_err-write_events-in-Err-Wire-clause-ran
returns-in_err-write_events-in-Err-Wire-clause-ran g c =
    let p = err_from_is_err_and c.from_residual.result c.from_residual.ensures.1 in
    let same = p.2 in
    let broken = rw c.in-Err-Wire.field-0-is at c.in-Err-Wire.ensures.ran in
    rw p.1 (broken-stopped c.args.script.now c.args.line.now c.args.connection.now c.run_action.new.connection c.write_events-in-Err-Wire.new.connection c.args.tickets.now c.run_action.new.tickets
    (g.K.Sink.written c.args.out.now) (g.K.Sink.written c.write_events-in-Err-Wire.new.out) (g.W.Sink.written c.args.wire.now) (g.W.Sink.written c.run_action.new.wire) p.0 _ _
    broken c.in_err-write_events-in-Err-Wire.ensures.front (λ (e : p.0 ≡ Wire). c.in_err-write_events-in-Err-Wire.ensures.not_wire (cc)))
