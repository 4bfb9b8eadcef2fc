use Rattle.std.proofs.Common.{length, ap, subst}
use Rattle.std.specs.Prelude.{Err}
use Rattle.replay_run.specs.Kept.{HaveCounted}
use Rattle.replay_run.proofs.InTurn.{of-done, of-stopped, of-untold}
use Rattle.replay_run.proofs.script_lines.run_script.Goals as goal

pub returns-then-as_slice-ge-LINE_LIMIT-clause-stopped :
    goal.returns-then-as_slice-ge-LINE_LIMIT-clause-stopped
returns-then-as_slice-ge-LINE_LIMIT-clause-stopped g c = λ either.
    c.run_follows_script.ensures.at_once c.args.script.now (g.K.Sink.written c.args.out.now) (g.W.Sink.written c.args.wire.now)

pub returns-in_default-clause-stopped : goal.returns-in_default-clause-stopped
returns-in_default-clause-stopped g c = λ either.
    c.run_follows_script.ensures.at_once c.args.script.now (g.K.Sink.written c.args.out.now) (g.W.Sink.written c.args.wire.now)

pub returns-in_default-new-clause-stopped : goal.returns-in_default-new-clause-stopped
returns-in_default-new-clause-stopped g c = λ either.
    c.run_follows_script.ensures.at_once c.args.script.now (g.K.Sink.written c.args.out.now) (g.W.Sink.written c.args.wire.now)

pub returns-in-Ok-run_lines-clause-done : goal.returns-in-Ok-run_lines-clause-done
returns-in-Ok-run_lines-clause-done g c =
    of-done c.finish.result _ _ _ c.finish.ensures.lines c.finish.ensures.counted
    (λ lines counted. c.run_follows_script.ensures.replays c.args.script.now c.run_lines.new.run.connections.items c.run_lines.new.run.tickets
    (g.K.Sink.written c.args.out.now) (g.K.Sink.written c.run_lines.new.out) (g.K.Sink.written c.finish.new.out) (g.W.Sink.written c.args.wire.now)
    (g.W.Sink.written c.run_lines.new.wire) c.requires.script c.in-Ok-run_lines.ensures.ran
    (subst (λ n. HaveCounted n c.run_lines.new.run.tickets) (ap length c.tenants.ensures.tenants) counted) lines)

pub returns-in-Ok-run_lines-clause-stopped : goal.returns-in-Ok-run_lines-clause-stopped
returns-in-Ok-run_lines-clause-stopped g c = λ either.
    c.run_follows_script.ensures.at_end c.args.script.now c.run_lines.new.run.connections.items c.run_lines.new.run.tickets
    (g.K.Sink.written c.args.out.now) (g.K.Sink.written c.run_lines.new.out) (g.W.Sink.written c.args.wire.now) (g.W.Sink.written c.run_lines.new.wire)
    c.in-Ok-run_lines.ensures.ran (g.K.Sink.written c.finish.new.out) (of-untold c.finish.result _ c.finish.ensures.front either)

pub returns-in_err-finish-in-Err-Wire-clause-stopped :
    goal.returns-in_err-finish-in-Err-Wire-clause-stopped
returns-in_err-finish-in-Err-Wire-clause-stopped g c =
    let broken = rw c.in-Err-Wire.field-0-is at c.in-Err-Wire.ensures.ran in
    λ either. c.run_follows_script.ensures.stops_broken c.args.script.now c.run_lines.new.run.connections.items c.run_lines.new.run.tickets
    (g.K.Sink.written c.args.out.now) (g.K.Sink.written c.run_lines.new.out) (g.K.Sink.written c.finish-in-Err-Wire.new.out) (g.W.Sink.written c.args.wire.now)
    (g.W.Sink.written c.run_lines.new.wire) broken c.in_err-finish-in-Err-Wire.ensures.front

pub returns-in-Err-Wire-clause-wire_failed : goal.returns-in-Err-Wire-clause-wire_failed
returns-in-Err-Wire-clause-wire_failed g c =
    let broken = rw c.in-Err-Wire.field-0-is at c.in-Err-Wire.ensures.ran in
    λ is. c.run_follows_script.ensures.broke c.args.script.now c.run_lines.new.run.connections.items c.run_lines.new.run.tickets
    (g.K.Sink.written c.args.out.now) (g.K.Sink.written c.run_lines.new.out) (g.K.Sink.written c.finish-in-Err-Wire.new.out) (g.W.Sink.written c.args.wire.now)
    (g.W.Sink.written c.run_lines.new.wire) c.requires.script broken
    (subst (λ n. HaveCounted n c.run_lines.new.run.tickets) (ap length c.tenants.ensures.tenants) c.in_ok-finish-in-Err-Wire.ensures.counted)
    c.in_ok-finish-in-Err-Wire.ensures.lines

pub returns-clause-stopped : goal.returns-clause-stopped
returns-clause-stopped g c = λ either. of-stopped (Err c.in-Err.stop) _ _ _ c.in-Err.ensures.ran either
