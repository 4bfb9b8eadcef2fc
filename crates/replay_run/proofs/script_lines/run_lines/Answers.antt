use Rattle.std.proofs.Common.{[], List, refl, sym, ◌∙◌, subst}
use Rattle.std.specs.Prelude.{Err}
use Rattle.std.proofs.lemmas.Result.{err_from_is_err_and}
use Rattle.replay_script.specs.declared.script.ScriptLine.{ScriptLine}
use Rattle.replay_run.specs.Kept.{HasRunSomeLines, IsRunBefore, HasBroken, OnRan}
use Rattle.replay_run.specs.Running.{IsStoppedRun}
use Rattle.replay_run.specs.declared.connection.RunConnection.{RunConnection}
use Rattle.replay_run.specs.declared.replay_error.ReplayError.{ReplayError}
use Rattle.replay_run.proofs.Walked.{before-line, ends-run, one-more}
use Rattle.replay_run.proofs.script_lines.run_lines.Goals as goal

pub loop-line-init : goal.loop-line-init
loop-line-init g c = record {
  ran = subst (λ (cs : List RunConnection). HasRunSomeLines c.args.script.now [] cs c.args.run.now.tickets
      (g.K.Sink.written c.args.out.now) (g.K.Sink.written c.args.out.now) (g.W.Sink.written c.args.wire.now)
      (g.W.Sink.written c.args.wire.now)) (sym c.requires.none)
      (c.run_follows_script.ensures.begins c.args.script.now c.args.run.now.tickets (g.K.Sink.written c.args.out.now) (g.W.Sink.written c.args.wire.now) c.requires.tenants c.requires.undrawn);
  tenants = refl;
  out = refl;
  wire = refl;
}

pub run_line-requires-clause-before : goal.run_line-requires-clause-before
run_line-requires-clause-before g c =
    before-line c.args.script.now c.as_slice-line-items.result.now c.loop-line.line-index c.line-item.result
    c.loop-line.run.connections.items c.loop-line.run.tickets
    (g.K.Sink.written c.args.out.now) (g.K.Sink.written c.loop-line.out) (g.W.Sink.written c.args.wire.now) (g.W.Sink.written c.loop-line.wire)
    c.as_slice-line-items.ensures c.loop-line-test.true c.line-item.is c.loop-line.invariant.ran

pub returns-in_err-run_line-clause-ran : goal.returns-in_err-run_line-clause-ran
returns-in_err-run_line-clause-ran g c =
    let p = err_from_is_err_and c.from_residual.result c.from_residual.ensures.1 in
    let b : IsRunBefore c.args.script.now c.line-item.result c.loop-line.run.connections.items c.loop-line.run.tickets (g.K.Sink.written c.loop-line.out) (g.W.Sink.written c.loop-line.wire) =
    before-line c.args.script.now c.as_slice-line-items.result.now c.loop-line.line-index c.line-item.result c.loop-line.run.connections.items c.loop-line.run.tickets
    (g.K.Sink.written c.args.out.now) (g.K.Sink.written c.loop-line.out) (g.W.Sink.written c.args.wire.now) (g.W.Sink.written c.loop-line.wire)
    c.as_slice-line-items.ensures c.loop-line-test.true c.line-item.is c.loop-line.invariant.ran in
    let ended = c.in_err-run_line.ensures.ran
    (before-line c.args.script.now c.as_slice-line-items.result.now c.loop-line.line-index c.line-item.result
    c.loop-line.run.connections.items c.loop-line.run.tickets
    (g.K.Sink.written c.args.out.now) (g.K.Sink.written c.loop-line.out) (g.W.Sink.written c.args.wire.now) (g.W.Sink.written c.loop-line.wire)
    c.as_slice-line-items.ensures c.loop-line-test.true c.line-item.is c.loop-line.invariant.ran) in
    rw p.1 (subst (λ (stop : ReplayError). OnRan {T = Unit {0}} (Err stop)
    (HasRunSomeLines c.args.script.now c.args.script.now.lines c.run_line.new.run.connections.items c.run_line.new.run.tickets (g.K.Sink.written c.args.out.now)
    (g.K.Sink.written c.run_line.new.out) (g.W.Sink.written c.args.wire.now) (g.W.Sink.written c.run_line.new.wire))
    (HasBroken c.args.script.now c.run_line.new.run.connections.items c.run_line.new.run.tickets (g.K.Sink.written c.args.out.now)
    (g.K.Sink.written c.run_line.new.out) (g.W.Sink.written c.args.wire.now) (g.W.Sink.written c.run_line.new.wire))
    (IsStoppedRun c.args.script.now (g.K.Sink.written c.args.out.now) (g.K.Sink.written c.run_line.new.out) (g.W.Sink.written c.args.wire.now) (g.W.Sink.written c.run_line.new.wire))
    (IsStoppedRun c.args.script.now (g.K.Sink.written c.args.out.now) (g.K.Sink.written c.run_line.new.out) (g.W.Sink.written c.args.wire.now) (g.W.Sink.written c.run_line.new.wire)))
    (sym p.2) (ends-run c.in_err-run_line.field-0.0 _ _ _ _ ended))

pub loop-line-preserved : goal.loop-line-preserved
loop-line-preserved g c =
    let more = one-more c.args.script.now c.as_slice-line-items.result.now c.loop-line.line-index c.line-item.result c.as_slice-line-items.ensures c.loop-line-test.true c.line-item.is in
    record {
      ran = subst (λ (ls : List ScriptLine). HasRunSomeLines c.args.script.now ls c.run_line.new.run.connections.items c.run_line.new.run.tickets (g.K.Sink.written c.args.out.now)
          (g.K.Sink.written c.run_line.new.out) (g.W.Sink.written c.args.wire.now) (g.W.Sink.written c.run_line.new.wire)) more
          (c.in_ok-run_line.ensures.ran
          (before-line c.args.script.now c.as_slice-line-items.result.now c.loop-line.line-index
          c.line-item.result c.loop-line.run.connections.items c.loop-line.run.tickets
          (g.K.Sink.written c.args.out.now) (g.K.Sink.written c.loop-line.out) (g.W.Sink.written c.args.wire.now) (g.W.Sink.written c.loop-line.wire)
          c.as_slice-line-items.ensures c.loop-line-test.true c.line-item.is c.loop-line.invariant.ran));
      tenants = c.in_ok-run_line.ensures.tenants ∙ c.loop-line.invariant.tenants;
      out = c.in_ok-run_line.ensures.out_cause.stays (λ e. cc) ∙ c.loop-line.invariant.out;
      wire = c.in_ok-run_line.ensures.wire_same ∙ c.loop-line.invariant.wire;
    }
