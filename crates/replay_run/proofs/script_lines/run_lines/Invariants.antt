use Rattle.std.proofs.Common.{◌≡◌, take}
use Rattle.replay_run.specs.Kept.{HasRunSomeLines}
use Rattle.replay_run.proofs.script_lines.run_lines.Given as goal

abbrev pub invariant-loop-line : goal.invariant-loop-line
invariant-loop-line g l = record {
  ran : HasRunSomeLines l.script (take l.line-index l.script.lines) l.run.connections.items l.run.tickets (g.K.Sink.written l.fn.out) (g.K.Sink.written l.out) (g.W.Sink.written l.fn.wire)
      (g.W.Sink.written l.wire);
  tenants : l.run.tickets.tenants ≡ l.fn.run.tickets.tenants;
  out : g.K.Sink.failures l.out ≡ g.K.Sink.failures l.fn.out;
  wire : g.W.Sink.failures l.wire ≡ g.W.Sink.failures l.fn.wire;
}
