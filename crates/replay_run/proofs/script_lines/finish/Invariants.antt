use Rattle.std.proofs.Common.{◌≡◌}
use Rattle.replay_run.proofs.Counted.{AreCountedBelow}
use Rattle.replay_run.proofs.script_lines.finish.Given as goal

abbrev pub invariant-loop-tenant : goal.invariant-loop-tenant
invariant-loop-tenant g l = record {
  same : l.run.connections ≡ l.fn.run.connections;
  counted : AreCountedBelow l.tenant l.fn.run.tickets l.run.tickets;
}
