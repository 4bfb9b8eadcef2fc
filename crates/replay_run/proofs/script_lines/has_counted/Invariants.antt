use Rattle.replay_run.proofs.Counted.{AreCountedTo}
use Rattle.replay_run.proofs.script_lines.has_counted.Given as goal

abbrev pub invariant-loop-window : goal.invariant-loop-window
invariant-loop-window l = AreCountedTo l.tenant l.window l.fn.tickets l.tickets
