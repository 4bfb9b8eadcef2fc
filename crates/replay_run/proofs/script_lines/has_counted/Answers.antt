use Rattle.replay_run.proofs.Counted.{counts-none}
use Rattle.replay_run.proofs.script_lines.has_counted.Goals as goal

pub loop-window-init : goal.loop-window-init
loop-window-init c = counts-none c.args.tenant c.args.tickets.now
