use Rattle.std.proofs.Common.{sym, append-nil}
use Rattle.script_view.specs.Playing.{blank_lines}
use Rattle.script_view.proofs.Blanks.{blanks_more}
use Rattle.script_view.proofs.lines.put_blanks.Goals as goal

pub loop-blank-init : goal.loop-blank-init
unfolding blank_lines
loop-blank-init c = sym (append-nil c.args.out.now)

pub loop-blank-preserved : goal.loop-blank-preserved
loop-blank-preserved c = blanks_more c.args.conn c.loop-blank.blank _ _ _ c.loop-blank.invariant c.in_ok-put_blank.ensures
