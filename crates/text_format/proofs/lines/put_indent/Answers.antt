use Rattle.std.proofs.Common.{sym, append-nil}
use Rattle.text_format.specs.Lines.{indent}
use Rattle.text_format.proofs.Indents.{indent_more}
use Rattle.text_format.proofs.lines.put_indent.Goals as goal

pub loop-level-init : goal.loop-level-init
unfolding indent
loop-level-init c = sym (append-nil c.args.out.now)

pub loop-level-preserved : goal.loop-level-preserved
loop-level-preserved c = indent_more _ _ _ c.loop-level.level c.loop-level.invariant c.in_ok-append.ensures.ok
