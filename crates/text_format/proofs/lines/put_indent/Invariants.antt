use Rattle.std.proofs.Common.{◌≡◌, ◌++◌}
use Rattle.text_format.specs.Lines.{indent}
use Rattle.text_format.proofs.lines.put_indent.Given as goal

abbrev pub invariant-loop-level : goal.invariant-loop-level
invariant-loop-level l = l.out ≡ l.fn.out ++ indent l.level
