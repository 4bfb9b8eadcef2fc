use Rattle.std.proofs.Common.{◌≡◌, ◌++◌}
use Rattle.script_view.specs.Playing.{blank_lines}
use Rattle.script_view.proofs.lines.put_blanks.Given as goal

abbrev pub invariant-loop-blank : goal.invariant-loop-blank
invariant-loop-blank l = l.out ≡ l.fn.out ++ blank_lines l.conn l.blank
