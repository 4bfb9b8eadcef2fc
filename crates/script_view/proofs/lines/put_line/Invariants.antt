use Rattle.std.proofs.Common.{◌≡◌, ◌++◌, take}
use Rattle.std.specs.List.{flat_map}
use Rattle.script_view.proofs.Numbered.{behind}
use Rattle.script_view.proofs.lines.put_line.Given as goal

abbrev pub invariant-loop-number : goal.invariant-loop-number
invariant-loop-number l = l.out ≡ l.fn.out ++ (l.word ++ flat_map behind (take l.number-index l.numbers))
