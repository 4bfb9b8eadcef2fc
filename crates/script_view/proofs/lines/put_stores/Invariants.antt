use Rattle.std.proofs.Common.{◌≡◌, ◌++◌, take}
use Rattle.std.specs.List.{flat_map}
use Rattle.script_view.specs.Playing.{store_line}
use Rattle.script_view.proofs.lines.put_stores.Given as goal

abbrev pub invariant-loop-word : goal.invariant-loop-word
invariant-loop-word l = l.out ≡ l.fn.out ++ flat_map (store_line l.conn) (take l.word-index l.words)
