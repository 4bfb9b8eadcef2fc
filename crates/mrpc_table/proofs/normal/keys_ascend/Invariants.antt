-- All keys ascend if those from the last compared one on do.
use Rattle.std.proofs.Common.{◌↔◌, ◌-◌, drop}
use Rattle.mrpc_table.specs.Normal.{AreKeysAscending}
use Rattle.mrpc_table.specs.View.{pairs_of}
use Rattle.mrpc_table.proofs.normal.keys_ascend.Given as goal

abbrev pub invariant-loop-i : goal.invariant-loop-i
invariant-loop-i l = AreKeysAscending l.kind (pairs_of l.entries) ↔ AreKeysAscending l.kind (pairs_of (drop (l.i - 1) l.entries))
