use Rattle.std.proofs.Common.{◌≡◌, drop}
use Rattle.mrpc_table.specs.PathTrees.{message_at_path, IsAscendingTree}
use Rattle.mrpc_table.proofs.path_find.message_at_path.Given as goal

abbrev pub invariant-loop-number : goal.invariant-loop-number
invariant-loop-number l = record {
  same : message_at_path l.message (drop l.number-index l.way) ≡ message_at_path l.tree l.way;
  ascending : IsAscendingTree l.message;
}
