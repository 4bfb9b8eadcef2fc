-- The numbers so far precede those of the remaining path.
use Rattle.std.proofs.Common.{◌≡◌, drop}
use Rattle.std.specs.Prelude.{option_map}
use Rattle.mrpc_table.specs.PathFields.{way_in}
use Rattle.mrpc_table.proofs.PathWays.{behind_way}
use Rattle.mrpc_table.proofs.path_resolve.way_in.Given as goal

abbrev pub invariant-loop-number : goal.invariant-loop-number
invariant-loop-number l = way_in l.table l.fn.msg l.numbers ≡ option_map (behind_way l.way.items) (way_in l.table l.message (drop l.number-index l.numbers))
