use Rattle.mrpc_table.proofs.MapRising.{RiseBelow}
use Rattle.mrpc_table.proofs.map_entries.ascends.Given as goal

abbrev pub invariant-loop-place : goal.invariant-loop-place
invariant-loop-place l = RiseBelow l.key l.entries.items l.place
