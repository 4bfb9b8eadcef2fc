use Rattle.mrpc_table.proofs.MapKeeping.{Kept}
use Rattle.mrpc_table.proofs.map_entries.last_of_sorted.Given as goal

abbrev pub invariant-loop-entry : goal.invariant-loop-entry
invariant-loop-entry l = Kept l.key l.yielded l.kept.items
