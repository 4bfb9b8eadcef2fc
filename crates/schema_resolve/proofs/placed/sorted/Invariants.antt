use Rattle.schema_resolve.proofs.Orders.{AreKnown}
use Rattle.schema_resolve.proofs.placed.sorted.Given as goal

abbrev pub invariant-loop-i : goal.invariant-loop-i
invariant-loop-i l = AreKnown l.names l.i l.pairs.items
