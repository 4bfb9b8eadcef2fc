use Rattle.schema_resolve.specs.Joining.{AreUnplaced}
use Rattle.schema_resolve.proofs.oneof_table.unplaced.Given as goal

abbrev pub invariant-loop : goal.invariant-loop
invariant-loop l = AreUnplaced l.counter l.places.items
