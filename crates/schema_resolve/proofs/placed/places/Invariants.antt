use Rattle.schema_resolve.proofs.Orders.{ArePut}
use Rattle.schema_resolve.proofs.placed.places.Given as goal

abbrev pub invariant-loop-place : goal.invariant-loop-place
invariant-loop-place l = ArePut l.order l.place l.places.items
