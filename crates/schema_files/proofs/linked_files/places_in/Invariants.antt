use Rattle.schema_files.proofs.Placed.{ArePut}
use Rattle.schema_files.proofs.linked_files.places_in.Given as goal

-- the indices of the files so far in the order
abbrev pub invariant-loop-place : goal.invariant-loop-place
invariant-loop-place l = ArePut l.order l.fn.count l.place l.places.items
