use Rattle.schema_files.proofs.Placed.{ArePlacedSo}
use Rattle.schema_files.proofs.linked_files.placed.Given as goal

-- the indices of the files so far
abbrev pub invariant-loop-i : goal.invariant-loop-i
invariant-loop-i l = ArePlacedSo l.places l.some l.i-index l.all
