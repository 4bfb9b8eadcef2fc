use Rattle.proto_set.proofs.Seeing.{PlacesBefore}
use Rattle.proto_set.proofs.seen.marked.Given as goal

abbrev pub invariant-loop-i : goal.invariant-loop-i
invariant-loop-i l = PlacesBefore l.marks l.i l.places
