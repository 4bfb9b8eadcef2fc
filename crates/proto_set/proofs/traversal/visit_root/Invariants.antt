use Rattle.proto_set.proofs.Remaining.{remaining}
use Rattle.proto_set.proofs.Walked.{IsWalk}
use Rattle.proto_set.proofs.traversal.visit_root.Given as goal

abbrev pub invariant-loop-frame : goal.invariant-loop-frame
invariant-loop-frame l = IsWalk l.graph l.walk.frames.items l.walk.marks.items

abbrev pub decreases-loop-frame : goal.decreases-loop-frame
decreases-loop-frame l = remaining l.graph l.walk.frames.items l.walk.marks.items
