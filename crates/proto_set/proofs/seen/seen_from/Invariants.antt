use Rattle.proto_set.specs.Seeing.{IsSeenSoFar, work_of}
use Rattle.proto_set.proofs.seen.seen_from.Given as goal

abbrev pub invariant-loop-next : goal.invariant-loop-next
invariant-loop-next l = IsSeenSoFar l.graph l.fn.file l.seen

abbrev pub decreases-loop-next : goal.decreases-loop-next
decreases-loop-next l = work_of l.seen
