use Rattle.std.proofs.Common.{length}
use Rattle.graph_place.proofs.Chain.{RunOn}
use Rattle.graph_place.proofs.builder.Builder.run.Given as goal

-- the words of the bytes so far are placed
abbrev pub invariant-loop-rest : goal.invariant-loop-rest
invariant-loop-rest l = RunOn l.bytes l.initial.self.free l.initial.self.words.items l.rest l.self.free l.self.words.items

abbrev pub decreases-loop-rest : goal.decreases-loop-rest
decreases-loop-rest l = length l.rest
