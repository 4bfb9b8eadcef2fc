use Rattle.proto_set.proofs.Placing.{KnowsBefore}
use Rattle.proto_set.proofs.paths.Paths.new.Given as goal

-- the files up to here
abbrev pub invariant-loop-i : goal.invariant-loop-i
invariant-loop-i l = KnowsBefore l.members l.i (record { by = l.by })
