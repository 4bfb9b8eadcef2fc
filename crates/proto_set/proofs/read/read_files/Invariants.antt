-- The input is the files so far followed by the remainder.
use Rattle.std.proofs.Common.{length}
use Rattle.proto_set.specs.Named.{files_of}
use Rattle.proto_set.proofs.Reading.{StandInFront}
use Rattle.proto_set.proofs.read.read_files.Given as goal

abbrev pub invariant-loop-rest : goal.invariant-loop-rest
invariant-loop-rest l = StandInFront l.fn.input (files_of l.files.items) l.rest

abbrev pub decreases-loop-rest : goal.decreases-loop-rest
decreases-loop-rest l = length l.rest
