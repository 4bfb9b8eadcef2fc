-- The paths so far are valid.
use Rattle.std.proofs.Common.{take}
use Rattle.proto_set.specs.Named.{files_of}
use Rattle.proto_set.specs.Paths.{HaveValidPaths}
use Rattle.proto_set.proofs.path.first_rejected.Given as goal

abbrev pub invariant-loop-i : goal.invariant-loop-i
invariant-loop-i l = HaveValidPaths (files_of (take l.i l.files))
