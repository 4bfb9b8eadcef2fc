use Rattle.std.proofs.Common.{take}
use Rattle.std.specs.List.{AllZip}
use Rattle.proto_set.specs.Reaching.{AreVisible}
use Rattle.proto_set.proofs.seen.all_seen.Given as goal

abbrev pub invariant-loop-file : goal.invariant-loop-file
invariant-loop-file l = AllZip (AreVisible l.graph) (take l.file-index l.files) l.all
