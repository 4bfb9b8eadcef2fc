use Rattle.proto_set.specs.declared.import_fault.ImportReason.TheVariants.{Missing}
use Rattle.proto_set.proofs.Judging.{FreeBefore}
use Rattle.proto_set.proofs.links.check_missing_in.Given as goal

abbrev pub invariant-loop-n : goal.invariant-loop-n
invariant-loop-n l = FreeBefore l.fn.members Missing l.fn.file l.n
