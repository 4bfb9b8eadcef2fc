use Rattle.std.proofs.Common.{ℕ, ◌<◌}
use Rattle.proto_set.specs.Linking.{HasNoFaultOfAt}
use Rattle.proto_set.specs.declared.import_fault.ImportReason.TheVariants.{Missing}
use Rattle.proto_set.proofs.links.check_missing.Given as goal

abbrev pub invariant-loop-file : goal.invariant-loop-file
invariant-loop-file l = (i : ℕ) → i < l.file → HasNoFaultOfAt l.fn.members Missing i
