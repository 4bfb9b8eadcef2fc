-- the files so far are joined
use Rattle.std.proofs.Common.{◌≡◌}
use Rattle.proto_set.specs.Joining.{before_first_file, joined}
use Rattle.proto_set.proofs.Moves.{past}
use Rattle.proto_set.proofs.file_union.join.Given as goal

abbrev pub invariant-loop-part : goal.invariant-loop-part
invariant-loop-part l = record {
  files : l.all ≡ joined l.yielded;
  before : l.before ≡ past before_first_file l.yielded;
}
