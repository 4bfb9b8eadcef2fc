use Rattle.proto_set.proofs.PathLemmas.{never_right_and_refused, refused_once, right_or_refused}
use Rattle.proto_set.proofs.bundle_laws.valid_or_rejected.Goals as goal

pub returns : goal.returns
returns c = record {
  once = refused_once;
  never_both = never_right_and_refused;
  never_neither = right_or_refused;
}
