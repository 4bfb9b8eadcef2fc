use Rattle.proto_set.proofs.Fronts.{spells_once, never_both, breaks_once, spelled_or_broken}
use Rattle.proto_set.proofs.bundle_laws.bundle_or_fault.Goals as goal

pub returns : goal.returns
returns c = record {
  once = spells_once;
  never_both = never_both;
  never_neither = spelled_or_broken;
  one_fault = breaks_once;
}
