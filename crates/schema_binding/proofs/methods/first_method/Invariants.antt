use Rattle.std.proofs.Common.{◌≡◌, ℕ, ◌<◌, length}
use Rattle.schema_binding.specs.Places.{signature_at}
use Rattle.schema_binding.proofs.Signatures.{given_below}
use Rattle.schema_binding.proofs.methods.first_method.Given as goal

abbrev pub invariant-loop-index : goal.invariant-loop-index
invariant-loop-index l = record {
  same : (k : ℕ) → k < l.index → signature_at l.ours l.service k ≡ signature_at l.theirs l.service k;
  count : l.at ≡ length (given_below l.ours l.service l.index);
}
