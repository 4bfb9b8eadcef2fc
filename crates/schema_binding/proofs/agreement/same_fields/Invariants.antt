use Rattle.std.proofs.Common.{ℕ, ◌<◌}
use Rattle.schema_binding.specs.Reach.{IsSameIn}
use Rattle.schema_binding.proofs.agreement.same_fields.Given as goal

abbrev pub invariant-loop-our : goal.invariant-loop-our
invariant-loop-our l = (i : ℕ) → i < l.our → IsSameIn l.ours l.theirs l.reached i
