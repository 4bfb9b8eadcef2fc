use Rattle.schema_binding.specs.Places.{HasFieldOfType}
use Rattle.schema_binding.specs.Reach.{HasGained}
use Rattle.schema_binding.proofs.Reaching.{HasNextBelow}
use Rattle.schema_binding.proofs.reach.ReachedPairs.mark_fields.Given as goal

abbrev pub invariant-loop-field : goal.invariant-loop-field
invariant-loop-field l = record {
  gains : HasGained l.ours l.theirs l.fn.self l.self (HasFieldOfType l.ours l.theirs l.our l.their);
  next : HasNextBelow l.ours l.theirs l.self l.our l.their l.field-items l.field-index;
}
