use Rattle.schema_binding.specs.Reach.{HasGained, IsInMethods}
use Rattle.schema_binding.proofs.Reaching.{HasMethodsBelow}
use Rattle.schema_binding.proofs.reach.ReachedPairs.mark_methods.Given as goal

abbrev pub invariant-loop-index : goal.invariant-loop-index
invariant-loop-index l = record {
  gains : HasGained l.ours l.theirs l.fn.self l.self (IsInMethods l.ours l.service);
  methods : HasMethodsBelow l.ours l.service l.self l.index;
}
