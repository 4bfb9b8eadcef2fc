use Rattle.std.proofs.Common.{ℕ, ◌≤◌, ◌-◌, List, length}
use Rattle.schema_binding.specs.Reach.{HasGrown, IsPaired, HasOnlyReached}
use Rattle.schema_binding.proofs.Reaching.{IsClosedBelow}
use Rattle.schema_binding.proofs.reach.ReachedPairs.mark_further.Given as goal

abbrev pub invariant-loop-next : goal.invariant-loop-next
invariant-loop-next l = record {
  paired : IsPaired l.ours l.theirs l.self;
  grows : HasGrown l.fn.self l.self;
  closed : IsClosedBelow l.ours l.theirs l.self l.next;
  reached : (service : List ℕ) → HasOnlyReached l.ours l.theirs service l.fn.self → HasOnlyReached l.ours l.theirs service l.self;
  within : l.next ≤ length l.self.found.items;
}

abbrev pub decreases-loop-next : goal.decreases-loop-next
decreases-loop-next l = length l.ours.messages - l.next
