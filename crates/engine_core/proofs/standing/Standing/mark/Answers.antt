use Rattle.engine_core.proofs.MarkLemmas.{IsOneEach-marked}
use Rattle.engine_core.proofs.standing.Standing.mark.Goals as goal

pub invariant_of-self : goal.invariant_of-self
invariant_of-self c = rw c.set.ensures (IsOneEach-marked _ _ _ c.self.invariant)
