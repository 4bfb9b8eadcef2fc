use Rattle.engine_core.proofs.MarkLemmas.{IsOneEach-filter, unallowed}
use Rattle.engine_core.proofs.standing.Standing.clear.Goals as goal

pub invariant_of-self : goal.invariant_of-self
invariant_of-self c = rw c.forget_allowing.ensures (IsOneEach-filter _ _ c.self.invariant)

pub returns-then-changed-clause-unallowed : goal.returns-then-changed-clause-unallowed
returns-then-changed-clause-unallowed c = rw (c.if-changed.true, c.forget_allowing.ensures, ← c.self.view_is) (unallowed _ c.self.invariant)
