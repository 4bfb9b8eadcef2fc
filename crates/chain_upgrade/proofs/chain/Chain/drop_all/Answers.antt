use Rattle.std.proofs.Common.{ℕ, List, [], length, ap, sym, subst, arith, vec_capacity}
use Rattle.engine_core.specs.Marks.{PendingCall}
use Rattle.chain_upgrade.specs.Kept.{IsKept}
use Rattle.chain_upgrade.proofs.Keeping.{kept-cleared}
use Rattle.chain_upgrade.proofs.MarksLeft.{have-all}
use Rattle.chain_upgrade.proofs.chain.Chain.drop_all.Goals as goal

pub invariant_of-self : goal.invariant_of-self
invariant_of-self c = (
  subst (λ (calls : List PendingCall). IsKept c.self.inside.engines.items (vec_capacity c.self.inside.engines)
      c.self.inside.attached calls c.lower_to.new.self.behind) (sym c.clear.ensures)
      (subst (λ (cuts : List ℕ). IsKept c.self.inside.engines.items (vec_capacity c.self.inside.engines) c.self.inside.attached [] cuts) (sym c.lower_to.ensures)
      (kept-cleared _ _ _ _ _ c.self.invariant.0)),
  have-all c.self.inside.engines.items 0 c.clear.new.self (omega (arith, ap (λ (calls : List PendingCall). length calls) c.clear.ensures)),
)
