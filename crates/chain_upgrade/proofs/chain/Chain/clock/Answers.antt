use Rattle.std.proofs.Common.{◌++◌, length, map, take, drop, refl, ap, ◌∙◌, arith, vec_capacity}
use Rattle.engine_core.specs.Engines.{clocked}
use Rattle.chain_upgrade.specs.Chains.{ChainParts}
use Rattle.chain_upgrade.proofs.Clocks.{kept-clocked, pasts-clocked, written-back}
use Rattle.chain_upgrade.proofs.Keeping.{kept-as}
use Rattle.chain_upgrade.proofs.MarksLeft.{have-same, same-attachments}
use Rattle.chain_upgrade.proofs.chain.Chain.clock.Goals as goal

pub invariant_of-self : goal.invariant_of-self
invariant_of-self c = (
  kept-as _ _ _ _ _ _ _ _ _
      (written-back c.args.now c.self.inside.engines.items c.as_mut_slice.result.now c.clock_all.new.engines
      c.self.inside.engines.len c.clock_all.ensures c.as_mut_slice.ensures.value
      (omega (arith, c.self.inside.engines.ok.0))) refl refl refl
      (kept-clocked c.args.now c.self.inside.engines.items (vec_capacity c.self.inside.engines) c.self.inside.attached c.self.inside.row c.self.inside.cuts.behind
      c.self.invariant.0),
  rw (written-back c.args.now c.self.inside.engines.items c.as_mut_slice.result.now c.clock_all.new.engines
      c.self.inside.engines.len c.clock_all.ensures c.as_mut_slice.ensures.value
      (omega (arith, c.self.inside.engines.ok.0)))
      (have-same c.self.inside.engines.items (map (λ e. clocked c.args.now e) c.self.inside.engines.items) c.self.inside.stale c.self.inside.row
      (same-attachments c.args.now c.self.inside.engines.items) c.self.invariant.1),
)

pub returns-clause-past : goal.returns-clause-past
returns-clause-past c at before after first start past is is' has =
    pasts-clocked c.args.now c.args.self.now.engines
    (take c.self.inside.engines.len (c.clock_all.new.engines ++ drop (length c.clock_all.new.engines) c.self.inside.engines.items)) at before after first start past
    ((written-back c.args.now c.self.inside.engines.items c.as_mut_slice.result.now c.clock_all.new.engines
    c.self.inside.engines.len c.clock_all.ensures c.as_mut_slice.ensures.value
    (omega (arith, c.self.inside.engines.ok.0)))
    ∙ ap (λ (v : ChainParts). map (λ e. clocked c.args.now e) v.engines) c.self.view_is) is is' has
