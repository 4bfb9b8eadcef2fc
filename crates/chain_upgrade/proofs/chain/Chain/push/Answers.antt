use Rattle.std.proofs.Common.{◌<◌, List, All, length, ap, sym, subst, arith, vec_capacity}
use Rattle.engine_core.specs.Marks.{PendingCall}
use Rattle.chain_upgrade.specs.Chains.{ChainParts}
use Rattle.chain_upgrade.specs.Kept.{IsKept}
use Rattle.chain_upgrade.proofs.Keeping.{kept-push, pushed}
use Rattle.chain_upgrade.proofs.MarksLeft.{have-push}
use Rattle.chain_upgrade.proofs.chain.Chain.push.Goals as goal

pub invariant_of-self : goal.invariant_of-self
invariant_of-self c =
    let few : length c.self.inside.row < 64 = omega (arith, c.len.ensures.count, c.len.ensures.few, c.if-len-eq-MAX_CALLS.false) in
    let less : All (λ s. s.call.seq < c.args.call.call.seq) c.self.inside.row =
    subst (λ (calls : List PendingCall). All (λ s. s.call.seq < c.args.call.call.seq) calls) (sym (ap (λ (v : ChainParts). v.calls) c.self.view_is)) c.requires.greater in (
      subst (λ (calls : List PendingCall). IsKept c.self.inside.engines.items (vec_capacity c.self.inside.engines)
          c.self.inside.attached calls c.self.inside.cuts.behind) (sym c.push.ensures)
          (kept-push _ _ _ _ _ c.args.call c.unmarked_is_true.ensures c.self.invariant.0 few c.requires.unmarked less),
      rw c.push.ensures (have-push c.self.inside.engines.items c.self.inside.stale c.self.inside.row c.args.call c.self.invariant.1 c.requires.unmarked),
    )

pub returns-clause-stands : goal.returns-clause-stands
returns-clause-stands c = pushed c.self.inside.engines.items c.self.inside.attached c.self.inside.row c.push.new.self c.self.inside.cuts.behind c.args.call c.args.self.now
    c.self.view_is c.push.ensures c.self.invariant.0.falls
