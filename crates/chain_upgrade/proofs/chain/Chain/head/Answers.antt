use Rattle.std.proofs.Common.{◌≡◌, ◌<◌, ℕ, length, filter, nat_le, subst, sym, ◌∙◌, arith}
use Rattle.chain_upgrade.proofs.Reading.{head-there, none-counted}
use Rattle.chain_upgrade.proofs.chain.Chain.head.Goals as goal

pub returns-then-cut-eq0-clause-none : goal.returns-then-cut-eq0-clause-none
returns-then-cut-eq0-clause-none c = none-counted (length c.args.self.now.engines) c.args.self.now.row
    (subst (λ (n : ℕ). length (filter (λ call. nat_le n call.1) c.args.self.now.row) ≡ 0) c.engines.ensures.count (sym c.cut.ensures ∙ c.if-cut-eq0.true))

pub returns-clause-ready : goal.returns-clause-ready
returns-clause-ready c = head-there c.self.inside.engines.items c.self.inside.attached c.self.inside.row c.self.inside.cuts.behind c.args.self.now
    c.self.view_is c.self.invariant.0.falls c.at.result.now c.self.invariant.0.short
    (subst (λ (n : ℕ). 0 < length (filter (λ call. nat_le n call.1) c.args.self.now.row)) c.engines.ensures.count
    (omega (arith, c.cut.ensures, c.if-cut-eq0.false))) c.at.ensures
