use Rattle.std.proofs.Common.{sym, ◌∙◌}
use Rattle.chain_upgrade.proofs.Keeping.{cut-none, cut-some}
use Rattle.chain_upgrade.proofs.chain.Chain.cut.Goals as goal

pub returns-then-i-eq0 : goal.returns-then-i-eq0
returns-then-i-eq0 c = c.len.ensures.count
    ∙ sym (cut-none c.self.inside.engines.items c.self.inside.attached c.args.i c.self.inside.row c.self.inside.cuts.behind c.args.self.now c.self.view_is c.if-i-eq0.true)

pub returns-else-i-eq0 : goal.returns-else-i-eq0
returns-else-i-eq0 c =
    sym (cut-some c.self.inside.engines.items c.self.inside.attached c.args.i c.self.inside.row
    c.self.inside.cuts.behind c.args.self.now c.self.view_is c.if-i-eq0.false c.self.invariant.0.falls)
