use Rattle.std.proofs.Common.{◌≡◌, ◌+◌, length, refl, sym, ◌∙◌, arith}
use Rattle.chain_upgrade.specs.Cuts.{cut_at}
use Rattle.chain_upgrade.proofs.Reading.{cut-behind, cut-is, first-seen, none-at, within-seen}
use Rattle.chain_upgrade.proofs.chain.Chain.first_index.Goals as goal

pub returns-then-place-cut-clause-place : goal.returns-then-place-cut-clause-place
returns-then-place-cut-clause-place c = sym (cut-behind c.self.inside.engines.items c.self.inside.attached c.self.inside.row c.self.inside.cuts.behind c.args.self.now
    c.self.view_is c.self.invariant.0.falls c.args.at (c.args.at + 1) refl)

pub returns-then-place-cut-clause-within : goal.returns-then-place-cut-clause-within
returns-then-place-cut-clause-within c =
    let many : c.cut.result ≡ cut_at (length c.self.inside.row) c.self.inside.cuts.behind c.args.at =
    c.cut.ensures ∙ cut-is c.self.inside.engines.items c.self.inside.attached c.self.inside.row c.self.inside.cuts.behind c.args.self.now
    c.self.view_is c.self.invariant.0.falls c.args.at in
    within-seen c.self.inside.engines.items c.self.inside.attached c.self.inside.row c.self.inside.cuts.behind c.args.self.now
    c.self.view_is c.self.invariant.0.falls c.args.at (omega (arith, many, c.if-place-cut.true))

pub returns-then-place-cut-clause-first : goal.returns-then-place-cut-clause-first
returns-then-place-cut-clause-first c s there =
    let many : c.cut.result ≡ cut_at (length c.self.inside.row) c.self.inside.cuts.behind c.args.at =
    c.cut.ensures ∙ cut-is c.self.inside.engines.items c.self.inside.attached c.self.inside.row c.self.inside.cuts.behind c.args.self.now
    c.self.view_is c.self.invariant.0.falls c.args.at in
    first-seen c.self.inside.engines.items c.self.inside.attached c.self.inside.row c.self.inside.cuts.behind c.args.self.now
    c.self.view_is c.self.invariant.0.falls c.args.at s (omega (arith, many, c.if-place-cut.true)) there

pub returns-else-place-cut-clause-none : goal.returns-else-place-cut-clause-none
returns-else-place-cut-clause-none c =
    let many : c.cut.result ≡ cut_at (length c.self.inside.row) c.self.inside.cuts.behind c.args.at =
    c.cut.ensures ∙ cut-is c.self.inside.engines.items c.self.inside.attached c.self.inside.row c.self.inside.cuts.behind c.args.self.now
    c.self.view_is c.self.invariant.0.falls c.args.at in
    none-at c.self.inside.engines.items c.self.inside.attached c.self.inside.row c.self.inside.cuts.behind c.args.self.now
    c.self.view_is c.self.invariant.0.falls c.args.at (omega (arith, many, c.if-place-cut.false))
