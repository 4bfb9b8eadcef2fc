use Rattle.std.proofs.Common.{ℕ, Some, ap, sym, ◌∙◌, arith}
use Rattle.mrpc_table.specs.declared.call.Call.{Call}
use Rattle.chain_upgrade.proofs.Reading.{none-stands, stands-there}
use Rattle.chain_upgrade.proofs.chain.Chain.standing.Goals as goal

pub returns-then-i-len : goal.returns-then-i-len
returns-then-i-len c = sym (none-stands c.self.inside.engines.items c.self.inside.attached c.self.inside.row c.self.inside.cuts.behind c.args.self.now
    c.self.view_is c.self.invariant.0.falls c.args.i (omega (arith, c.len.ensures.count, c.if-i-len.true)))

pub returns : goal.returns
returns c =
    ap (λ (call : Call). Some (call.seq, c.position.result)) c.call.ensures
    ∙ (ap (λ (q : ℕ). Some (c.at.result.now.call.seq, q)) c.position.ensures
    ∙ sym (stands-there c.self.inside.engines.items c.self.inside.attached c.self.inside.row c.self.inside.cuts.behind c.args.self.now
    c.self.view_is c.self.invariant.0.falls c.args.i c.at.result.now (omega (arith, c.len.ensures.count, c.if-i-len.false)) c.at.ensures))
