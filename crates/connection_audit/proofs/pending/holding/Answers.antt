use Rattle.std.proofs.Common.{◌≡◌, ◌∙◌, ap, sym}
use Rattle.chain_upgrade.specs.Chains.{ChainParts}
use Rattle.connection_audit.proofs.Held.{behind_of, held-none, held-not, held-some}
use Rattle.connection_audit.proofs.pending.holding.Goals as goal

pub returns-then-place-cut : goal.returns-then-place-cut
returns-then-place-cut c = λ seq is.
    let cut : c.cut.result ≡ behind_of c.args.position c.args.calls.now.chain.row =
    c.cut.ensures ∙ ap (λ (ch : ChainParts). behind_of c.args.position ch.row) c.chain-chain.ensures in
    sym (held-not c.args.calls.now c.is_connection.ensures c.args.place seq c.args.position is (λ here. c.if-place-cut.true (here ∙ sym cut)))

pub returns-in_default : goal.returns-in_default
returns-in_default c = λ seq is.
    let here : c.args.place ≡ behind_of c.args.position c.args.calls.now.chain.row =
    c.if-place-cut.false ∙ c.cut.ensures ∙ ap (λ (ch : ChainParts). behind_of c.args.position ch.row) c.chain-chain.ensures in
    held-none c.args.calls.now c.is_connection.ensures c.args.place seq c.args.position is c.chain-chain.result.now c.chain-chain.ensures here c.requires.position
    c.in_default.ensures.none

pub returns : goal.returns
returns c = λ seq is.
    let here : c.args.place ≡ behind_of c.args.position c.args.calls.now.chain.row =
    c.if-place-cut.false ∙ c.cut.ensures ∙ ap (λ (ch : ChainParts). behind_of c.args.position ch.row) c.chain-chain.ensures in
    held-some c.args.calls.now c.is_connection.ensures c.args.place seq c.args.position is c.chain-chain.result.now _ _ c.chain-chain.ensures here c.requires.position
    c.in-Some.ensures.holds
