use Rattle.std.proofs.Common.{◌≡◌, ◌<◌, ◌∷◌, ℕ, List, length, filter, nat_le, remove, refl, ap, subst, sym, ◌∙◌, arith, vec_capacity}
use Rattle.engine_core.specs.Marks.{PendingCall, seqs_of}
use Rattle.chain_upgrade.specs.Chains.{ChainParts}
use Rattle.chain_upgrade.specs.Cuts.{row_from, taken_out}
use Rattle.chain_upgrade.proofs.Keeping.{kept-as, kept-without}
use Rattle.chain_upgrade.proofs.Reading.{head-below, none-counted, row-ready}
use Rattle.chain_upgrade.proofs.Stands.{inside-at}
use Rattle.chain_upgrade.proofs.MarksLeft.{have-without}
use Rattle.chain_upgrade.proofs.chain.Chain.pop_ready.Goals as goal

pub returns-then-cut-eq0-clause-none : goal.returns-then-cut-eq0-clause-none
returns-then-cut-eq0-clause-none c = none-counted (length c.args.self.now.engines) c.args.self.now.row
    (subst (λ (n : ℕ). length (filter (λ call. nat_le n call.1) c.args.self.now.row) ≡ 0) c.engines.ensures.count (sym c.cut.ensures ∙ c.if-cut-eq0.true))

pub invariant_of-self : goal.invariant_of-self
invariant_of-self c = (
  kept-as _ _ _ _ _ _ _ _ _ refl refl c.take.ensures.rest c.remove_call.ensures
      (kept-without c.self.inside.engines.items (vec_capacity c.self.inside.engines) c.self.inside.attached 0 c.self.inside.row c.self.inside.cuts.behind
      c.self.invariant.0 (inside-at c.self.inside.row 0 c.take.result c.take.ensures.call)),
  rw (c.take.ensures.rest, c.without-self-inside.ensures) (have-without c.self.inside.engines.items c.self.inside.stale 0 c.self.inside.row c.self.invariant.1),
)

pub returns-clause-ready : goal.returns-clause-ready
returns-clause-ready c =
    row-ready c.self.inside.engines.items c.self.inside.attached c.self.inside.row c.self.inside.cuts.behind c.args.self.now c.take.result
    c.self.view_is c.self.invariant.0.falls c.self.invariant.0.short
    (head-below c.self.inside.engines.items c.self.inside.attached c.self.inside.row c.self.inside.cuts.behind c.args.self.now
    c.self.view_is c.self.invariant.0.falls
    (subst (λ (n : ℕ). 0 < length (filter (λ call. nat_le n call.1) c.args.self.now.row)) c.engines.ensures.count
    (omega (arith, c.cut.ensures, c.if-cut-eq0.false)))) c.take.ensures.call
    ∙ (ap (λ (v : ChainParts). (c.take.result.call.seq, length v.engines) ∷ row_from 0 (taken_out 0 c.self.inside.cuts.behind) (seqs_of (remove c.self.inside.row 0))) c.self.view_is
    ∙ (ap (λ (cuts : List ℕ). (c.take.result.call.seq, length c.args.self.now.engines) ∷ row_from 0 cuts (seqs_of (remove c.self.inside.row 0))) (sym c.remove_call.ensures)
    ∙ ap (λ (calls : List PendingCall). (c.take.result.call.seq, length c.args.self.now.engines) ∷ row_from 0 c.remove_call.new.self.behind (seqs_of calls)) (sym c.take.ensures.rest)))
