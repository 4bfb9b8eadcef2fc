use Rattle.std.proofs.Common.{◌≡◌, ◌<◌, ℕ, List, length, refl, ap, sym, ◌∙◌, subst, slice_get, Some, vec_capacity}
use Rattle.engine_core.specs.Marks.{PendingCall, seqs_of}
use Rattle.engine_core.specs.declared.outcome.Outcome.{Outcome}
use Rattle.chain_upgrade.specs.Chains.{ChainParts, row_after}
use Rattle.chain_upgrade.specs.Cuts.{row_from, taken_out}
use Rattle.chain_upgrade.proofs.AfterTurns.{few-behind, inside, passed-kept, passed-row, redacted-kept, redacted-row, refused-kept, refused-row}
use Rattle.chain_upgrade.proofs.Keeping.{kept-as}
use Rattle.chain_upgrade.proofs.MarksLeft.{have-without}
use Rattle.chain_upgrade.proofs.chain.Chain.settle.Goals as goal

pub raise-requires-clause-room : goal.raise-requires-clause-room
raise-requires-clause-room c = few-behind c.self.inside.engines.items (vec_capacity c.self.inside.engines) c.self.inside.attached c.args.at c.args.place
    c.self.inside.row c.self.inside.cuts.behind c.args.self.now c.self.view_is c.self.invariant.0 c.requires.place c.requires.below

pub invariant_of-self : goal.invariant_of-self
invariant_of-self c =
    let at : c.args.at < length c.self.inside.engines.items = subst (λ (n : ℕ). c.args.at < n) (ap (λ (v : ChainParts). length v.engines) (sym c.self.view_is)) c.requires.at in (
      kept-as _ _ _ _ _ _ _ _ _ refl refl refl c.raise.ensures.raised
          (passed-kept c.self.inside.engines.items (vec_capacity c.self.inside.engines) c.self.inside.attached c.args.at c.args.place
          c.self.inside.row c.self.inside.cuts.behind c.args.self.now c.self.view_is c.self.invariant.0 c.requires.place c.requires.below at),
      c.self.invariant.1,
    )

pub drop_at-requires : goal.drop_at-requires
drop_at-requires c = inside c.self.inside.engines.items (vec_capacity c.self.inside.engines) c.self.inside.attached c.args.at c.args.place
    c.self.inside.row c.self.inside.cuts.behind c.args.self.now c.self.view_is c.self.invariant.0 c.requires.place c.requires.below

pub invariant_of-self-in-Refused : goal.invariant_of-self-in-Refused
invariant_of-self-in-Refused c = (
  kept-as _ _ _ _ _ _ _ _ _ refl refl c.drop_at.ensures c.remove_call.ensures
      (refused-kept c.self.inside.engines.items (vec_capacity c.self.inside.engines) c.self.inside.attached c.args.at c.args.place
      c.self.inside.row c.self.inside.cuts.behind c.args.self.now c.self.view_is c.self.invariant.0 c.requires.place c.requires.below),
  rw (c.drop_at.ensures, c.without-self-inside.ensures) (have-without c.self.inside.engines.items c.self.inside.stale c.args.place c.self.inside.row c.self.invariant.1),
)

pub invariant_of-self-in-Redacted : goal.invariant_of-self-in-Redacted
invariant_of-self-in-Redacted c = (
  kept-as _ _ _ _ _ _ _ _ _ refl refl refl c.lower_to.ensures
      (redacted-kept c.self.inside.engines.items (vec_capacity c.self.inside.engines) c.self.inside.attached c.args.at c.args.place
      c.self.inside.row c.self.inside.cuts.behind c.args.self.now c.self.view_is c.self.invariant.0 c.requires.place c.requires.below),
  c.self.invariant.1,
)

pub returns-in-Passed-clause-row : goal.returns-in-Passed-clause-row
returns-in-Passed-clause-row c s is =
    let there : slice_get c.self.inside.row c.args.place ≡ Some s = ap (λ (v : ChainParts). slice_get v.calls c.args.place) c.self.view_is ∙ is in
    ap (λ (cuts : List ℕ). row_from 0 cuts (seqs_of c.self.inside.row)) c.raise.ensures.raised
    ∙ (passed-row c.self.inside.engines.items (vec_capacity c.self.inside.engines) c.self.inside.attached c.args.at c.args.place
    c.self.inside.row c.self.inside.cuts.behind c.args.self.now c.self.view_is c.self.invariant.0 c.requires.place c.requires.below s c.raise.ensures.within there
    ∙ ap (λ (outcome : Outcome). row_after s.call.seq outcome c.args.self.now.row) (sym c.in-Passed.is))

pub returns-in-Refused-clause-row : goal.returns-in-Refused-clause-row
returns-in-Refused-clause-row c s is =
    let there : slice_get c.self.inside.row c.args.place ≡ Some s = ap (λ (v : ChainParts). slice_get v.calls c.args.place) c.self.view_is ∙ is in
    ap (λ (cuts : List ℕ). row_from 0 cuts (seqs_of c.drop_at.new.self)) c.remove_call.ensures
    ∙ (ap (λ (calls : List PendingCall). row_from 0 (taken_out c.args.place c.self.inside.cuts.behind) (seqs_of calls)) c.drop_at.ensures
    ∙ (refused-row c.self.inside.engines.items (vec_capacity c.self.inside.engines) c.self.inside.attached c.args.at c.args.place
    c.self.inside.row c.self.inside.cuts.behind c.args.self.now c.self.view_is c.self.invariant.0 c.requires.place c.requires.below s there
    ∙ ap (λ (outcome : Outcome). row_after s.call.seq outcome c.args.self.now.row) (sym c.in-Refused.is)))

pub returns-in-Redacted-clause-row : goal.returns-in-Redacted-clause-row
returns-in-Redacted-clause-row c s is =
    let there : slice_get c.self.inside.row c.args.place ≡ Some s = ap (λ (v : ChainParts). slice_get v.calls c.args.place) c.self.view_is ∙ is in
    ap (λ (cuts : List ℕ). row_from 0 cuts (seqs_of c.self.inside.row)) c.lower_to.ensures
    ∙ (redacted-row c.self.inside.engines.items (vec_capacity c.self.inside.engines) c.self.inside.attached c.args.at c.args.place
    c.self.inside.row c.self.inside.cuts.behind c.args.self.now c.self.view_is c.self.invariant.0 c.requires.place c.requires.below s there
    ∙ ap (λ (outcome : Outcome). row_after s.call.seq outcome c.args.self.now.row) (sym c.in-Redacted.is))
