use Rattle.std.proofs.Common.{arith}
use Rattle.std.proofs.Common.{ℕ, List, map, remove, Contains, refl, ap, sym, ◌∙◌, subst, vec_capacity}
use Rattle.engine_core.specs.Chains.{HasChanged, IsChain, names_of}
use Rattle.engine_core.specs.Engines.{EngineParts}
use Rattle.engine_core.specs.Moves.{moved_up, position_of}
use Rattle.engine_core.specs.declared.op.Op.TheVariants.{Detach}
use Rattle.engine_core.specs.Marks.{seqs_of}
use Rattle.chain_upgrade.specs.Chains.{ChainParts, chain_of_state}
use Rattle.chain_upgrade.specs.Cuts.{row_from}
use Rattle.chain_upgrade.proofs.Keeping.{kept-as, kept-detach}
use Rattle.chain_upgrade.proofs.Named.{IsFound, detach-changes, found, none-found}
use Rattle.chain_upgrade.proofs.RowLaws.{row-up}
use Rattle.chain_upgrade.proofs.Stands.{stands-detach}
use Rattle.chain_upgrade.proofs.Steps.{refuses-detach}
use Rattle.chain_upgrade.proofs.MarksLeft.{have-all}
use Rattle.chain_upgrade.proofs.chain.Chain.detach.Goals as goal

pub returns-in_default-clause-refused : goal.returns-in_default-clause-refused
returns-in_default-clause-refused c = refuses-detach (chain_of_state c.args.self.now) c.args.name
    (subst (λ (es : List EngineParts). Contains (names_of (map (λ e. e.entry) es)) c.args.name → ⊥)
    (c.deref.ensures.value ∙ ap (λ (v : ChainParts). v.engines) c.self.view_is)
    (none-found c.args.name c.deref.result.now (sym c.position_of.ensures ∙ c.in_default.is)))

its-place : (c : goal.After-drop-name) → IsFound c.args.name c.in-Some.place c.self.inside.engines.items
its-place c = subst (λ (es : List EngineParts). IsFound c.args.name c.in-Some.place es) c.deref.ensures.value
    (found c.args.name c.in-Some.place c.deref.result.now (sym c.position_of.ensures ∙ c.in-Some.is))

made : (c : goal.After-drop-name)
    → HasChanged (record { entries = map (λ e. e.entry) c.self.inside.engines.items; attached = c.self.inside.attached }) (Detach c.args.name)
    (record { entries = map (λ e. e.entry) (remove c.self.inside.engines.items c.in-Some.place); attached = c.self.inside.attached })
made c = detach-changes c.self.inside.engines.items c.self.inside.attached c.in-Some.place c.args.name c.changed_is_the_change.ensures.unless_refused
    c.self.invariant.0.stands.chain (its-place c)

pub invariant_of-self : goal.invariant_of-self
invariant_of-self c =
    let it = its-place c in
    let chain : IsChain (record { entries = map (λ e. e.entry) (remove c.self.inside.engines.items c.in-Some.place); attached = c.self.inside.attached }) =
    c.change_preserves_chain.ensures (record { entries = map (λ e. e.entry) c.self.inside.engines.items; attached = c.self.inside.attached })
    (record { entries = map (λ e. e.entry) (remove c.self.inside.engines.items c.in-Some.place); attached = c.self.inside.attached })
    (Detach c.args.name) c.self.invariant.0.stands.chain (made c) in (
      kept-as _ _ _ _ _ _ _ _ _ c.remove.ensures.items c.remove.ensures.capacity refl c.close_up.ensures
          (kept-detach c.self.inside.engines.items (vec_capacity c.self.inside.engines) c.self.inside.attached c.in-Some.place c.self.inside.row c.self.inside.cuts.behind
          c.self.invariant.0 it.within
          (stands-detach c.self.inside.engines.items c.self.inside.attached c.in-Some.place c.self.inside.row c.self.invariant.0.stands chain)),
      have-all c.remove.new.self.items _ c.self.inside.row (omega (arith, c.len.ensures.count)),
    )

pub returns-clause-changes : goal.returns-clause-changes
returns-clause-changes c =
    subst (λ (v : ChainParts). HasChanged (chain_of_state v) (Detach c.args.name)
    (record { entries = map (λ e. e.entry) c.remove.new.self.items; attached = c.self.inside.attached }))
    c.self.view_is
    (subst (λ (es : List EngineParts). HasChanged (record { entries = map (λ e. e.entry) c.self.inside.engines.items; attached = c.self.inside.attached }) (Detach c.args.name)
    (record { entries = map (λ e. e.entry) es; attached = c.self.inside.attached })) (sym c.remove.ensures.items) (made c))

pub returns-clause-engines : goal.returns-clause-engines
returns-clause-engines c =
    let it = its-place c in
    c.remove.ensures.items
    ∙ (ap (λ (p : ℕ). remove c.self.inside.engines.items p) (sym it.place_is)
    ∙ ap (λ (v : ChainParts). remove v.engines (position_of c.args.name (map (λ e. e.entry) v.engines))) c.self.view_is)

pub returns-clause-row : goal.returns-clause-row
returns-clause-row c =
    let it = its-place c in
    ap (λ (cuts : List ℕ). row_from 0 cuts (seqs_of c.self.inside.row)) c.close_up.ensures
    ∙ (row-up _ c.in-Some.place c.self.inside.cuts.behind (seqs_of c.self.inside.row) c.self.invariant.0.falls
    ∙ (ap (λ (p : ℕ). moved_up p (row_from 0 c.self.inside.cuts.behind (seqs_of c.self.inside.row))) (sym it.place_is)
    ∙ ap (λ (v : ChainParts). moved_up (position_of c.args.name (map (λ e. e.entry) v.engines)) v.row) c.self.view_is))
