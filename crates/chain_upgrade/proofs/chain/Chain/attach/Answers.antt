use Rattle.std.proofs.Common.{◌≡◌, ◌+◌, ◌≤◌, ℕ, List, [], Some, insert, length, map, slice_get, refl, ap, sym, ◌∙◌, subst, arith, vec_capacity}
use Rattle.engine_core.specs.Chains.{HasChanged, Entry, IsChain, IsReasonToReject}
use Rattle.engine_core.specs.Engines.{EngineParts, IsHistoryOfBucket}
use Rattle.engine_core.specs.Moves.{returned_to}
use Rattle.engine_core.specs.Policies.{IsPolicy}
use Rattle.engine_core.specs.declared.op.Op.TheVariants.{Attach}
use Rattle.engine_core.specs.Marks.{seqs_of}
use Rattle.chain_upgrade.specs.Chains.{ChainParts, chain_of_state}
use Rattle.chain_upgrade.specs.Cuts.{row_from}
use Rattle.chain_upgrade.proofs.Keeping.{kept-as, kept-attach}
use Rattle.chain_upgrade.proofs.RowLaws.{row-back}
use Rattle.chain_upgrade.proofs.Stands.{one-some, stands-attach}
use Rattle.chain_upgrade.proofs.Steps.{attach-changes, inserted-at}
use Rattle.chain_upgrade.proofs.MarksLeft.{have-insert}
use Rattle.chain_upgrade.proofs.chain.Chain.attach.Goals as goal

made : (c : goal.After-zero_after) (label : List ℕ)
    → HasChanged (record { entries = map (λ e. e.entry) c.self.inside.engines.items; attached = c.self.inside.attached }) (Attach c.args.at c.args.name label c.args.policy)
    (record { entries = map (λ e. e.entry) (insert c.self.inside.engines.items c.args.at c.new.result); attached = c.self.inside.attached + 1 })
made c label = attach-changes c.self.inside.engines.items c.self.inside.attached c.args.at c.args.name label c.args.policy c.new.result
    c.changed_is_the_change.ensures.unless_refused c.self.invariant.0.stands.chain
    (λ r against. c.in_ok-name.ensures.free label c.args.policy r
    (subst (λ (entries : List _). IsReasonToReject entries (Attach c.args.at c.args.name label c.args.policy) r)
    (ap (λ (es : List EngineParts). map (λ e. e.entry) es) (sym c.deref.ensures.value)) against))
    (subst (λ (name : List ℕ). c.new.result.entry ≡ record {
      name = name;
      attach = c.self.inside.attached + 1;
      version = 1;
      policy = c.args.policy;
    }) c.in_ok-name.ensures.name c.new.ensures.entry)

pub invariant_of-self : goal.invariant_of-self
invariant_of-self c =
    let chain : IsChain (record { entries = map (λ e. e.entry) (insert c.self.inside.engines.items c.args.at c.new.result); attached = c.self.inside.attached + 1 }) =
    c.change_preserves_chain.ensures (record { entries = map (λ e. e.entry) c.self.inside.engines.items; attached = c.self.inside.attached })
    (record { entries = map (λ e. e.entry) (insert c.self.inside.engines.items c.args.at c.new.result); attached = c.self.inside.attached + 1 })
    (Attach c.args.at c.args.name [] c.args.policy) c.self.invariant.0.stands.chain (made c []) in
    let room = c.in_ok-name.ensures.room in
    let at : c.args.at ≤ length c.self.inside.engines.items = omega (arith, room.0, ap (λ (es : List EngineParts). length es) c.deref.ensures.value) in
    let stands = stands-attach c.self.inside.engines.items c.self.inside.attached c.args.at c.self.inside.row c.new.result c.unmarked_is_true.ensures
    c.self.invariant.0.stands chain (subst (λ (e : Entry). IsPolicy e.policy) (sym c.new.ensures.entry) c.requires.ranges) (ap (λ (e : Entry). e.attach) c.new.ensures.entry) in (
      kept-as _ _ _ _ _ _ _ _ _ c.insert_within_capacity.ensures.items c.insert_within_capacity.ensures.capacity refl c.zero_after.ensures
          (kept-attach c.self.inside.engines.items (vec_capacity c.self.inside.engines) c.self.inside.attached c.args.at c.self.inside.row c.self.inside.cuts.behind c.new.result
          c.self.invariant.0 at stands),
      rw c.insert_within_capacity.ensures.items (have-insert c.self.inside.engines.items c.args.at c.new.result c.self.inside.stale c.self.inside.row c.self.invariant.1),
    )

pub returns-clause-changes : goal.returns-clause-changes
returns-clause-changes c label =
    subst (λ (v : ChainParts). HasChanged (chain_of_state v) (Attach c.args.at c.args.name label c.args.policy)
    (record { entries = map (λ e. e.entry) c.insert_within_capacity.new.items.items; attached = c.self.inside.attached + 1 }))
    c.self.view_is
    (subst (λ (es : List EngineParts). HasChanged (record {
      entries = map (λ e. e.entry) c.self.inside.engines.items;
      attached = c.self.inside.attached;
    }) (Attach c.args.at c.args.name label c.args.policy)
    (record { entries = map (λ e. e.entry) es; attached = c.self.inside.attached + 1 }))
    (sym c.insert_within_capacity.ensures.items) (made c label))

pub returns-clause-past : goal.returns-clause-past
returns-clause-past c e rate is rated =
    let room = c.in_ok-name.ensures.room in
    let at : c.args.at ≤ length c.self.inside.engines.items = omega (arith, room.0, ap (λ (es : List EngineParts). length es) c.deref.ensures.value) in
    let there : slice_get c.insert_within_capacity.new.items.items c.args.at ≡ Some c.new.result =
    ap (λ (es : List EngineParts). slice_get es c.args.at) c.insert_within_capacity.ensures.items ∙ inserted-at c.self.inside.engines.items c.args.at c.new.result at in
    let same : c.new.result ≡ e = one-some (slice_get c.insert_within_capacity.new.items.items c.args.at) c.new.result e there is in
    subst (λ (e : EngineParts). IsHistoryOfBucket e rate c.args.now []) same (c.new.ensures.past rate rated)

pub returns-clause-row : goal.returns-clause-row
returns-clause-row c = ap (λ (cuts : List ℕ). row_from 0 cuts (seqs_of c.self.inside.row)) c.zero_after.ensures
    ∙ (row-back c.args.at c.self.inside.cuts.behind (seqs_of c.self.inside.row) ∙ ap (λ (v : ChainParts). returned_to c.args.at v.row) c.self.view_is)
