use Rattle.std.proofs.Common.{◌≡◌, ◌∷◌, ℕ, true, false, List, All, map, insert, set, slice_get, Contains, Some, refl, ap, sym, ◌∙◌, subst, vec_capacity}
use Rattle.std.proofs.lemmas.List.{length-set}
use Rattle.policy_rate.specs.Level.{upgrade}
use Rattle.engine_core.specs.Chains.{HasChanged, Entry, IsChain, names_of, upgraded}
use Rattle.engine_core.specs.Engines.{EngineParts, IsHistoryOfBucket}
use Rattle.engine_core.specs.Marks.{IsTrueFor, seqs_of}
use Rattle.engine_core.specs.Moves.{returned_to, position_of}
use Rattle.engine_core.specs.Policies.{IsPolicy, is_same_kind, level_after_upgrade}
use Rattle.engine_core.specs.declared.op.Op.TheVariants.{Upgrade}
use Rattle.engine_core.specs.declared.policy.Policy.{Policy}
use Rattle.chain_upgrade.specs.Chains.{ChainParts, chain_of_state}
use Rattle.chain_upgrade.specs.Cuts.{row_from}
use Rattle.chain_upgrade.proofs.Keeping.{kept-as, kept-upgrade}
use Rattle.chain_upgrade.proofs.Named.{IsFound, found, map-at, none-found, upgrade-changes, upgraded-is}
use Rattle.chain_upgrade.proofs.RowLaws.{row-back}
use Rattle.chain_upgrade.proofs.Stands.{one-some, same-map, set-there, stands-upgrade, there-at}
use Rattle.chain_upgrade.proofs.Steps.{has-entry, put-back, refuses-kind, refuses-upgrade}
use Rattle.chain_upgrade.proofs.Turning.{All-at}
use Rattle.chain_upgrade.proofs.MarksLeft.{have-same}
use Rattle.chain_upgrade.proofs.chain.Chain.upgrade.Goals as goal

pub returns-in_default-clause-refused : goal.returns-in_default-clause-refused
returns-in_default-clause-refused c = λ label. refuses-upgrade (chain_of_state c.args.self.now) c.args.name label c.args.policy
    (subst (λ (es : List EngineParts). Contains (names_of (map (λ e. e.entry) es)) c.args.name → ⊥)
    (c.deref.ensures.value ∙ ap (λ (v : ChainParts). v.engines) c.self.view_is)
    (none-found c.args.name c.deref.result.now (sym c.position_of.ensures ∙ c.in_default.is)))

pub returns-then-not-is_same_kind-clause-refused : goal.returns-then-not-is_same_kind-clause-refused
returns-then-not-is_same_kind-clause-refused c = λ label.
    let it : IsFound c.args.name c.in-Some.place c.self.inside.engines.items = subst (λ (es : List EngineParts). IsFound c.args.name c.in-Some.place es) c.deref.ensures.value
    (found c.args.name c.in-Some.place c.deref.result.now (sym c.position_of.ensures ∙ c.in-Some.is)) in
    let there : slice_get c.self.inside.engines.items c.in-Some.place ≡ Some c.index.result.now =
    there-at c.self.inside.engines.items c.in-Some.place c.index.result.now it.within c.index.ensures in
    let at = it.at in
    let same : it.it ≡ c.index.result.now = one-some (slice_get c.self.inside.engines.items c.in-Some.place) it.it c.index.result.now at there in
    let other : is_same_kind it.it.entry.policy c.args.policy ≡ false =
    ap (λ (e : EngineParts). is_same_kind e.entry.policy c.args.policy) same
    ∙ (ap (λ (policy : Policy). is_same_kind policy c.args.policy) (sym c.policy.ensures.policy) ∙ (sym c.is_same_kind.ensures ∙ c.if-not-is_same_kind.true)) in
    let here : slice_get c.args.self.now.engines c.in-Some.place ≡ Some it.it = ap (λ (v : ChainParts). slice_get v.engines c.in-Some.place) (sym c.self.view_is) ∙ at in
    let has : Contains (names_of (map (λ e. e.entry) c.args.self.now.engines)) c.args.name =
    subst (λ (v : ChainParts). Contains (names_of (map (λ e. e.entry) v.engines)) c.args.name) c.self.view_is it.has in
    refuses-kind (chain_of_state c.args.self.now) c.args.name label c.args.policy it.it.entry has
    (has-entry (map (λ e. e.entry) c.args.self.now.engines) c.in-Some.place it.it.entry (map-at (λ (e : EngineParts). e.entry) c.args.self.now.engines c.in-Some.place it.it here))
    it.named other

its-place : (c : goal.After-drop-name) → IsFound c.args.name c.in-Some.place c.self.inside.engines.items
its-place c = subst (λ (es : List EngineParts). IsFound c.args.name c.in-Some.place es) c.deref.ensures.value
    (found c.args.name c.in-Some.place c.deref.result.now (sym c.position_of.ensures ∙ c.in-Some.is))

-- the engine that was taken out
its-engine : (c : goal.After-drop-name) → slice_get c.self.inside.engines.items c.in-Some.place ≡ Some c.decompose-state.result
its-engine c = there-at c.self.inside.engines.items c.in-Some.place c.remove.result (its-place c).within c.remove.ensures.value
    ∙ ap (λ (e : EngineParts). Some e) (sym c.decompose-state.ensures)

its-name : (c : goal.After-drop-name) → c.decompose-state.result.entry.name ≡ c.args.name
its-name c =
    let it = its-place c in
    let at = it.at in
    let there = its-engine c in
    let same : c.decompose-state.result ≡ it.it = one-some (slice_get c.self.inside.engines.items c.in-Some.place) c.decompose-state.result it.it there at in
    ap (λ (e : EngineParts). e.entry.name) same ∙ it.named

its-kind : (c : goal.After-drop-name) → is_same_kind c.decompose-state.result.entry.policy c.args.policy ≡ true
its-kind c =
    let there = its-engine c in
    let looked : slice_get c.self.inside.engines.items c.in-Some.place ≡ Some c.index.result.now =
    there-at c.self.inside.engines.items c.in-Some.place c.index.result.now (its-place c).within c.index.ensures in
    let same : c.decompose-state.result ≡ c.index.result.now = one-some (slice_get c.self.inside.engines.items c.in-Some.place) c.decompose-state.result c.index.result.now there looked in
    ap (λ (e : EngineParts). is_same_kind e.entry.policy c.args.policy) same
    ∙ (ap (λ (policy : Policy). is_same_kind policy c.args.policy) (sym c.policy.ensures.policy) ∙ (sym c.is_same_kind.ensures ∙ c.if-not-is_same_kind.false))

-- the new one is at its position
replaced : (c : goal.After-drop-name) → c.insert_within_capacity.new.items.items ≡ set c.self.inside.engines.items c.in-Some.place c.restore.result
replaced c = c.insert_within_capacity.ensures.items
    ∙ (ap (λ (es : List EngineParts). insert es c.in-Some.place c.restore.result) c.remove.ensures.items
    ∙ put-back c.self.inside.engines.items c.in-Some.place c.restore.result (its-place c).within)

made : (c : goal.After-drop-name) (label : List ℕ)
    → HasChanged (record { entries = map (λ e. e.entry) c.self.inside.engines.items; attached = c.self.inside.attached }) (Upgrade c.args.name label c.args.policy)
    (record { entries = map (λ e. e.entry) (set c.self.inside.engines.items c.in-Some.place c.restore.result); attached = c.self.inside.attached })
made c label = upgrade-changes c.self.inside.engines.items c.self.inside.attached c.in-Some.place c.args.name label c.args.policy c.decompose-state.result c.restore.result
    c.changed_is_the_change.ensures.unless_refused c.self.invariant.0.stands.chain (its-engine c) (its-name c) (its-kind c) c.restore.ensures.entry

pub invariant_of-self : goal.invariant_of-self
invariant_of-self c =
    let chain : IsChain (record { entries = map (λ e. e.entry) (set c.self.inside.engines.items c.in-Some.place c.restore.result); attached = c.self.inside.attached }) =
    c.change_preserves_chain.ensures (record { entries = map (λ e. e.entry) c.self.inside.engines.items; attached = c.self.inside.attached })
    (record { entries = map (λ e. e.entry) (set c.self.inside.engines.items c.in-Some.place c.restore.result); attached = c.self.inside.attached })
    (Upgrade c.args.name c.args.name c.args.policy) c.self.invariant.0.stands.chain (made c c.args.name) in
    let stands = stands-upgrade c.self.inside.engines.items c.self.inside.attached c.in-Some.place c.self.inside.row c.decompose-state.result c.restore.result
    c.self.invariant.0.stands (its-engine c) chain (subst (λ (e : Entry). IsPolicy e.policy) (sym c.restore.ensures.entry) c.requires.ranges) c.restore.ensures.stays_true
    (All-at (λ e. All (λ s. IsTrueFor e.entry s) c.self.inside.row) c.self.inside.engines.items c.in-Some.place c.decompose-state.result c.self.invariant.0.stands.true_for (its-engine c)) in (
      kept-as _ _ _ _ _ _ _ _ _ (replaced c) (c.insert_within_capacity.ensures.capacity ∙ c.remove.ensures.capacity) refl c.zero_after.ensures
          (kept-upgrade c.self.inside.engines.items (set c.self.inside.engines.items c.in-Some.place c.restore.result) (vec_capacity c.self.inside.engines)
          c.self.inside.attached c.in-Some.place c.self.inside.row c.self.inside.cuts.behind c.self.invariant.0 (its-place c).within
          (length-set c.self.inside.engines.items c.in-Some.place c.restore.result) stands),
      rw (replaced c) (have-same c.self.inside.engines.items (set c.self.inside.engines.items c.in-Some.place c.restore.result) c.self.inside.stale c.self.inside.row
          (same-map (λ (e : EngineParts). e.entry.attach) c.self.inside.engines.items c.in-Some.place c.decompose-state.result c.restore.result (its-engine c)
          (ap (λ (e : Entry). e.attach) c.restore.ensures.entry)) c.self.invariant.1),
    )

pub returns-clause-changes : goal.returns-clause-changes
returns-clause-changes c = λ label.
    subst (λ (v : ChainParts). HasChanged (chain_of_state v) (Upgrade c.args.name label c.args.policy)
    (record { entries = map (λ e. e.entry) c.insert_within_capacity.new.items.items; attached = c.self.inside.attached }))
    c.self.view_is
    (subst (λ (es : List EngineParts). HasChanged (record {
      entries = map (λ e. e.entry) c.self.inside.engines.items;
      attached = c.self.inside.attached;
    }) (Upgrade c.args.name label c.args.policy)
    (record { entries = map (λ e. e.entry) es; attached = c.self.inside.attached })) (sym (replaced c)) (made c label))

-- its position, as callers see it
seen-place : (c : goal.After-drop-name) → position_of c.args.name (map (λ e. e.entry) c.args.self.now.engines) ≡ c.in-Some.place
seen-place c = ap (λ (v : ChainParts). position_of c.args.name (map (λ e. e.entry) v.engines)) (sym c.self.view_is) ∙ (its-place c).place_is

seen-engine : (c : goal.After-drop-name) (e : EngineParts)
    → slice_get c.args.self.now.engines (position_of c.args.name (map (λ e. e.entry) c.args.self.now.engines)) ≡ Some e → c.decompose-state.result ≡ e
seen-engine c e is =
    let here : slice_get c.args.self.now.engines (position_of c.args.name (map (λ e. e.entry) c.args.self.now.engines)) ≡ Some c.decompose-state.result =
    ap (λ (p : ℕ). slice_get c.args.self.now.engines p) (seen-place c)
    ∙ (ap (λ (v : ChainParts). slice_get v.engines c.in-Some.place) (sym c.self.view_is) ∙ its-engine c) in
    one-some (slice_get c.args.self.now.engines (position_of c.args.name (map (λ e. e.entry) c.args.self.now.engines))) c.decompose-state.result e here is

pub returns-clause-engines : goal.returns-clause-engines
returns-clause-engines c = λ e is.
    replaced c
    ∙ (ap (λ (v : ChainParts). set v.engines c.in-Some.place c.restore.result) c.self.view_is
    ∙ (ap (λ (p : ℕ). set c.args.self.now.engines p c.restore.result) (sym (seen-place c))
    ∙ ap (λ (x : EngineParts). set c.args.self.now.engines (position_of c.args.name (map (λ e. e.entry) c.args.self.now.engines)) x)
    (subst (λ (e : EngineParts). c.restore.result ≡ record {
      entry = upgraded e.entry c.args.policy;
      level = level_after_upgrade e.entry.policy c.args.policy e.level;
      last = e.last;
    }) (seen-engine c e is)
    (upgraded-is c.args.policy c.decompose-state.result c.restore.result c.restore.ensures.entry c.restore.ensures.level c.restore.ensures.last))))

pub returns-clause-past : goal.returns-clause-past
returns-clause-past c = λ before after first rate start past is is' rated has.
    let here : slice_get c.insert_within_capacity.new.items.items (position_of c.args.name (map (λ e. e.entry) c.args.self.now.engines)) ≡ Some c.restore.result =
    ap (λ (p : ℕ). slice_get c.insert_within_capacity.new.items.items p) (seen-place c)
    ∙ (ap (λ (es : List EngineParts). slice_get es c.in-Some.place) (replaced c)
    ∙ set-there c.self.inside.engines.items c.in-Some.place c.decompose-state.result c.restore.result (its-engine c)) in
    let new : c.restore.result ≡ after =
    one-some (slice_get c.insert_within_capacity.new.items.items
    (position_of c.args.name (map (λ e. e.entry) c.args.self.now.engines))) c.restore.result after here is' in
    subst (λ (e : EngineParts). IsHistoryOfBucket e first start (upgrade rate ∷ past)) new
    (c.restore.ensures.past first rate start past rated (subst (λ (e : EngineParts). IsHistoryOfBucket e first start past) (sym (seen-engine c before is)) has))

pub returns-clause-row : goal.returns-clause-row
returns-clause-row c =
    ap (λ (cuts : List ℕ). row_from 0 cuts (seqs_of c.self.inside.row)) c.zero_after.ensures
    ∙ (row-back c.in-Some.place c.self.inside.cuts.behind (seqs_of c.self.inside.row)
    ∙ (ap (λ (v : ChainParts). returned_to c.in-Some.place v.row) c.self.view_is
    ∙ ap (λ (p : ℕ). returned_to p c.args.self.now.row) (sym (seen-place c))))
