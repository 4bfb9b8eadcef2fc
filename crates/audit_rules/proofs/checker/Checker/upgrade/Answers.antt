use Rattle.std.proofs.Common.{◌≡◌, ◌<◌, ◌≤◌, ◌+◌, ◌∙◌, ℕ, List, Contains, Some, ap, arith, get_or, insert, length, map, refl, slice_get, subst, sym}
use Rattle.std.proofs.lemmas.Option.{slice_get-get_or}
use Rattle.engine_core.specs.Chains.{names_of}
use Rattle.engine_core.specs.Engines.{EngineParts}
use Rattle.engine_core.specs.Policies.{is_same_kind}
use Rattle.engine_core.specs.declared.policy.Policy.{Policy}
use Rattle.audit_rules.specs.CheckerState.{checker_context}
use Rattle.audit_rules.proofs.Asked.{All-at, map-at}
use Rattle.audit_rules.proofs.Entries.{IsFound, found, none-found}
use Rattle.audit_rules.proofs.Stepping.{entry-known, knows-upgraded, none-known, not-of-kind, not-upgraded, one-some, put-back, upgrade-keeps}
use Rattle.audit_rules.proofs.checker.Checker.upgrade.Goals as goal

there-at : {X : Type 0} (xs : List X) (i : ℕ) (x : X) → i < length xs → x ≡ get_or xs i x → slice_get xs i ≡ Some x
there-at {X = X} xs i x inside is = slice_get-get_or xs i x inside ∙ ap (λ (x : X). Some x) (sym is)

pub returns-in_default-clause-refuses : goal.returns-in_default-clause-refuses
returns-in_default-clause-refuses c = λ T past label knows keeps.
    not-upgraded past c.args.name.now label c.args.policy (none-known T past c.args.self.now c.args.self.now knows c.args.name.now
    (subst (λ (es : List EngineParts). Contains (names_of (map (λ e. e.entry) es)) c.args.name.now → ⊥) c.deref.ensures.value
    (none-found c.args.name.now c.deref.result.now (sym c.position_of.ensures ∙ c.in_default.is)))) keeps

pub returns-then-not-is_same_kind-clause-refuses : goal.returns-then-not-is_same_kind-clause-refuses
returns-then-not-is_same_kind-clause-refuses c = λ T past label knows.
    (let it : IsFound c.args.name.now c.in-Some.at c.args.self.now.engines.items = subst (λ (es : List EngineParts). IsFound c.args.name.now c.in-Some.at es) c.deref.ensures.value
    (found c.args.name.now c.in-Some.at c.deref.result.now (sym c.position_of.ensures ∙ c.in-Some.is)) in
    let looked : slice_get c.args.self.now.engines.items c.in-Some.at ≡ Some c.index.result.now =
    there-at c.args.self.now.engines.items c.in-Some.at c.index.result.now it.within c.index.ensures in
    let same : it.engine ≡ c.index.result.now = one-some (slice_get c.args.self.now.engines.items c.in-Some.at) it.engine c.index.result.now it.at looked in
    not-of-kind past c.args.name.now label c.args.policy c.in-Some.at it.engine.entry
    (entry-known T past c.args.self.now c.args.self.now knows c.in-Some.at it.engine.entry
    (map-at (λ (e : EngineParts). e.entry) c.args.self.now.engines.items c.in-Some.at it.engine it.at)) it.named
    (ap (λ (e : EngineParts). is_same_kind e.entry.policy c.args.policy) same
    ∙ (ap (λ (policy : Policy). is_same_kind policy c.args.policy) (sym c.policy.ensures.policy) ∙ (sym c.is_same_kind.ensures ∙ c.if-not-is_same_kind.true))))

pub restore-requires-clause-kind : goal.restore-requires-clause-kind
restore-requires-clause-kind c =
    let it : IsFound c.args.name.now c.in-Some.at c.args.self.now.engines.items = subst (λ (es : List EngineParts). IsFound c.args.name.now c.in-Some.at es) c.deref.ensures.value
    (found c.args.name.now c.in-Some.at c.deref.result.now (sym c.position_of.ensures ∙ c.in-Some.is)) in
    let looked : slice_get c.args.self.now.engines.items c.in-Some.at ≡ Some c.index.result.now =
    there-at c.args.self.now.engines.items c.in-Some.at c.index.result.now it.within c.index.ensures in
    let there : slice_get c.args.self.now.engines.items c.in-Some.at ≡ Some c.decompose-state.result =
    there-at c.args.self.now.engines.items c.in-Some.at c.remove.result it.within c.remove.ensures.value ∙ ap (λ (e : EngineParts). Some e) (sym c.decompose-state.ensures) in
    let same : c.decompose-state.result ≡ c.index.result.now = one-some (slice_get c.args.self.now.engines.items c.in-Some.at) c.decompose-state.result c.index.result.now there looked in
    ap (λ (e : EngineParts). is_same_kind e.entry.policy c.args.policy) same
    ∙ (ap (λ (policy : Policy). is_same_kind policy c.args.policy) (sym c.policy.ensures.policy) ∙ (sym c.is_same_kind.ensures ∙ c.if-not-is_same_kind.false))

pub restore-requires-clause-number : goal.restore-requires-clause-number
restore-requires-clause-number c =
    let it : IsFound c.args.name.now c.in-Some.at c.args.self.now.engines.items = subst (λ (es : List EngineParts). IsFound c.args.name.now c.in-Some.at es) c.deref.ensures.value
    (found c.args.name.now c.in-Some.at c.deref.result.now (sym c.position_of.ensures ∙ c.in-Some.is)) in
    let there : slice_get c.args.self.now.engines.items c.in-Some.at ≡ Some c.decompose-state.result =
    there-at c.args.self.now.engines.items c.in-Some.at c.remove.result it.within c.remove.ensures.value ∙ ap (λ (e : EngineParts). Some e) (sym c.decompose-state.ensures) in
    let past = c.requires.knowing.1.0 in
    let knows = c.requires.knowing.1.1 in
    let less = c.requires.knowing.1.2 in
    omega (arith, less, All-at (λ (e : EngineParts). e.entry.version ≤ length past + 1) c.args.self.now.engines.items c.in-Some.at c.decompose-state.result knows.versions there)

pub returns-clause-keeps : goal.returns-clause-keeps
returns-clause-keeps c = λ T past label knows.
    (let it : IsFound c.args.name.now c.in-Some.at c.args.self.now.engines.items = subst (λ (es : List EngineParts). IsFound c.args.name.now c.in-Some.at es) c.deref.ensures.value
    (found c.args.name.now c.in-Some.at c.deref.result.now (sym c.position_of.ensures ∙ c.in-Some.is)) in
    let looked : slice_get c.args.self.now.engines.items c.in-Some.at ≡ Some c.index.result.now =
    there-at c.args.self.now.engines.items c.in-Some.at c.index.result.now it.within c.index.ensures in
    let same : it.engine ≡ c.index.result.now = one-some (slice_get c.args.self.now.engines.items c.in-Some.at) it.engine c.index.result.now it.at looked in
    upgrade-keeps past c.changed_is_the_change.ensures.unless_refused
    (c.chain_after_event.ensures.is_chain (checker_context T c.args.self.now) past knows.row.prefix) c.args.name.now label
    c.args.policy c.in-Some.at
    it.engine.entry
    (entry-known T past c.args.self.now c.args.self.now knows c.in-Some.at it.engine.entry
    (map-at (λ (e : EngineParts). e.entry) c.args.self.now.engines.items c.in-Some.at it.engine it.at)) it.named
    (ap (λ (e : EngineParts). is_same_kind e.entry.policy c.args.policy) same
    ∙ (ap (λ (policy : Policy). is_same_kind policy c.args.policy) (sym c.policy.ensures.policy) ∙ (sym c.is_same_kind.ensures ∙ c.if-not-is_same_kind.false))))

pub returns-clause-knows : goal.returns-clause-knows
returns-clause-knows c = λ T past label knows may.
    (let it : IsFound c.args.name.now c.in-Some.at c.args.self.now.engines.items = subst (λ (es : List EngineParts). IsFound c.args.name.now c.in-Some.at es) c.deref.ensures.value
    (found c.args.name.now c.in-Some.at c.deref.result.now (sym c.position_of.ensures ∙ c.in-Some.is)) in
    let there : slice_get c.args.self.now.engines.items c.in-Some.at ≡ Some c.decompose-state.result =
    there-at c.args.self.now.engines.items c.in-Some.at c.remove.result it.within c.remove.ensures.value ∙ ap (λ (e : EngineParts). Some e) (sym c.decompose-state.ensures) in
    let same : c.decompose-state.result ≡ it.engine = one-some (slice_get c.args.self.now.engines.items c.in-Some.at) c.decompose-state.result it.engine there it.at in
    knows-upgraded T past c.args.self.now _ knows
    (c.chain_after_event.ensures.is_chain (checker_context T c.args.self.now) past knows.row.prefix).names c.args.name.now
    c.in-Some.at c.decompose-state.result there
    (entry-known T past c.args.self.now c.args.self.now knows c.in-Some.at c.decompose-state.result.entry
    (map-at (λ (e : EngineParts). e.entry) c.args.self.now.engines.items c.in-Some.at c.decompose-state.result there))
    (ap (λ (e : EngineParts). e.entry.name) same ∙ it.named) refl refl c.lower.ensures.items
    (c.insert_within_capacity.ensures.capacity ∙ c.remove.ensures.capacity) refl c.lower.ensures.capacity label c.args.policy
    c.restore.result may c.ties_after_event.ensures.upgrades
    (c.insert_within_capacity.ensures.items
    ∙ (ap (λ (es : List EngineParts). insert es c.in-Some.at c.restore.result) c.remove.ensures.items
    ∙ put-back c.args.self.now.engines.items c.in-Some.at c.restore.result it.within))
    refl c.restore.ensures.entry c.restore.ensures.level c.restore.ensures.last c.restore.ensures.stays_true)
