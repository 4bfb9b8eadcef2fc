use Rattle.std.proofs.Common.{◌∙◌, List, Contains, arith, map, refl, subst, sym}
use Rattle.engine_core.specs.Chains.{names_of}
use Rattle.engine_core.specs.Engines.{EngineParts}
use Rattle.audit_rules.specs.CheckerState.{IsLatest, checker_context}
use Rattle.audit_rules.proofs.Entries.{zip-length}
use Rattle.audit_rules.proofs.Stepping.{attach-keeps, has-found, has-known, knows-attached, many-known, none-has, none-known, not-attached-twice, not-past-end, not-to-full}
use Rattle.audit_rules.proofs.checker.Checker.attach.Goals as goal

pub returns-then-is_some-clause-refuses : goal.returns-then-is_some-clause-refuses
returns-then-is_some-clause-refuses c = λ T past label knows. not-attached-twice past c.args.at c.args.name label c.args.policy
    (has-known T past c.args.self.now c.args.self.now knows c.args.name
    (subst (λ (es : List EngineParts). Contains (names_of (map (λ e. e.entry) es)) c.args.name) c.deref.ensures.value
    (has-found c.args.name c.deref.result.now c.position_of.result c.position_of.ensures (sym c.is_some.ensures ∙ c.if-is_some.true))))

pub returns-then-at-len-clause-refuses : goal.returns-then-at-len-clause-refuses
returns-then-at-len-clause-refuses c = λ T past label knows. not-past-end past c.args.at c.args.name label c.args.policy
    (omega (arith, many-known T past c.args.self.now c.args.self.now knows))

pub returns-then-len-eq-MAX_ENGINES-clause-refuses : goal.returns-then-len-eq-MAX_ENGINES-clause-refuses
returns-then-len-eq-MAX_ENGINES-clause-refuses c = λ T past label knows. not-to-full past c.args.at c.args.name label c.args.policy
    (omega (arith, many-known T past c.args.self.now c.args.self.now knows))

pub insert_within_capacity-requires-2-clause-at : goal.insert_within_capacity-requires-2-clause-at
insert_within_capacity-requires-2-clause-at c =
    let knows = c.requires.knowing.1.1 in
    omega (arith, zip-length (IsLatest c.requires.knowing.1.0) c.args.self.now.engines.items c.args.self.now.latest.items knows.latest)

pub insert_within_capacity-requires-2-clause-room : goal.insert_within_capacity-requires-2-clause-room
insert_within_capacity-requires-2-clause-room c =
    let knows = c.requires.knowing.1.1 in
    omega (arith, knows.room.latest, knows.room.few_engines, zip-length (IsLatest c.requires.knowing.1.0) c.args.self.now.engines.items c.args.self.now.latest.items knows.latest)

pub returns-clause-keeps : goal.returns-clause-keeps
returns-clause-keeps c = λ T past label knows.
    (let none = subst (λ (es : List EngineParts). Contains (names_of (map (λ e. e.entry) es)) c.args.name → ⊥) c.deref.ensures.value
    (none-has c.args.name c.deref.result.now c.position_of.result c.position_of.ensures (sym c.is_some.ensures ∙ c.if-is_some.false)) in
    let many = many-known T past c.args.self.now c.args.self.now knows in
    attach-keeps past c.changed_is_the_change.ensures.unless_refused (c.chain_after_event.ensures.is_chain (checker_context T c.args.self.now) past knows.row.prefix) c.args.at c.args.name label c.args.policy
    (none-known T past c.args.self.now c.args.self.now knows c.args.name none) (omega arith) (omega (arith, knows.room.few_engines)))

pub returns-clause-knows : goal.returns-clause-knows
returns-clause-knows c = λ T past label knows may.
    (let none = subst (λ (es : List EngineParts). Contains (names_of (map (λ e. e.entry) es)) c.args.name → ⊥) c.deref.ensures.value
    (none-has c.args.name c.deref.result.now c.position_of.result c.position_of.ensures (sym c.is_some.ensures ∙ c.if-is_some.false)) in
    knows-attached T past c.args.self.now _ knows c.args.at c.args.name label c.args.policy c.new-engine.result may
    c.ties_after_event.ensures.attaches refl refl c.insert_within_capacity.ensures.items c.insert_within_capacity-2.ensures.items
    c.lower.ensures.items c.new-engine.ensures.entry c.new-engine.ensures.level c.new-engine.ensures.last none
    (omega arith) (omega (arith, knows.room.few_engines)) c.insert_within_capacity.ensures.capacity c.insert_within_capacity-2.ensures.capacity
    c.lower.ensures.capacity)
