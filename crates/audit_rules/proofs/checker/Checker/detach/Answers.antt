use Rattle.std.proofs.Common.{◌∙◌, List, Contains, ap, arith, length, map, refl, subst, sym}
use Rattle.engine_core.specs.Chains.{names_of}
use Rattle.engine_core.specs.Engines.{EngineParts}
use Rattle.audit_rules.specs.CheckerState.{IsLatest, checker_context}
use Rattle.audit_rules.proofs.Asked.{map-at}
use Rattle.audit_rules.proofs.Entries.{IsFound, found, none-found, zip-length}
use Rattle.audit_rules.proofs.Stepping.{detach-keeps, entry-known, knows-detached, none-known, not-detached}
use Rattle.audit_rules.proofs.checker.Checker.detach.Goals as goal

pub returns-in_default-clause-refuses : goal.returns-in_default-clause-refuses
returns-in_default-clause-refuses c = λ T past knows keeps.
    not-detached past c.args.name.now (none-known T past c.args.self.now c.args.self.now knows c.args.name.now
    (subst (λ (es : List EngineParts). Contains (names_of (map (λ e. e.entry) es)) c.args.name.now → ⊥) c.deref.ensures.value
    (none-found c.args.name.now c.deref.result.now (sym c.position_of.ensures ∙ c.in_default.is)))) keeps

pub remove-requires-2 : goal.remove-requires-2
remove-requires-2 c =
    let it = found c.args.name.now c.in-Some.at c.deref.result.now (sym c.position_of.ensures ∙ c.in-Some.is) in
    let past = c.requires.knowing.1.0 in
    let knows = c.requires.knowing.1.1 in
    omega (
      arith,
      it.within,
      ap (λ (es : List EngineParts). length es) c.deref.ensures.value,
      zip-length (IsLatest past) c.args.self.now.engines.items c.args.self.now.latest.items knows.latest,
    )

pub returns-clause-keeps : goal.returns-clause-keeps
returns-clause-keeps c = λ T past knows.
    (let it : IsFound c.args.name.now c.in-Some.at c.args.self.now.engines.items = subst (λ (es : List EngineParts). IsFound c.args.name.now c.in-Some.at es) c.deref.ensures.value
    (found c.args.name.now c.in-Some.at c.deref.result.now (sym c.position_of.ensures ∙ c.in-Some.is)) in
    detach-keeps past c.changed_is_the_change.ensures.unless_refused
    (c.chain_after_event.ensures.is_chain (checker_context T c.args.self.now) past knows.row.prefix) c.args.name.now
    c.in-Some.at it.engine.entry
    (entry-known T past c.args.self.now c.args.self.now knows c.in-Some.at it.engine.entry
    (map-at (λ (e : EngineParts). e.entry) c.args.self.now.engines.items c.in-Some.at it.engine it.at)) it.named)

pub returns-clause-knows : goal.returns-clause-knows
returns-clause-knows c = λ T past knows may.
    (let it : IsFound c.args.name.now c.in-Some.at c.args.self.now.engines.items = subst (λ (es : List EngineParts). IsFound c.args.name.now c.in-Some.at es) c.deref.ensures.value
    (found c.args.name.now c.in-Some.at c.deref.result.now (sym c.position_of.ensures ∙ c.in-Some.is)) in
    knows-detached T past c.args.self.now _ knows (c.chain_after_event.ensures.is_chain (checker_context T c.args.self.now) past knows.row.prefix).names c.args.name.now c.in-Some.at it.engine it.at
    (entry-known T past c.args.self.now c.args.self.now knows c.in-Some.at it.engine.entry
    (map-at (λ (e : EngineParts). e.entry) c.args.self.now.engines.items c.in-Some.at it.engine it.at)) it.named
    refl refl c.lower.ensures.items c.remove.ensures.capacity c.remove-2.ensures.capacity c.lower.ensures.capacity may
    c.ties_after_event.ensures.detaches c.remove.ensures.items c.remove-2.ensures.items)
