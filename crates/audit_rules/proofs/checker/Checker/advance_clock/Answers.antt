use Rattle.std.proofs.Common.{◌≡◌, List, length, map, refl, ap, ◌∙◌, arith}
use Rattle.engine_core.specs.Engines.{EngineParts, clocked}
use Rattle.audit_rules.proofs.Clocks.{written-back}
use Rattle.audit_rules.proofs.States.{knows-shown}
use Rattle.audit_rules.proofs.checker.Checker.advance_clock.Goals as goal

pub returns-clause-knows : goal.returns-clause-knows
returns-clause-knows c = λ T past knows may.
    (let lent : length c.deref_mut.result.now ≡ length c.args.self.now.engines.items = ap (λ (es : List EngineParts). length es) c.deref_mut.ensures.value in
    let many : length c.args.self.now.engines.items ≡ c.args.self.now.engines.len = omega (arith, c.args.self.now.engines.ok.0) in
    let kept : length c.clock_all.new.engines ≡ length c.args.self.now.engines.items = omega (arith, lent, c.clock_all.auto.engines) in
    knows-shown T past c.args.now c.args.self.now _ knows may c.ties_after_event.ensures.shows refl
    (written-back c.args.self.now.engines.items c.clock_all.new.engines c.args.self.now.engines.len kept many
    ∙ (c.clock_all.ensures ∙ ap (λ (es : List EngineParts). map (λ e. clocked c.args.now e) es)
    c.deref_mut.ensures.value)) refl)
