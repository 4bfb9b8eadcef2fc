use Rattle.std.proofs.Common.{◌≡◌, List, length, ap, arith}
use Rattle.engine_core.specs.Engines.{EngineParts}
use Rattle.audit_rules.specs.CheckerState.{checker_context}
use Rattle.audit_rules.proofs.Clocks.{written-back}
use Rattle.audit_rules.proofs.Known.{known-places, known-rising, known-standing}
use Rattle.audit_rules.proofs.checker.Checker.ask_named.Goals as goal

pub ask-requires-clause-rising : goal.ask-requires-clause-rising
ask-requires-clause-rising c = (c.args.self.now.taken, known-rising c.args.table.now c.requires.knowing.0 c.args.self.now c.requires.knowing.1 c.requires.free)

pub ask-requires-clause-reached : goal.ask-requires-clause-reached
ask-requires-clause-reached c = known-places c.args.table.now c.requires.knowing.0 c.args.self.now c.requires.knowing.1

pub returns-clause-asked : goal.returns-clause-asked
returns-clause-asked c = λ past knows.
    (let lent : length c.deref_mut.result.now ≡ length c.args.self.now.engines.items = ap (λ (es : List EngineParts). length es) c.deref_mut.ensures.value in
    let many : length c.args.self.now.engines.items ≡ c.args.self.now.engines.len = omega (arith, c.args.self.now.engines.ok.0) in
    let kept : length c.ask.new.engines ≡ length c.args.self.now.engines.items = omega (arith, lent, c.ask.auto.engines) in
    rw (written-back c.args.self.now.engines.items c.ask.new.engines c.args.self.now.engines.len kept many)
    (c.ask.ensures.asked (checker_context c.args.table.now c.args.self.now) past c.args.self.now.attached
    (rw c.deref_mut.ensures.value knows.row)
    (known-standing c.args.table.now past c.args.self.now knows c.requires.free)))

pub returns-clause-none : goal.returns-clause-none
returns-clause-none c = λ past knows. c.ask.ensures.none (checker_context c.args.table.now c.args.self.now) past c.args.self.now.attached (rw c.deref_mut.ensures.value knows.row)
    (known-standing c.args.table.now past c.args.self.now knows c.requires.free)
