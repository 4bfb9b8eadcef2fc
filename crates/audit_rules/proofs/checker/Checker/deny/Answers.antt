use Rattle.std.proofs.Common.{refl, ap, sym, ◌∙◌, subst}
use Rattle.engine_core.specs.Answers.{deny}
use Rattle.engine_core.specs.Chains.{Entry}
use Rattle.engine_core.specs.declared.outcome.Outcome.{Outcome}
use Rattle.engine_core.specs.declared.outcome.Why.TheVariants.{Denied}
use Rattle.call_history.specs.Rules.{IsAnswerInTrace}
use Rattle.audit_rules.specs.Asking.{answer_of}
use Rattle.audit_rules.specs.CheckerState.{HasNoMalformed, checker_context}
use Rattle.audit_rules.specs.declared.checker.Checker.{Checker}
use Rattle.audit_rules.proofs.Due.{answer-refused, denied-few, met}
use Rattle.audit_rules.proofs.Known.{asked-engine, asked-place, asked-reached}
use Rattle.audit_rules.proofs.Noting.{knows-asked, there1}
use Rattle.audit_rules.proofs.States.{knows-refused}
use Rattle.audit_rules.proofs.checker.Checker.deny.Goals as goal

pub returns-in_default-clause-not_denied : goal.returns-in_default-clause-not_denied
returns-in_default-clause-not_denied c = λ past knows d. c.in_default.ensures.none past knows d.entry d.at

pub returns-then-version-clause-not_denied : goal.returns-then-version-clause-not_denied
returns-then-version-clause-not_denied c = λ past knows d.
    (let asked = c.in-Some.ensures.asked past knows in
    let there = asked-engine c.args.table.now past c.args.self.now c.args.seq c.args.name.now c.in-Some.asked
    c.ask.new.self.engines.items c.ask.new.self.calls c.ask.new.self.reached.items
    (c.in-Some.ensures.asked past knows) knows c.ask.ensures.entries c.index-engine.result.now
    c.index-engine.ensures in
    c.if-version.true (c.version.ensures ∙ (ap (λ (e : Entry). e.version) (there ∙ sym (asked.only d.entry d.at)) ∙ d.present)))

pub is_named_rule-requires : goal.is_named_rule-requires
is_named_rule-requires c = λ p rule is outcome.
    (let past = c.requires.knowing.0 in
    let knows = c.requires.knowing.1 in
    let asked = c.in-Some.ensures.asked past knows in
    let there = asked-engine c.args.table.now past c.args.self.now c.args.seq c.args.name.now c.in-Some.asked
    c.ask.new.self.engines.items c.ask.new.self.calls c.ask.new.self.reached.items
    (c.in-Some.ensures.asked past knows) knows c.ask.ensures.entries c.index-engine.result.now
    c.index-engine.ensures in
    let gives = subst (λ (o : Outcome). IsAnswerInTrace (checker_context c.args.table.now c.args.self.now) past asked.entry c.args.seq (answer_of o)) outcome asked.gives in
    denied-few c.denied_by_a_rule.ensures (checker_context c.args.table.now c.args.self.now) past asked.entry c.args.seq p rule (sym (ap (λ (e : Entry). e.policy) there) ∙ is) gives)

pub returns-then-not-is_named_rule-clause-not_denied : goal.returns-then-not-is_named_rule-clause-not_denied
returns-then-not-is_named_rule-clause-not_denied c = λ past knows d.
    (let asked = c.in-Some.ensures.asked past knows in
    let there = asked-engine c.args.table.now past c.args.self.now c.args.seq c.args.name.now c.in-Some.asked
    c.ask.new.self.engines.items c.ask.new.self.calls c.ask.new.self.reached.items
    (c.in-Some.ensures.asked past knows) knows c.ask.ensures.entries c.index-engine.result.now
    c.index-engine.ensures in
    let same = asked.only d.entry d.at in
    let is = answer-refused c.in-Some.asked.outcome (Denied d.place)
    (met (checker_context c.args.table.now c.args.self.now) past c.args.self.now.attached c.args.seq c.args.name.now
    c.in-Some.asked c.args.self.now.calls c.ask.new.self.engines.items c.ask.new.self.calls
    c.ask.new.self.reached.items (c.in-Some.ensures.asked past knows) c.answer_is_unique.ensures.at_most
    (deny d.place) refl
    (record { entry = d.entry; at = d.at; gives = d.gives })) in
    c.if-not-is_named_rule.ensures.denies_not (d.policy, d.place, ap (λ (e : Entry). e.policy) (there ∙ sym same) ∙ d.is_policy, is, d.names))

pub remove_call-requires-clause-call : goal.remove_call-requires-clause-call
remove_call-requires-clause-call c = asked-place c.args.table.now c.requires.knowing.0 c.args.self.now c.args.seq c.args.name.now c.in-Some.asked c.ask.new.self.engines.items c.ask.new.self.calls
    c.ask.new.self.reached.items (c.in-Some.ensures.asked c.requires.knowing.0 c.requires.knowing.1) c.ask.ensures.numbers

pub remove_call-requires-clause-place : goal.remove_call-requires-clause-place
remove_call-requires-clause-place c =
    asked-reached c.args.table.now c.requires.knowing.0 c.args.self.now c.args.seq c.args.name.now c.in-Some.asked
    c.ask.new.self.engines.items c.ask.new.self.calls
    c.ask.new.self.reached.items (c.in-Some.ensures.asked c.requires.knowing.0 c.requires.knowing.1)

pub returns-clause-denied : goal.returns-clause-denied
returns-clause-denied c = λ past knows.
    (let asked = c.in-Some.ensures.asked past knows in
    let there = asked-engine c.args.table.now past c.args.self.now c.args.seq c.args.name.now c.in-Some.asked
    c.ask.new.self.engines.items c.ask.new.self.calls c.ask.new.self.reached.items
    (c.in-Some.ensures.asked past knows) knows c.ask.ensures.entries c.index-engine.result.now
    c.index-engine.ensures in
    let named = c.if-not-is_named_rule.ensures.denies in
    record {
      entry = asked.entry;
      at = asked.is_at;
      present = ap (λ (e : Entry). e.version) (sym there) ∙ (sym c.version.ensures ∙ c.if-version.false);
      policy = named.0;
      is_policy = ap (λ (e : Entry). e.policy) (sym there) ∙ named.2;
      place = named.1;
      gives = subst (λ (o : Outcome). IsAnswerInTrace (checker_context c.args.table.now c.args.self.now) past asked.entry c.args.seq (answer_of o)) named.3 asked.gives;
      names = named.4;
    })

pub returns-clause-knows : goal.returns-clause-knows
returns-clause-knows c = λ past cause knows link may.
    (let named = c.if-not-is_named_rule.ensures.denies in
    let is = named.3 in
    knows-refused c.args.table.now past c.args.self.now c.ask.new.self c.remove_call.new.self c.args.seq c.in-Some.asked.place cause
    (ap (λ (d : Checker). checker_context c.args.table.now d) c.ask.ensures.rest)
    (knows-asked c.args.table.now past c.args.self.now c.ask.new.self c.args.seq c.args.name.now c.in-Some.asked
    knows c.requires.free (c.in-Some.ensures.asked past knows) c.ask.ensures.rest c.ask.ensures.room
    c.ask.ensures.numbers c.ask.ensures.entries c.ask.ensures.of_table
    (c.chain_after_event.ensures.is_chain (checker_context c.args.table.now c.args.self.now) past knows.row.prefix).names
    (Denied named.1) is) (subst HasNoMalformed (sym c.ask.ensures.left) c.requires.free)
    (there1 c.args.table.now past c.args.self.now c.ask.new.self c.args.seq c.args.name.now c.in-Some.asked knows
    c.requires.free (c.in-Some.ensures.asked past knows) c.ask.ensures.rest c.ask.ensures.room
    c.ask.ensures.numbers c.ask.ensures.entries c.ask.ensures.of_table
    (c.chain_after_event.ensures.is_chain (checker_context c.args.table.now c.args.self.now) past knows.row.prefix).names)
    may link c.remove_call.ensures.failed c.remove_call.ensures.refused)

pub returns-clause-same : goal.returns-clause-same
returns-clause-same c = λ T. c.remove_call.ensures.same T ∙ ap (λ (d : Checker). checker_context T d) c.ask.ensures.rest
