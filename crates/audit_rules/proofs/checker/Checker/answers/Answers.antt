use Rattle.std.proofs.Common.{◌≡◌, ◌∙◌, arith, ap, subst, sym}
use Rattle.std.proofs.lemmas.Grind.{common_steps}
use Rattle.audit_rules.specs.CheckerState.{HasNoMalformed, checker_context}
use Rattle.engine_core.specs.declared.outcome.Noted.TheVariants.{Nothing}
use Rattle.engine_core.specs.declared.outcome.Outcome.TheVariants.{Refused}
use Rattle.audit_rules.specs.declared.checker.Checker.{Checker}
use Rattle.audit_rules.proofs.Due.{answer-refused, met, refusal-ticket}
use Rattle.audit_rules.proofs.Known.{asked-place, asked-reached}
use Rattle.audit_rules.proofs.Noting.{knows-asked, there1}
use Rattle.audit_rules.proofs.States.{knows-refused}
use Rattle.audit_rules.proofs.checker.Checker.answers.Goals as goal

pub returns-in_default-clause-not_answered : goal.returns-in_default-clause-not_answered
returns-in_default-clause-not_answered c = λ past knows m. c.in_default.ensures.none past knows m.entry m.at

pub returns-then-ne-clause-not_answered : goal.returns-then-ne-clause-not_answered
returns-then-ne-clause-not_answered c = λ past knows m.
    (let is = answer-refused c.in-Some.asked.outcome c.args.why
    (met (checker_context c.args.table.now c.args.self.now) past c.args.self.now.attached c.args.seq c.args.name.now
    c.in-Some.asked c.args.self.now.calls
    c.ask.new.self.engines.items c.ask.new.self.calls c.ask.new.self.reached.items (c.in-Some.ensures.asked past knows) c.answer_is_unique.ensures.at_most _ (refusal-ticket c.args.why) m) in
    grind (arith, common_steps, is, c.ne.ensures, c.if-ne.true))

pub remove_call-requires-clause-call : goal.remove_call-requires-clause-call
remove_call-requires-clause-call c = asked-place c.args.table.now c.requires.knowing.0 c.args.self.now c.args.seq c.args.name.now c.in-Some.asked c.ask.new.self.engines.items c.ask.new.self.calls
    c.ask.new.self.reached.items (c.in-Some.ensures.asked c.requires.knowing.0 c.requires.knowing.1) c.ask.ensures.numbers

pub remove_call-requires-clause-place : goal.remove_call-requires-clause-place
remove_call-requires-clause-place c =
    asked-reached c.args.table.now c.requires.knowing.0 c.args.self.now c.args.seq c.args.name.now c.in-Some.asked
    c.ask.new.self.engines.items c.ask.new.self.calls
    c.ask.new.self.reached.items (c.in-Some.ensures.asked c.requires.knowing.0 c.requires.knowing.1)

pub returns-clause-knows : goal.returns-clause-knows
returns-clause-knows c =
    let is : c.in-Some.asked.outcome ≡ Refused Nothing c.args.why = grind (arith, common_steps, c.ne.ensures, c.if-ne.false) in
    λ past cause knows link may. (
    knows-refused c.args.table.now past c.args.self.now c.ask.new.self c.remove_call.new.self c.args.seq c.in-Some.asked.place cause
    (ap (λ (d : Checker). checker_context c.args.table.now d) c.ask.ensures.rest)
    (knows-asked c.args.table.now past c.args.self.now c.ask.new.self c.args.seq c.args.name.now c.in-Some.asked
    knows c.requires.free (c.in-Some.ensures.asked past knows) c.ask.ensures.rest c.ask.ensures.room
    c.ask.ensures.numbers c.ask.ensures.entries c.ask.ensures.of_table
    (c.chain_after_event.ensures.is_chain (checker_context c.args.table.now c.args.self.now) past knows.row.prefix).names
    c.args.why is) (subst HasNoMalformed (sym c.ask.ensures.left) c.requires.free)
    (there1 c.args.table.now past c.args.self.now c.ask.new.self c.args.seq c.args.name.now c.in-Some.asked knows
    c.requires.free (c.in-Some.ensures.asked past knows) c.ask.ensures.rest c.ask.ensures.room
    c.ask.ensures.numbers c.ask.ensures.entries c.ask.ensures.of_table
    (c.chain_after_event.ensures.is_chain (checker_context c.args.table.now c.args.self.now) past knows.row.prefix).names)
    may link c.remove_call.ensures.failed c.remove_call.ensures.refused)

pub returns-clause-same : goal.returns-clause-same
returns-clause-same c = λ T. c.remove_call.ensures.same T ∙ ap (λ (d : Checker). checker_context T d) c.ask.ensures.rest
