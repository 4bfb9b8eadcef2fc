use Rattle.std.proofs.Common.{◌≡◌, ◌∷◌, arith, refl, ap, sym, ◌∙◌, subst}
use Rattle.std.proofs.lemmas.Grind.{common_steps}
use Rattle.engine_core.specs.Answers.{redact}
use Rattle.engine_core.specs.Chains.{Entry}
use Rattle.engine_core.specs.declared.outcome.Outcome.{Outcome}
use Rattle.engine_core.specs.declared.outcome.Outcome.TheVariants.{Redacted}
use Rattle.call_history.specs.Rules.{IsAnswerInTrace}
use Rattle.audit_rules.specs.Asking.{answer_of}
use Rattle.audit_rules.specs.CheckerState.{IsObligationAfter, checker_context}
use Rattle.call_history.specs.declared.happening.Happening.{Happening}
use Rattle.call_history.specs.declared.happening.Happening.TheVariants as happenings
use Rattle.audit_rules.specs.declared.obligation.Obligation.{Obligation}
use Rattle.audit_rules.specs.declared.obligation.Obligation.TheVariants.{Nothing}
use Rattle.audit_rules.proofs.Due.{answer-redacted, met}
use Rattle.audit_rules.proofs.Known.{asked-engine, asked-reached}
use Rattle.audit_rules.proofs.Noting.{knows-cleared}
use Rattle.audit_rules.proofs.States.{not-left}
use Rattle.audit_rules.proofs.checker.Checker.clear.Goals as goal

pub returns-in_default-clause-not_due : goal.returns-in_default-clause-not_due
returns-in_default-clause-not_due c = λ past knows due. c.in_default.ensures.none past knows due.entry due.at

pub returns-then-ne-clause-not_due : goal.returns-then-ne-clause-not_due
returns-then-ne-clause-not_due c = λ past knows due.
    (let is = answer-redacted c.in-Some.asked.outcome
    (met (checker_context c.args.table.now c.args.self.now) past c.args.self.now.attached c.args.seq c.args.name.now
    c.in-Some.asked c.args.self.now.calls c.ask.new.self.engines.items c.ask.new.self.calls
    c.ask.new.self.reached.items (c.in-Some.ensures.asked past knows) c.answer_is_unique.ensures.at_most redact refl
    (record { entry = due.entry; at = due.at; gives = due.gives })) in
    grind (arith, common_steps, is, c.ne.ensures, c.if-ne.true))

pub returns-then-version-clause-not_due : goal.returns-then-version-clause-not_due
returns-then-version-clause-not_due c = λ past knows due.
    (let asked = c.in-Some.ensures.asked past knows in
    let there = asked-engine c.args.table.now past c.args.self.now c.args.seq c.args.name.now c.in-Some.asked
    c.ask.new.self.engines.items c.ask.new.self.calls c.ask.new.self.reached.items
    (c.in-Some.ensures.asked past knows) knows c.ask.ensures.entries c.index.result.now c.index.ensures in
    let same = asked.only due.entry due.at in
    c.if-version.true (c.version.ensures ∙ (ap (λ (e : Entry). e.version) (there ∙ sym same) ∙ due.present)))

pub index_mut-requires : goal.index_mut-requires
index_mut-requires c = omega (
  arith,
  asked-reached c.args.table.now c.requires.knowing.0 c.args.self.now c.args.seq c.args.name.now c.in-Some.asked c.ask.new.self.engines.items c.ask.new.self.calls
      c.ask.new.self.reached.items (c.in-Some.ensures.asked c.requires.knowing.0 c.requires.knowing.1),
)

pub returns-clause-due : goal.returns-clause-due
returns-clause-due c = λ past knows.
    (let asked = c.in-Some.ensures.asked past knows in
    let there = asked-engine c.args.table.now past c.args.self.now c.args.seq c.args.name.now c.in-Some.asked
    c.ask.new.self.engines.items c.ask.new.self.calls c.ask.new.self.reached.items
    (c.in-Some.ensures.asked past knows) knows c.ask.ensures.entries c.index.result.now c.index.ensures in
    let is : c.in-Some.asked.outcome ≡ Redacted = grind (arith, common_steps, c.ne.ensures, c.if-ne.false) in
    record {
      entry = asked.entry;
      at = asked.is_at;
      gives = subst (λ (o : Outcome). IsAnswerInTrace (checker_context c.args.table.now c.args.self.now) past asked.entry c.args.seq (answer_of o)) is asked.gives;
      present = ap (λ (e : Entry). e.version) (sym there) ∙ (sym c.version.ensures ∙ c.if-version.false);
    })

pub returns-clause-knows : goal.returns-clause-knows
returns-clause-knows c =
    let is : c.in-Some.asked.outcome ≡ Redacted = grind (arith, common_steps, c.ne.ensures, c.if-ne.false) in
    λ past knows may.
    (let asked = c.in-Some.ensures.asked past knows in
    let there = asked-engine c.args.table.now past c.args.self.now c.args.seq c.args.name.now c.in-Some.asked
    c.ask.new.self.engines.items c.ask.new.self.calls c.ask.new.self.reached.items
    (c.in-Some.ensures.asked past knows) knows c.ask.ensures.entries c.index.result.now c.index.ensures in
    let what : Happening = happenings.Redacted c.args.seq c.args.name.now c.args.version in
    let nothing : c.args.self.now.left ≡ Nothing = not-left past what c.args.self.now.left knows.left may.malformed may.drawn_refused (λ s why refused. cc) in
    knows-cleared c.args.table.now past c.args.self.now c.ask.new.self c.args.seq c.args.name.now c.in-Some.asked
    knows c.requires.free (c.in-Some.ensures.asked past knows) c.ask.ensures.rest c.ask.ensures.room
    c.ask.ensures.numbers c.ask.ensures.entries c.ask.ensures.of_table
    (c.chain_after_event.ensures.is_chain (checker_context c.args.table.now c.args.self.now) past knows.row.prefix).names _ what
    may c.args.version c.forms_after_event.ensures.cleared_another refl refl refl refl is
    (ap (λ (e : Entry). e.version) (sym there) ∙ (sym c.version.ensures ∙ c.if-version.false))
    (subst (λ (l : Obligation). IsObligationAfter (what ∷ past) l) (sym (c.ask.ensures.left ∙ nothing)) (λ none. none, λ none. none)))
