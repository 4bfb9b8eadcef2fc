use Rattle.std.proofs.Common.{◌≡◌, ℕ, ◌+◌, ◌<◌, ◌≤◌, List, ◌∷◌, ◌∙◌, get_or, length, set, arith, ap, refl, subst, sym}
use Rattle.std.specs.List.{AllZip}
use Rattle.std.specs.VecDeque.{deque_capacity}
use Rattle.std.proofs.lemmas.Grind.{common_steps}
use Rattle.engine_core.specs.Turns.{noted_in}
use Rattle.engine_core.specs.Marks.{seqs_of}
use Rattle.audit_rules.specs.Asking.{HasPassedFirst}
use Rattle.audit_rules.specs.CheckerState.{HasNoMalformed, IsObligationAfter, checker_context}
use Rattle.audit_rules.specs.declared.checker.Checker.{Checker}
use Rattle.audit_rules.specs.declared.obligation.Obligation.{Obligation}
use Rattle.audit_rules.specs.declared.obligation.Obligation.TheVariants.{Nothing}
use Rattle.audit_rules.proofs.Due.{answer-noted, called-for, met, not-called, noted-answer}
use Rattle.audit_rules.proofs.Known.{asked-latest, asked-reached, asked-some, latest-at}
use Rattle.audit_rules.proofs.Noting.{knows-noted, note-other, note-settles, noted-on, reaches-passed}
use Rattle.audit_rules.proofs.Passing.{no-ticket}
use Rattle.audit_rules.proofs.States.{not-left}
use Rattle.audit_rules.proofs.checker.Checker.note.Goals as goal

pub returns-in_default-clause-not_due : goal.returns-in_default-clause-not_due
returns-in_default-clause-not_due c = λ past knows due. c.in_default.ensures.none past knows due.meets.entry due.meets.at

pub returns-then-ne-clause-not_due : goal.returns-then-ne-clause-not_due
returns-then-ne-clause-not_due c = λ past knows due.
    (let is = answer-noted c.in-Some.asked.outcome c.args.noted
    (met (checker_context c.args.table.now c.args.self.now) past c.args.self.now.attached c.args.seq c.args.name.now
    c.in-Some.asked c.args.self.now.calls c.ask_named.new.self.engines.items c.ask_named.new.self.calls
    c.ask_named.new.self.reached.items (c.in-Some.ensures.asked past knows) c.answer_is_unique.ensures.at_most _
    c.requires.no_ticket due.meets) in
    grind (arith, common_steps, is, c.noted_in.ensures, c.ne.ensures, c.if-ne.true))

pub is_next-requires : goal.is_next-requires
is_next-requires c =
    let past = c.requires.knowing.0 in
    let knows = c.requires.knowing.1 in
    let at = asked-latest c.args.table.now past c.args.self.now c.args.seq c.args.name.now c.in-Some.asked
    c.ask_named.new.self.engines.items c.ask_named.new.self.calls c.ask_named.new.self.reached.items
    (c.in-Some.ensures.asked past knows) knows in
    omega (arith, at, ap (λ v. length v.items) c.ask_named.ensures.latest)

pub returns-then-not-is_next-clause-not_due : goal.returns-then-not-is_next-clause-not_due
returns-then-not-is_next-clause-not_due c = λ past knows due.
    (let more : c.args.seq ≤ get_or c.ask_named.new.self.latest.items c.in-Some.asked.at 0 = c.if-not-is_next.ensures.not_next in
    not-called (checker_context c.args.table.now c.args.self.now) past c.args.self.now.attached c.args.seq c.args.name.now
    c.in-Some.asked c.args.self.now.calls c.ask_named.new.self.engines.items c.ask_named.new.self.calls
    c.ask_named.new.self.reached.items (c.in-Some.ensures.asked past knows) c.args.noted
    (get_or c.ask_named.new.self.latest.items c.in-Some.asked.at 0)
    (asked-some c.args.table.now past c.args.self.now c.args.seq c.args.name.now c.in-Some.asked
    c.ask_named.new.self.engines.items c.ask_named.new.self.calls c.ask_named.new.self.reached.items
    (c.in-Some.ensures.asked past knows) knows c.requires.free)
    (rw c.ask_named.ensures.latest
    (latest-at c.args.table.now past c.args.self.now c.args.seq c.args.name.now c.in-Some.asked
    c.ask_named.new.self.engines.items c.ask_named.new.self.calls c.ask_named.new.self.reached.items
    (c.in-Some.ensures.asked past knows) knows)) more due)

pub index_mut-requires : goal.index_mut-requires
index_mut-requires c = omega (
  arith,
  asked-reached c.args.table.now c.requires.knowing.0 c.args.self.now c.args.seq c.args.name.now c.in-Some.asked c.ask_named.new.self.engines.items c.ask_named.new.self.calls
      c.ask_named.new.self.reached.items (c.in-Some.ensures.asked c.requires.knowing.0 c.requires.knowing.1),
  ap (λ (d : Checker). length d.reached.items) c.is_next.ensures.rest,
)

pub returns-clause-due : goal.returns-clause-due
returns-clause-due c = λ past knows.
    (let less : get_or c.ask_named.new.self.latest.items c.in-Some.asked.at 0 < c.args.seq = c.if-not-is_next.ensures.next in
    let noted : noted_in c.in-Some.asked.outcome ≡ c.args.noted = grind (arith, common_steps, c.noted_in.ensures, c.ne.ensures, c.if-ne.false) in
    called-for (checker_context c.args.table.now c.args.self.now) past c.args.self.now.attached c.args.seq c.args.name.now
    c.in-Some.asked c.args.self.now.calls c.ask_named.new.self.engines.items c.ask_named.new.self.calls
    c.ask_named.new.self.reached.items (c.in-Some.ensures.asked past knows) c.args.noted
    (get_or c.ask_named.new.self.latest.items c.in-Some.asked.at 0)
    (noted-answer c.in-Some.asked.outcome c.args.noted noted c.requires.noted)
    (rw c.ask_named.ensures.latest
    (latest-at c.args.table.now past c.args.self.now c.args.seq c.args.name.now c.in-Some.asked
    c.ask_named.new.self.engines.items c.ask_named.new.self.calls c.ask_named.new.self.reached.items
    (c.in-Some.ensures.asked past knows) knows)) less)

pub returns-clause-knows : goal.returns-clause-knows
returns-clause-knows c =
    let noted : noted_in c.in-Some.asked.outcome ≡ c.args.noted = grind (arith, common_steps, c.noted_in.ensures, c.ne.ensures, c.if-ne.false) in
    λ past what knows is may.
    (let less : get_or c.ask_named.new.self.latest.items c.in-Some.asked.at 0 < c.args.seq = c.if-not-is_next.ensures.next in
    let asked = c.in-Some.ensures.asked past knows in
    let distinct = (c.chain_after_event.ensures.is_chain (checker_context c.args.table.now c.args.self.now) past knows.row.prefix).names in
    let nothing : c.args.self.now.left ≡ Nothing =
    not-left past what c.args.self.now.left knows.left may.malformed may.drawn_refused
    (note-other past c.args.name.now c.args.seq c.args.noted what c.requires.noted is) in
    let kept : c.is_next.new.self.left ≡ c.args.self.now.left = ap (λ (d : Checker). d.left) c.is_next.ensures.rest ∙ c.ask_named.ensures.left in
    let places : c.is_next.new.self.reached ≡ c.ask_named.new.self.reached = ap (λ (d : Checker). d.reached) c.is_next.ensures.rest in
    knows-noted c.args.table.now past c.args.self.now c.ask_named.new.self c.args.seq c.args.name.now c.in-Some.asked knows
    c.requires.free asked c.ask_named.ensures.rest c.ask_named.ensures.room c.ask_named.ensures.numbers c.ask_named.ensures.entries c.ask_named.ensures.of_table
    distinct _ what may c.args.noted (noted-on c.ask_named.new.self c.is_next.new.self _ c.is_next.ensures.rest refl)
    c.if-not-is_next.ensures.latest c.is_next.ensures.capacity less
    (subst (λ (rs : List ℕ). AllZip (HasPassedFirst (checker_context c.args.table.now c.args.self.now) (what ∷ past)) (seqs_of c.ask_named.new.self.calls)
    (set rs c.in-Some.asked.place (c.in-Some.asked.at + 1))) (sym (ap (λ v. v.items) places))
    (reaches-passed c.args.table.now past c.args.self.now c.ask_named.new.self c.args.seq c.args.name.now c.in-Some.asked knows
    c.requires.free asked c.ask_named.ensures.rest c.ask_named.ensures.room c.ask_named.ensures.numbers c.ask_named.ensures.entries c.ask_named.ensures.of_table
    distinct c.ask_named.new.self what may c.args.noted noted c.requires.noted is (no-ticket asked.entry.policy c.args.noted c.requires.no_ticket)))
    (ap (λ v. deque_capacity v) places) noted c.requires.noted is
    (subst (λ (l : Obligation). IsObligationAfter (what ∷ past) l) (sym (kept ∙ nothing)) (note-settles past c.args.name.now c.args.seq c.args.noted what c.requires.noted c.requires.no_ticket is))
    (subst HasNoMalformed (sym (kept ∙ nothing)) tt))
