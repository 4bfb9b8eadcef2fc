use Rattle.std.proofs.Common.{◌≡◌, ◌+◌, ◌<◌, ◌≤◌, ◌⊎◌, inl, inr, ◌∷◌, ◌∙◌, ℕ, List, get_or, length, arith, ap, map, refl, set, slice_get, subst, sym}
use Rattle.std.proofs.lemmas.Grind.{common_steps}
use Rattle.std.specs.Prelude.{IfSome, Option, Some, vec_capacity}
use Rattle.std.specs.VecDeque.{deque_capacity}
use Rattle.engine_core.specs.Chains.{Chain, Entry}
use Rattle.engine_core.specs.Engines.{EngineParts}
use Rattle.engine_core.specs.Turns.{noted_in}
use Rattle.engine_core.specs.declared.outcome.Noted.TheVariants as notes
use Rattle.call_history.specs.Trace.{chain, policy_in_trace}
use Rattle.call_history.specs.Rules.{cap_of}
use Rattle.call_history.specs.declared.happening.Happening.{Happening}
use Rattle.call_history.specs.declared.happening.Happening.TheVariants.{Drawn}
use Rattle.audit_rules.specs.CheckerState.{HasNoMalformed, IsObligationAfter, checker_context}
use Rattle.audit_rules.specs.declared.checker.Checker.{Checker}
use Rattle.audit_rules.specs.declared.obligation.Obligation.TheVariants.{Nothing}
use Rattle.audit_rules.proofs.Draws.{due-drawn, policy-at}
use Rattle.audit_rules.proofs.Due.{called-for, not-called, noted-answer}
use Rattle.audit_rules.proofs.Known.{asked-latest, asked-reached, asked-some, latest-at, unmap-at}
use Rattle.audit_rules.proofs.Noting.{knows-noted, reaches-settled, settled-on}
use Rattle.audit_rules.proofs.States.{not-left}
use Rattle.audit_rules.proofs.checker.Checker.draw.Goals as goal

pub returns-in_default-clause-not_due : goal.returns-in_default-clause-not_due
returns-in_default-clause-not_due c = λ past knows due. c.in_default.ensures.none past knows due.meets.entry due.meets.at

pub returns-then-ne-clause-not_due : goal.returns-then-ne-clause-not_due
returns-then-ne-clause-not_due c = λ past knows due.
    (let d = due-drawn (checker_context c.args.table.now c.args.self.now) past c.args.self.now.attached c.args.seq c.args.name.now
    c.in-Some.asked c.args.self.now.calls c.ask_named.new.self.engines.items c.ask_named.new.self.calls
    c.ask_named.new.self.reached.items (c.in-Some.ensures.asked past knows) c.answer_is_unique.ensures.at_most c.args.window
    c.args.ticket due.meets in
    let given : d.0 ≡ c.args.ticket = c.in-Some.ensures.drawn c.args.window d.0 d.1 in
    let is : noted_in c.in-Some.asked.outcome ≡ notes.Drawn c.args.window c.args.ticket = d.1 ∙ ap (λ (t : ℕ). notes.Drawn c.args.window t) given in
    grind (arith, common_steps, is, c.noted_in.ensures, c.ne.ensures, c.if-ne.true))

pub is_next-requires : goal.is_next-requires
is_next-requires c =
    let past = c.requires.knowing.0 in
    let knows = c.requires.knowing.1 in
    let at = asked-latest c.args.table.now past c.args.self.now c.args.seq c.args.name.now c.in-Some.asked
    c.ask_named.new.self.engines.items c.ask_named.new.self.calls c.ask_named.new.self.reached.items
    (c.in-Some.ensures.asked past knows) knows in
    omega (arith, at, ap (λ v. length v.items) c.ask_named.ensures.latest)

pub record_ticket-requires-clause-engine : goal.record_ticket-requires-clause-engine
record_ticket-requires-clause-engine c =
    let asked = c.in-Some.ensures.asked c.requires.knowing.0 c.requires.knowing.1 in
    omega (arith, asked.within, ap (λ (d : Checker). length d.engines.items) c.is_next.ensures.rest)

pub record_ticket-requires-clause-few : goal.record_ticket-requires-clause-few
record_ticket-requires-clause-few c = omega (arith, c.ask_named.ensures.room.few_engines, ap (λ (d : Checker). length d.engines.items) c.is_next.ensures.rest)

pub record_ticket-requires-clause-place : goal.record_ticket-requires-clause-place
record_ticket-requires-clause-place c = omega (
  arith,
  asked-reached c.args.table.now c.requires.knowing.0 c.args.self.now c.args.seq c.args.name.now c.in-Some.asked c.ask_named.new.self.engines.items c.ask_named.new.self.calls
      c.ask_named.new.self.reached.items (c.in-Some.ensures.asked c.requires.knowing.0 c.requires.knowing.1),
  ap (λ (d : Checker). length d.reached.items) c.is_next.ensures.rest,
)

pub returns-then-not-is_next-clause-not_due : goal.returns-then-not-is_next-clause-not_due
returns-then-not-is_next-clause-not_due c = λ past knows due.
    (let more : c.args.seq ≤ get_or c.ask_named.new.self.latest.items c.in-Some.asked.at 0 = c.if-not-is_next.ensures.not_next in
    not-called (checker_context c.args.table.now c.args.self.now) past c.args.self.now.attached c.args.seq c.args.name.now
    c.in-Some.asked c.args.self.now.calls c.ask_named.new.self.engines.items c.ask_named.new.self.calls
    c.ask_named.new.self.reached.items (c.in-Some.ensures.asked past knows) (notes.Drawn c.args.window c.args.ticket)
    (get_or c.ask_named.new.self.latest.items c.in-Some.asked.at 0)
    (asked-some c.args.table.now past c.args.self.now c.args.seq c.args.name.now c.in-Some.asked
    c.ask_named.new.self.engines.items c.ask_named.new.self.calls c.ask_named.new.self.reached.items
    (c.in-Some.ensures.asked past knows) knows c.requires.free)
    (rw c.ask_named.ensures.latest
    (latest-at c.args.table.now past c.args.self.now c.args.seq c.args.name.now c.in-Some.asked
    c.ask_named.new.self.engines.items c.ask_named.new.self.calls c.ask_named.new.self.reached.items
    (c.in-Some.ensures.asked past knows) knows)) more due)

pub returns-clause-due : goal.returns-clause-due
returns-clause-due c =
    let noted : noted_in c.in-Some.asked.outcome ≡ notes.Drawn c.args.window c.args.ticket = grind (arith, common_steps, c.noted_in.ensures, c.ne.ensures, c.if-ne.false) in
    λ past knows.
    (let less : get_or c.ask_named.new.self.latest.items c.in-Some.asked.at 0 < c.args.seq = c.if-not-is_next.ensures.next in
    called-for (checker_context c.args.table.now c.args.self.now) past c.args.self.now.attached c.args.seq c.args.name.now
    c.in-Some.asked c.args.self.now.calls c.ask_named.new.self.engines.items c.ask_named.new.self.calls
    c.ask_named.new.self.reached.items (c.in-Some.ensures.asked past knows) (notes.Drawn c.args.window c.args.ticket)
    (get_or c.ask_named.new.self.latest.items c.in-Some.asked.at 0)
    (noted-answer c.in-Some.asked.outcome (notes.Drawn c.args.window c.args.ticket) noted (λ is. cc))
    (rw c.ask_named.ensures.latest
    (latest-at c.args.table.now past c.args.self.now c.args.seq c.args.name.now c.in-Some.asked
    c.ask_named.new.self.engines.items c.ask_named.new.self.calls c.ask_named.new.self.reached.items
    (c.in-Some.ensures.asked past knows) knows)) less)

if-some : {X : Type 0} (P : X → Type 0) (o : Option X) (x : X) → o ≡ Some x → IfSome o P → P x
if-some P o x is all = subst (λ p. IfSome p P) is all

further-at : (es : List EngineParts) (at : ℕ) (engine : EngineParts) (ticket : ℕ) → slice_get es at ≡ Some engine
    → (r2 r1 r : List ℕ) (place : ℕ) → r1 ≡ r
    → (r2 ≡ r1) ⊎ ((r2 ≡ set r1 place (at + 1)) × ((e : EngineParts) (cap : ℕ) → slice_get es at ≡ Some e → cap_of e.entry.policy ≡ Some cap → ticket < cap))
    → (r2 ≡ r) ⊎ ((r2 ≡ set r place (at + 1)) × ((cap : ℕ) → cap_of engine.entry.policy ≡ Some cap → ticket < cap))
further-at es at engine ticket there r2 r1 r place same (inl none) = inl (none ∙ same)
further-at es at engine ticket there r2 r1 r place same (inr further) =
    inr (further.0 ∙ ap (λ (ns : List ℕ). set ns place (at + 1)) same, λ cap quota. further.1 engine cap there quota)

pub returns-clause-knows : goal.returns-clause-knows
returns-clause-knows c =
    let noted : noted_in c.in-Some.asked.outcome ≡ notes.Drawn c.args.window c.args.ticket = grind (arith, common_steps, c.noted_in.ensures, c.ne.ensures, c.if-ne.false) in
    λ past knows may.
    (let what : Happening = Drawn c.args.seq c.args.name.now c.args.window c.args.ticket in
    let asked = c.in-Some.ensures.asked past knows in
    let distinct = (c.chain_after_event.ensures.is_chain (checker_context c.args.table.now c.args.self.now) past knows.row.prefix).names in
    let less : get_or c.ask_named.new.self.latest.items c.in-Some.asked.at 0 < c.args.seq = c.if-not-is_next.ensures.next in
    let nothing : c.args.self.now.left ≡ Nothing = not-left past what c.args.self.now.left knows.left may.malformed may.drawn_refused (λ s why refused. cc) in
    let kept : c.is_next.new.self.left ≡ Nothing = ap (λ (d : Checker). d.left) c.is_next.ensures.rest ∙ (c.ask_named.ensures.left ∙ nothing) in
    let latest : c.record_ticket.new.self.latest ≡ c.is_next.new.self.latest = ap (λ (d : Checker). d.latest) c.record_ticket.ensures.rest in
    let places : c.is_next.new.self.reached ≡ c.ask_named.new.self.reached = ap (λ (d : Checker). d.reached) c.is_next.ensures.rest in
    let engines : c.is_next.new.self.engines ≡ c.ask_named.new.self.engines = ap (λ (d : Checker). d.engines) c.is_next.ensures.rest in
    let entries : map (λ (e : EngineParts). e.entry) c.is_next.new.self.engines.items ≡ (chain past).entries =
    ap (λ v. map (λ (e : EngineParts). e.entry) v.items) engines ∙ (c.ask_named.ensures.entries ∙ ap (λ (x : Chain). x.entries) knows.row.ties.same_chain) in
    let engine = unmap-at (λ (e : EngineParts). e.entry) c.is_next.new.self.engines.items c.in-Some.asked.at asked.entry
    (subst (λ (xs : List Entry). slice_get xs c.in-Some.asked.at ≡ Some asked.entry) (sym entries) asked.is_entry) in
    let named : engine.0.entry.name ≡ c.args.name.now = ap (λ (e : Entry). e.name) engine.2 ∙ asked.is_at.named in
    let policy : policy_in_trace engine.0.entry.name past ≡ Some engine.0.entry.policy = policy-at past c.in-Some.asked.at asked.entry engine.0.entry.name distinct asked.is_entry
    (sym (ap (λ (e : Entry). e.name) engine.2)) ∙ ap (λ (e : Entry). Some e.policy) (sym engine.2) in
    let there : slice_get (chain past).entries c.in-Some.asked.at ≡ Some engine.0.entry = asked.is_entry ∙ ap (λ (e : Entry). Some e) (sym engine.2) in
    let opened : IsObligationAfter (what ∷ past) c.record_ticket.new.self.left =
    subst (λ (name : List ℕ). IsObligationAfter (Drawn c.args.seq name c.args.window c.args.ticket ∷ past) c.record_ticket.new.self.left) named
    (if-some (λ (e : EngineParts). policy_in_trace e.entry.name past ≡ Some e.entry.policy → slice_get (chain past).entries c.in-Some.asked.at ≡ Some e.entry
    → IsObligationAfter (Drawn c.args.seq e.entry.name c.args.window c.args.ticket ∷ past) c.record_ticket.new.self.left)
    (slice_get c.is_next.new.self.engines.items c.in-Some.asked.at)
    engine.0 engine.1 (c.record_ticket.ensures.left past c.args.window kept) policy there) in
    let further : (c.record_ticket.new.self.reached.items ≡ c.ask_named.new.self.reached.items)
    ⊎ ((c.record_ticket.new.self.reached.items ≡ set c.ask_named.new.self.reached.items c.in-Some.asked.place (c.in-Some.asked.at + 1))
    × ((cap : ℕ) → cap_of engine.0.entry.policy ≡ Some cap → c.args.ticket < cap)) =
    further-at c.is_next.new.self.engines.items c.in-Some.asked.at engine.0 c.args.ticket engine.1 c.record_ticket.new.self.reached.items
    c.is_next.new.self.reached.items c.ask_named.new.self.reached.items c.in-Some.asked.place (ap (λ v. v.items) places) c.record_ticket.ensures.reached in
    knows-noted c.args.table.now past c.args.self.now c.ask_named.new.self c.args.seq c.args.name.now c.in-Some.asked knows
    c.requires.free asked c.ask_named.ensures.rest c.ask_named.ensures.room c.ask_named.ensures.numbers c.ask_named.ensures.entries c.ask_named.ensures.of_table
    distinct c.record_ticket.new.self what may (notes.Drawn c.args.window c.args.ticket)
    (settled-on c.ask_named.new.self c.is_next.new.self c.record_ticket.new.self c.is_next.ensures.rest c.record_ticket.ensures.rest)
    (ap (λ v. v.items) latest ∙ c.if-not-is_next.ensures.latest) (ap (λ v. vec_capacity v) latest ∙ c.is_next.ensures.capacity) less
    (reaches-settled c.args.table.now past c.args.self.now c.ask_named.new.self c.args.seq c.args.name.now c.in-Some.asked knows
    c.requires.free asked c.ask_named.ensures.rest c.ask_named.ensures.room c.ask_named.ensures.numbers c.ask_named.ensures.entries c.ask_named.ensures.of_table
    distinct c.record_ticket.new.self what may c.args.window c.args.ticket engine.0 c.record_ticket.new.self.reached.items engine.2 noted refl further)
    (c.record_ticket.ensures.capacity ∙ ap (λ v. deque_capacity v) places) noted (λ is. cc) refl
    opened
    (c.record_ticket.ensures.free (subst HasNoMalformed (sym kept) tt)))
