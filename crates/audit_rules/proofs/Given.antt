-- A ticket that was drawn elsewhere is returned by each draw.
use Rattle.std.proofs.Common.{◌≡◌, ℕ, ◌==◌, Bool, true, false, List, [], ◌∷◌, ◌++◌, All, Contains, refl, ap, sym, ◌∙◌, subst}
use Rattle.std.specs.Prelude.{Some}
use Rattle.std.proofs.lemmas.List.Elements.{All-contains, All-nil, All-push, Contains-push}
use Rattle.engine_core.specs.Answers.{IsEntryAnswer, Past, note, allows, denies, was_charged, charges, holds, refuses, is_within, is_over, draws, was_counted, counts, is_clear, redacts}
use Rattle.mrpc_table.specs.declared.call.Call.{Call}
use Rattle.engine_core.specs.Engines.{EngineParts}
use Rattle.engine_core.specs.Marks.{IsAllowing, PendingCall, is_allowed, past_of}
use Rattle.engine_core.specs.Turns.{IsTurnOutcome, IsRecordedDraw, noted_in, passes, is_noted_and_passes, is_held, is_refused, is_noted_and_refused, is_redacted}
use Rattle.engine_core.specs.Working.{IsTurn, AreTicketsAfterTurn}
use Rattle.engine_core.specs.Policies.{IsAccess}
use Rattle.policy_access.specs.Verdict.{AccessPolicy}
use Rattle.engine_core.specs.declared.outcome.Noted.{Noted}
use Rattle.engine_core.specs.declared.outcome.Noted.TheVariants.{Drawn, Nothing}
use Rattle.engine_core.specs.declared.outcome.Outcome.{Outcome}
use Rattle.engine_core.specs.declared.outcome.Outcome.TheVariants.{Passed}
use Rattle.engine_core.specs.declared.policy.Policy.{Policy}
use Rattle.engine_core.specs.declared.policy.Policy.TheVariants.{Access, Rate, Quota, Count, Redact}
use Rattle.audit_rules.specs.Given.{tickets_of_draws, with_draw}
use Rattle.audit_rules.specs.declared.fixed_ticket.FixedTicket.{FixedTicket}

all-with : (b c : Bool) (ticket : ℕ) (tickets : List ℕ) → All (λ t. t ≡ ticket) tickets → All (λ t. t ≡ ticket) (with_draw b c ticket tickets)
all-with true true ticket tickets all = All-push (λ t. t ≡ ticket) tickets ticket all refl
all-with true false ticket tickets all = all
all-with false c ticket tickets all = all

all-same : (ticket tenant window : ℕ) (list : List (ℕ × ℕ)) → All (λ t. t ≡ ticket) (tickets_of_draws ticket list tenant window)
all-same ticket tenant window [] = All-nil (λ t. t ≡ ticket)
all-same ticket tenant window (d ∷ list) =
    all-with (d.0 == tenant) (d.1 == window) ticket (tickets_of_draws ticket list tenant window) (all-same ticket tenant window list)

-- a ticket after the earlier ones is the one that the source returns
same-ticket : (ticket before drawn tenant window : ℕ) (list earlier : List (ℕ × ℕ))
    → tickets_of_draws ticket list tenant window ≡ tickets_of_draws before earlier tenant window ++ drawn ∷ [] → drawn ≡ ticket
same-ticket ticket before drawn tenant window list earlier is =
    All-contains (λ t. t ≡ ticket) (tickets_of_draws ticket list tenant window) drawn (all-same ticket tenant window list)
    (subst (λ (l : List ℕ). Contains l drawn) (sym is) (Contains-push (tickets_of_draws before earlier tenant window) drawn))

-- ---- a note of a draw is a quota's

abbrev IsQuota : Policy → Type 0
IsQuota policy = (tenant : ℕ) × (per : ℕ) × (cap : ℕ) × (policy ≡ Quota tenant per cap)

quota-answers : (policy : Policy) (level moment : ℕ) (form : Call) (past : Past) (window ticket : ℕ)
    → IsEntryAnswer policy level moment form past (note (Drawn window ticket)) → IsQuota policy
quota-answers policy level moment form past window ticket (allows p is allow answer) = absurd cc
quota-answers policy level moment form past window ticket (denies p is allow answer) = absurd cc
quota-answers policy level moment form past window ticket (was_charged r is some answer) = absurd cc
quota-answers policy level moment form past window ticket (charges r is none enough answer) = absurd cc
quota-answers policy level moment form past window ticket (holds r is none less mode answer) = absurd cc
quota-answers policy level moment form past window ticket (refuses r is none less mode answer) = absurd cc
quota-answers policy level moment form past window ticket (is_within tenant per cap k is some less answer) = absurd cc
quota-answers policy level moment form past window ticket (is_over tenant per cap k is some more answer) = absurd cc
quota-answers policy level moment form past window ticket (draws tenant per cap k is none answer) = (tenant, per, cap, is)
quota-answers policy level moment form past window ticket (was_counted is some answer) = absurd cc
quota-answers policy level moment form past window ticket (counts is none answer) = absurd cc
quota-answers policy level moment form past window ticket (is_clear clears is left answer) = absurd cc
quota-answers policy level moment form past window ticket (redacts clears is other answer) = absurd cc

quota-comes : (policy : Policy) (level moment : ℕ) (form : Call) (past : Past) (outcome : Outcome) (window ticket : ℕ) → noted_in outcome ≡ Drawn window ticket
    → IsTurnOutcome policy level moment form past outcome → IsQuota policy
quota-comes policy level moment form past outcome window ticket drawn (passes a is) = let none : noted_in outcome ≡ Nothing = ap noted_in is in absurd cc
quota-comes policy level moment form past outcome window ticket drawn (is_noted_and_passes n a after is) =
    let same : n ≡ Drawn window ticket = sym (ap noted_in is) ∙ drawn in
    quota-answers policy level moment form past window ticket (subst (λ (n : Noted). IsEntryAnswer policy level moment form past (note n)) same a)
quota-comes policy level moment form past outcome window ticket drawn (is_held l cost a is) = let none : noted_in outcome ≡ Nothing = ap noted_in is in absurd cc
quota-comes policy level moment form past outcome window ticket drawn (is_refused why a is) = let none : noted_in outcome ≡ Nothing = ap noted_in is in absurd cc
quota-comes policy level moment form past outcome window ticket drawn (is_noted_and_refused n why a after is) =
    let same : n ≡ Drawn window ticket = sym (ap noted_in is) ∙ drawn in
    quota-answers policy level moment form past window ticket (subst (λ (n : Noted). IsEntryAnswer policy level moment form past (note n)) same a)
quota-comes policy level moment form past outcome window ticket drawn (is_redacted a is) = let none : noted_in outcome ≡ Nothing = ap noted_in is in absurd cc

module _ (e : EngineParts) (moment : ℕ) (s : PendingCall) (outcome : Outcome) (turn : IsTurn e moment s outcome)
    (window ticket : ℕ) (drawn : noted_in outcome ≡ Drawn window ticket) where
  quota-asked : (is_allowed s.marks e.entry.attach e.entry.version ≡ true → IsAllowing e.entry.policy s.call) → IsQuota e.entry.policy
  quota-asked may = quota-comes e.entry.policy e.level moment s.call (past_of s.marks e.entry.attach) outcome window ticket drawn (turn.comes may)

  quota-allowed : (b : Bool) → is_allowed s.marks e.entry.attach e.entry.version ≡ b → (p : AccessPolicy) → e.entry.policy ≡ Access p → IsQuota e.entry.policy
  quota-allowed true is p access =
      let passed : outcome ≡ Passed Nothing = turn.allowed is (subst IsAccess (sym access) tt) in
      let none : noted_in outcome ≡ Nothing = ap noted_in passed in
      absurd cc
  quota-allowed false is p access = quota-asked (λ allowed. absurd cc)

  quota-turn : (policy : Policy) → e.entry.policy ≡ policy → IsQuota e.entry.policy
  quota-turn (Access p) is = quota-allowed (is_allowed s.marks e.entry.attach e.entry.version) refl p is
  quota-turn (Rate r) is = quota-asked (λ _. subst (λ (p : Policy). IsAllowing p s.call) (sym is) tt)
  quota-turn (Quota tenant per cap) is = (tenant, per, cap, is)
  quota-turn Count is = quota-asked (λ _. subst (λ (p : Policy). IsAllowing p s.call) (sym is) tt)
  quota-turn (Redact r) is = quota-asked (λ _. subst (λ (p : Policy). IsAllowing p s.call) (sym is) tt)

  -- the ticket that a turn notes is the one that the source returned
  pub drawn-given : (before after : FixedTicket)
      → AreTicketsAfterTurn (λ (p : FixedTicket) (tenant : ℕ). Unit {0}) (λ (p : FixedTicket) (tenant : ℕ) (window : ℕ). Some (tickets_of_draws p.ticket p.draws.list tenant window))
      (λ (first : FixedTicket) (later : FixedTicket). later.ticket ≡ first.ticket) e.entry.policy (noted_in outcome) before after
      → ticket ≡ before.ticket
  drawn-given before after leaves =
      let quota = quota-turn e.entry.policy refl in
      let told = subst (λ (n : Noted).
      IsRecordedDraw (λ (t : ℕ) (w : ℕ). Some (tickets_of_draws before.ticket before.draws.list t w))
      (λ (t : ℕ) (w : ℕ). Some (tickets_of_draws after.ticket after.draws.list t w)) (Quota quota.0 quota.1 quota.2) n)
      drawn
      (subst (λ (p : Policy). IsRecordedDraw (λ (t : ℕ) (w : ℕ). Some (tickets_of_draws before.ticket before.draws.list t w))
      (λ (t : ℕ) (w : ℕ). Some (tickets_of_draws after.ticket after.draws.list t w)) p (noted_in outcome)) quota.3
      leaves.drawn) in
      same-ticket after.ticket before.ticket ticket quota.0 window after.draws.list before.draws.list told ∙ leaves.since before refl
