-- The effect of charging a bucket, and of comparing a ticket, on a turn.
use Rattle.std.proofs.Common.{◌≡◌, ◌≢◌, ℕ, ◌/◌, ◌<◌, ◌≤◌, min, inl, inr, refl}
use Rattle.std.proofs.lemmas.Bool.{cases_lt}
use Rattle.policy_rate.specs.declared.bucket.Step.{Step}
use Rattle.policy_rate.specs.declared.bucket.Step.TheVariants.{Pass, Short}
use Rattle.engine_core.specs.Answers.{drawn}
use Rattle.engine_core.specs.Marks.{PendingCall, past_of}
use Rattle.engine_core.specs.EngineSteps.{IsEngineStep, with_mark, is_within, is_over, draws_within, draws_over}
use Rattle.engine_core.specs.declared.policy.Policy.TheVariants.{Quota}
use Rattle.engine_core.specs.declared.mark.MarkNote.TheVariants as marks
use Rattle.engine_core.specs.declared.outcome.Noted.TheVariants.{Nothing, Drawn}
use Rattle.engine_core.specs.declared.outcome.Why.TheVariants.{Over}
use Rattle.engine_core.specs.declared.outcome.Outcome.{Outcome}
use Rattle.engine_core.specs.declared.outcome.Outcome.TheVariants.{Passed, Refused}

-- a charge that passes found the cost
pub pays : (cost level : ℕ) (s : Step) (left : ℕ) → (level < cost → s ≡ Short level cost) → s ≡ Pass left → cost ≤ level
pays cost level s left short is = elim (cases_lt level cost) [ inl less ↦ absurd (unequal (short less)) | inr enough ↦ enough ] where
  unequal : s ≡ Short level cost → ⊥
  unequal other = cc

-- a charge that comes short found less
pub falls_short : (cost level : ℕ) (s : Step) (left l c : ℕ) → (cost ≤ level → s ≡ Pass left) → s ≡ Short l c → level < cost
falls_short cost level s left l c pass is = elim (cases_lt level cost) [ inl less ↦ less | inr enough ↦ absurd (unequal (pass enough)) ] where
  unequal : s ≡ Pass left → ⊥
  unequal other = cc

-- a call whose ticket was drawn before
pub ticket_again : (tenant per cap attach version level moment ticket : ℕ) (s : PendingCall) (outcome : Outcome) → past_of s.marks attach ≡ drawn ticket
    → (ticket < cap → outcome ≡ Passed Nothing) → (cap ≤ ticket → outcome ≡ Refused Nothing (Over ticket cap))
    → IsEngineStep (Quota tenant per cap) attach version level moment s s level outcome
ticket_again tenant per cap attach version level moment ticket s outcome past within over =
    elim (cases_lt ticket cap) [
      | inl less ↦ is_within tenant per cap ticket refl past less
          (within less) refl refl
      | inr more ↦ is_over tenant per cap ticket refl past more (over more) refl refl
    ]

-- a call whose ticket is drawn now
pub ticket_now : (tenant per cap attach version level moment ticket : ℕ) (old new : PendingCall) (outcome : Outcome) → ((t : ℕ) → past_of old.marks attach ≢ drawn t)
    → new ≡ with_mark attach (marks.Drawn ticket) old
    → (ticket < cap → outcome ≡ Passed (Drawn (min (moment / per) 1023) ticket)) → (cap ≤ ticket → outcome ≡ Refused (Drawn (min (moment / per) 1023) ticket) (Over ticket cap))
    → IsEngineStep (Quota tenant per cap) attach version level moment old new level outcome
ticket_now tenant per cap attach version level moment ticket old new outcome past is within over =
    elim (cases_lt ticket cap) [
      | inl less ↦ draws_within tenant per cap ticket refl past less
          (within less) is refl
      | inr more ↦ draws_over tenant per cap ticket refl past more (over more) is refl
    ]
