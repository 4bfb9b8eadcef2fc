-- The answer of a chain's entry to a pending call (this project's own).
use Rattle.std.specs.Prelude.{◌≡◌, ◌≢◌, ℕ, ◌-◌, ◌/◌, ◌<◌, ◌≤◌, min, true, false, List, Option, Some, None}
use Rattle.policy_access.specs.Verdict.{AccessPolicy, verdict}
use Rattle.mrpc_table.specs.declared.call.Call.{Call}
use Rattle.policy_rate.specs.declared.rate.Rate.{Rate as RatePolicy}
use Rattle.policy_redact.specs.Redacting.{cleared}
use Rattle.policy_redact.specs.declared.redact.Clear.{Clear}
use Rattle.engine_core.specs.declared.policy.Policy.{Policy}
use Rattle.engine_core.specs.declared.policy.Policy.TheVariants.{Access, Rate, Quota, Count, Redact}
use Rattle.engine_core.specs.declared.outcome.Noted.{Noted}
use Rattle.engine_core.specs.declared.outcome.Noted.TheVariants.{Nothing, Charged, Drawn, Counted}

-- what was noted of a call for an attachment
pub data Past : Type 0 where
  nothing : Past
  charged : Past
  -- with the ticket
  drawn : ℕ → Past
  counted : Past

-- an answer
pub data Answer : Type 0 where
  -- the call may continue
  pass : Answer
  -- it is denied by the rule at an index
  deny : ℕ → Answer
  -- the level is below the cost: the call is held, or refused
  hold : ℕ → ℕ → Answer
  refuse : ℕ → ℕ → Answer
  -- its ticket isn't below the cap
  over : ℕ → ℕ → Answer
  -- something must be noted of it first
  note : Noted → Answer
  -- fields must be cleared from it first
  redact : Answer

-- The answer of an entry to a call in its present form. It depends on the policy, the level of the bucket (if there is
-- one), the timestamp, and what was noted of the call since the attachment.
pub data IsEntryAnswer (policy : Policy) (level moment : ℕ) (form : Call) (past : Past) (answer : Answer) : Type 0 where
  -- access: the first rule that matches, otherwise the default, allows or denies the call
  allows : (p : AccessPolicy) → policy ≡ Access p → (verdict p form).allow ≡ true → answer ≡ pass
      → IsEntryAnswer policy level moment form past answer
  denies : (p : AccessPolicy) → policy ≡ Access p → (verdict p form).allow ≡ false → answer ≡ deny (verdict p form).rule
      → IsEntryAnswer policy level moment form past answer
  -- rate: a call is charged once; if the level is below the cost, the mode decides
  was_charged : (r : RatePolicy) → policy ≡ Rate r → past ≢ nothing → answer ≡ pass
      → IsEntryAnswer policy level moment form past answer
  charges : (r : RatePolicy) → policy ≡ Rate r → past ≡ nothing → r.per ≤ level
      → answer ≡ note (Charged (level - r.per))
      → IsEntryAnswer policy level moment form past answer
  holds : (r : RatePolicy) → policy ≡ Rate r → past ≡ nothing → level < r.per → r.hold ≡ true
      → answer ≡ hold level r.per
      → IsEntryAnswer policy level moment form past answer
  refuses : (r : RatePolicy) → policy ≡ Rate r → past ≡ nothing → level < r.per → r.hold ≡ false
      → answer ≡ refuse level r.per
      → IsEntryAnswer policy level moment form past answer
  -- quota: a ticket is drawn once, and compared with the cap each time
  is_within : (tenant per cap ticket : ℕ) → policy ≡ Quota tenant per cap → past ≡ drawn ticket → ticket < cap
      → answer ≡ pass
      → IsEntryAnswer policy level moment form past answer
  is_over : (tenant per cap ticket : ℕ) → policy ≡ Quota tenant per cap → past ≡ drawn ticket → cap ≤ ticket
      → answer ≡ over ticket cap
      → IsEntryAnswer policy level moment form past answer
  draws : (tenant per cap ticket : ℕ) → policy ≡ Quota tenant per cap → ((t : ℕ) → past ≢ drawn t)
      → answer ≡ note (Drawn (min (moment / per) 1023) ticket)
      → IsEntryAnswer policy level moment form past answer
  -- count: a call is counted once
  was_counted : policy ≡ Count → past ≢ nothing → answer ≡ pass → IsEntryAnswer policy level moment form past answer
  counts : policy ≡ Count → past ≡ nothing → answer ≡ note Counted → IsEntryAnswer policy level moment form past answer
  -- redact: the call's tree must be the tree after the clears, whatever was noted
  is_clear : (clears : List Clear) → policy ≡ Redact clears → cleared clears form ≡ form.tree → answer ≡ pass
      → IsEntryAnswer policy level moment form past answer
  redacts : (clears : List Clear) → policy ≡ Redact clears → cleared clears form ≢ form.tree → answer ≡ redact
      → IsEntryAnswer policy level moment form past answer

-- the ticket of a draw that an answer asks for
abbrev pub ticket_in : Answer → Option ℕ
ticket_in (note (Drawn window ticket)) = Some ticket
ticket_in _ = None

-- an entry allows a call if the call may continue and nothing must be noted
abbrev pub IsAllowedBy : Policy → ℕ → ℕ → Call → Past → Type 0
IsAllowedBy policy level moment form past = IsEntryAnswer policy level moment form past pass

-- what was noted, and the level, after a further note
abbrev pub past_after : Noted → Past → Past
past_after Nothing past = past
past_after (Charged level) past = charged
past_after (Drawn window ticket) past = drawn ticket
past_after Counted past = counted

abbrev pub level_after_note : Noted → ℕ → ℕ
level_after_note (Charged level) before = level
level_after_note _ before = before
