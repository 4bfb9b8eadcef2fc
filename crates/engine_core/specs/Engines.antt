-- Engines as contracts see them, and the past of an engine with a rate policy.
use Rattle.std.specs.Prelude.{◌≡◌, ℕ, ◌-◌, max, List, ◌∷◌, map}
use Rattle.policy_rate.specs.Level.{BucketEvent, charge, rate_after, timestamp_after, IsPaid}
use Rattle.policy_rate.specs.Level as bucket
use Rattle.policy_rate.specs.declared.rate.Rate.{Rate as RatePolicy}
use Rattle.engine_core.specs.Chains.{Chain, Entry}
use Rattle.engine_core.specs.Policies.{level_after_time}
use Rattle.engine_core.specs.declared.policy.Policy.TheVariants.{Rate}
use Rattle.engine_core.specs.declared.outcome.Noted.{Noted}
use Rattle.engine_core.specs.declared.outcome.Noted.TheVariants.{Charged}

-- the entry of an engine, the level of its bucket, and its latest timestamp
pub record EngineParts : Type 0 where
  pub entry : Entry
  pub level : ℕ
  pub last : ℕ

-- the entries of engines, with the number of attachments
abbrev pub chain_of_engines : List EngineParts → ℕ → Chain
chain_of_engines engines attached = record { entries = map (λ e. e.entry) engines; attached = attached }

-- an engine after a timestamp: time fills its bucket, and an earlier timestamp counts as the last one
abbrev pub clocked : ℕ → EngineParts → EngineParts
clocked now e = record {
  entry = e.entry;
  level = level_after_time e.entry.policy e.level (now - e.last);
  last = max e.last now;
}

-- The events of the engine's attachment, the latest first. The policy `first` was attached at the timestamp `start`.
-- The engine has the policy, the level and the latest timestamp of this past, in which each charge was covered.
pub record IsHistoryOfBucket (e : EngineParts) (first : RatePolicy) (start : ℕ) (past : List BucketEvent) : Type 0 where
  pub policy : e.entry.policy ≡ Rate (rate_after first past)
  pub level : e.level ≡ bucket.level_of_past first start past
  pub last : e.last ≡ timestamp_after start past
  pub paid : IsPaid first start past

-- the past of a bucket after a note
abbrev pub past_after_note : Noted → List BucketEvent → List BucketEvent
past_after_note (Charged level) past = charge ∷ past
past_after_note _ past = past
