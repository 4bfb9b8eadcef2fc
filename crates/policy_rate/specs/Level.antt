-- The level of a rate policy's bucket, by the events of its attachment (this project's own).
use Rattle.std.specs.Prelude.{ℕ, ◌+◌, ◌-◌, ◌*◌, ◌/◌, ◌≤◌, min, max, List, [], ◌∷◌}
use Rattle.policy_rate.specs.declared.rate.Rate.{Rate}

-- the numbers of a rate policy are in their ranges
pub record IsRate (r : Rate) : Type 0 where
  pub amount_from : 1 ≤ r.amount
  pub amount_to : r.amount ≤ 1000000
  pub per_from : 1 ≤ r.per
  pub per_to : r.per ≤ 86400000
  pub burst_from : 1 ≤ r.burst
  pub burst_to : r.burst ≤ 1000000

-- the level of a full bucket: the cost of `burst` calls
abbrev pub full_level : Rate → ℕ
full_level r = r.burst * r.per

-- a level after some milliseconds: each adds `amount`, up to a full bucket
abbrev pub level_after : Rate → ℕ → ℕ → ℕ
level_after r level_of_past passed = min (full_level r) (level_of_past + r.amount * passed)

-- a level under a new policy: it pays for as many calls as before, rounded down, up to a full bucket
abbrev pub converted_level : Rate → Rate → ℕ → ℕ
converted_level old new level_of_past = min (full_level new) (level_of_past * new.per / old.per)

-- an event of an attachment: a timestamp in milliseconds, a charged call, or a new policy
pub data BucketEvent : Type 0 where
  moment : ℕ → BucketEvent
  charge : BucketEvent
  upgrade : Rate → BucketEvent

-- The past of an attachment is the list of its events, the latest first. `first` is the policy that was attached, and
-- `start` the timestamp of the attachment.

-- the policy in force
abbrev pub rate_after : Rate → List BucketEvent → Rate
rate_after first [] = first
rate_after first (moment now ∷ past) = rate_after first past
rate_after first (charge ∷ past) = rate_after first past
rate_after first (upgrade new ∷ past) = new

-- the latest timestamp; an earlier one counts as the one before it
abbrev pub timestamp_after : ℕ → List BucketEvent → ℕ
timestamp_after start [] = start
timestamp_after start (moment now ∷ past) = max (timestamp_after start past) now
timestamp_after start (charge ∷ past) = timestamp_after start past
timestamp_after start (upgrade new ∷ past) = timestamp_after start past

-- the level: a bucket starts full, time fills it, a call costs `per`, and an upgrade converts it
abbrev pub level_of_past : Rate → ℕ → List BucketEvent → ℕ
level_of_past first start [] = full_level first
level_of_past first start (moment now ∷ past) =
    level_after (rate_after first past) (level_of_past first start past) (now - timestamp_after start past)
level_of_past first start (charge ∷ past) = level_of_past first start past - (rate_after first past).per
level_of_past first start (upgrade new ∷ past) = converted_level (rate_after first past) new (level_of_past first start past)

-- each call was charged at a level that covered its cost
abbrev pub IsPaid : Rate → ℕ → List BucketEvent → Type 0
IsPaid first start [] = Unit {0}
IsPaid first start (moment now ∷ past) = IsPaid first start past
IsPaid first start (charge ∷ past) = ((rate_after first past).per ≤ level_of_past first start past) × IsPaid first start past
IsPaid first start (upgrade new ∷ past) = IsPaid first start past

-- the number of charged calls
abbrev pub charges : List BucketEvent → ℕ
charges [] = 0
charges (moment now ∷ past) = charges past
charges (charge ∷ past) = charges past + 1
charges (upgrade new ∷ past) = charges past

-- no policy was replaced
abbrev pub HasNoUpgrade : List BucketEvent → Type 0
HasNoUpgrade [] = Unit {0}
HasNoUpgrade (moment now ∷ past) = HasNoUpgrade past
HasNoUpgrade (charge ∷ past) = HasNoUpgrade past
HasNoUpgrade (upgrade new ∷ past) = ⊥
