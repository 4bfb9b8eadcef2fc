-- Counts that rise by one and saturate.
use Rattle.std.specs.Prelude.{◌≡◌, ◌<◌, ◌⊎◌, ℕ, ◌+◌, ◌-◌, ◌^◌, ◌≤◌, min}

-- a device's count of failures rose, or has reached its last value
abbrev pub HasRisen : ℕ → ℕ → Type 0
HasRisen old new = (old < new) ⊎ (2 ^ 64 - 1 ≤ new)

-- a count after one more, saturating at 2^64 - 1
abbrev pub raised : ℕ → ℕ
raised count = min (count + 1) (2 ^ 64 - 1)

-- the cause of a failure is counted: the count of failures rises if the call failed, stays otherwise, and never falls
pub record HasCause (failed : Type 0) (before now : ℕ) : Type 0 where
  pub rose : failed → HasRisen before now
  pub stays : (failed → ⊥) → now ≡ before
  pub never_falls : before ≤ now
