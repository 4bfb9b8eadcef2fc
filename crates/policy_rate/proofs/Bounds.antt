-- The maximum of a level, and the number of charges that a period pays for.
use Rattle.std.proofs.Common.{◌≡◌, ℕ, ◌+◌, ◌-◌, ◌*◌, ◌/◌, ◌≤◌, ◌<◌, min, max, List, [], ◌∷◌, ◌++◌, refl, ap, arith}
use Rattle.std.proofs.Math.Nat.{min-le_left, min-le_right, le-div_iff_mul-le}
use Rattle.policy_rate.specs.Level.{IsRate, BucketEvent, moment, charge, upgrade, full_level, level_of_past, rate_after, timestamp_after, charges, IsPaid, HasNoUpgrade}
use Rattle.policy_rate.specs.declared.rate.Rate.{Rate}

pub level-le-full : (first : Rate) (start : ℕ) (past : List BucketEvent) → level_of_past first start past ≤ full_level (rate_after first past)
level-le-full first start [] = omega arith
level-le-full first start (moment now ∷ past) = min-le_left _ _
level-le-full first start (charge ∷ past) = omega (arith, level-le-full first start past)
level-le-full first start (upgrade new ∷ past) = min-le_left _ _

-- without an upgrade the policy in force is unchanged
rate_after-append : (first : Rate) (past recent : List BucketEvent) → HasNoUpgrade recent → rate_after first (recent ++ past) ≡ rate_after first past
rate_after-append first past [] same = refl
rate_after-append first past (moment now ∷ recent) same = rate_after-append first past recent same
rate_after-append first past (charge ∷ recent) same = rate_after-append first past recent same
rate_after-append first past (upgrade new ∷ recent) same = absurd same

-- the timestamp never falls
moment_after-append : (start : ℕ) (past recent : List BucketEvent) → timestamp_after start past ≤ timestamp_after start (recent ++ past)
moment_after-append start past [] = omega arith
moment_after-append start past (moment now ∷ recent) = omega (arith, moment_after-append start past recent)
moment_after-append start past (charge ∷ recent) = moment_after-append start past recent
moment_after-append start past (upgrade new ∷ recent) = moment_after-append start past recent

-- two consecutive periods add what the whole period adds
joined_time : (amount from to now : ℕ) → from ≤ to → amount * (to - from) + amount * (now - to) ≡ amount * (max to now - from)
joined_time amount from to now later =
    let split : (to - from) + (now - to) ≡ max to now - from = omega arith in
    omega (arith, ap (λ n. amount * n) split)

-- advancing the clock pays for what it adds
clocked : (spent full before level_of_past amount from to now : ℕ) → spent + level_of_past ≤ before + amount * (to - from) → from ≤ to
    → spent + min full (level_of_past + amount * (now - to)) ≤ before + amount * (max to now - from)
clocked spent full before level_of_past amount from to now paid later =
    omega (arith, min-le_right full (level_of_past + amount * (now - to)), joined_time amount from to now later)

-- the cost of the calls and the remaining level are at most the first level and what time added
paid_for : (first : Rate) (start : ℕ) (past recent : List BucketEvent) → IsPaid first start (recent ++ past) → HasNoUpgrade recent
    → charges recent * (rate_after first past).per + level_of_past first start (recent ++ past)
    ≤ level_of_past first start past + (rate_after first past).amount * (timestamp_after start (recent ++ past) - timestamp_after start past)
paid_for first start past [] paid same = omega arith
paid_for first start past (moment now ∷ recent) paid same =
    rw (rate_after-append first past recent same)
    (clocked (charges recent * (rate_after first past).per) (full_level (rate_after first past)) (level_of_past first start past) (level_of_past first start (recent ++ past))
    (rate_after first past).amount (timestamp_after start past) (timestamp_after start (recent ++ past)) now
    (paid_for first start past recent paid same) (moment_after-append start past recent))
paid_for first start past (charge ∷ recent) paid same =
    let cost : (rate_after first (recent ++ past)).per ≡ (rate_after first past).per = ap (λ (r : Rate). r.per) (rate_after-append first past recent same) in
    omega (arith, cost, paid.0, paid_for first start past recent paid.1 same)
paid_for first start past (upgrade new ∷ recent) paid same = absurd same

pub charges-le : (first : Rate) (start : ℕ) (past recent : List BucketEvent) → IsRate (rate_after first past)
    → IsPaid first start (recent ++ past) → HasNoUpgrade recent
    → charges recent ≤ (full_level (rate_after first past) + (rate_after first past).amount *
    (timestamp_after start (recent ++ past) - timestamp_after start past)) / (rate_after first past).per
charges-le first start past recent rate paid same =
    let costs : 0 < (rate_after first past).per = omega (arith, rate.per_from) in
    (le-div_iff_mul-le costs).1 (omega (arith, paid_for first start past recent paid same, level-le-full first start past))
