-- Levels that were worked out by hand.
use Rattle.std.proofs.Common.{◌≡◌, [], ◌∷◌, refl, true, false}
use Rattle.policy_rate.specs.Level.{level_of_past, moment, charge, upgrade}
use Rattle.policy_rate.specs.declared.rate.Rate.{Rate}

-- one call per second, two at once
abbrev second : Rate
second = record { amount = 1; per = 1000; burst = 2; hold = true }

-- one call per half a second, one at once
abbrev half : Rate
half = record { amount = 1; per = 500; burst = 1; hold = true }

-- three calls per seven milliseconds
abbrev thirds : Rate
thirds = record { amount = 3; per = 7; burst = 100; hold = false }

begins_full : level_of_past second 0 [] ≡ 2000
begins_full = refl

two_charges : level_of_past second 0 (charge ∷ charge ∷ []) ≡ 0
two_charges = refl

just_short : level_of_past second 0 (moment 999 ∷ charge ∷ charge ∷ []) ≡ 999
just_short = refl

one_more_millisecond : level_of_past second 0 (moment 1000 ∷ moment 999 ∷ charge ∷ charge ∷ []) ≡ 1000
one_more_millisecond = refl

never_more_than_full : level_of_past second 0 (moment 9007199254740992 ∷ charge ∷ []) ≡ 2000
never_more_than_full = refl

a_lower_moment_adds_nothing : level_of_past second 5 (moment 3 ∷ moment 1005 ∷ moment 4 ∷ charge ∷ charge ∷ []) ≡ 1000
a_lower_moment_adds_nothing = refl

an_upgrade_keeps_the_calls : level_of_past second 0 (upgrade half ∷ charge ∷ []) ≡ 500
an_upgrade_keeps_the_calls = refl

an_upgrade_rounds_down : level_of_past half 0 (upgrade thirds ∷ moment 71 ∷ charge ∷ []) ≡ 0
an_upgrade_rounds_down = refl

an_upgrade_rounds_down_again : level_of_past half 0 (upgrade thirds ∷ moment 72 ∷ charge ∷ []) ≡ 1
an_upgrade_rounds_down_again = refl

an_upgrade_is_no_more_than_full : level_of_past second 0 (upgrade half ∷ []) ≡ 500
an_upgrade_is_no_more_than_full = refl
