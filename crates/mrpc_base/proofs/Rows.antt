-- The definitions on small heaps, by evaluation.
use Rattle.std.proofs.Common.{◌≡◌, ℕ, List, [], ◌∷◌, Some, None, ◌-◌, ◌^◌, refl}
use Rattle.mrpc_base.specs.Failures.{raised}
use Rattle.mrpc_base.specs.Heap.{Race, word_after, stores_of, races_up_to, races_past, races_with}
use Rattle.mrpc_base.specs.Sources.{given_count}

-- the last store counts, a store elsewhere doesn't, and a place without stores has 0
last_counts : word_after ((2, 150) ∷ (3, 4) ∷ (2, 9) ∷ []) 2 ≡ 9
unfolding word_after
last_counts = refl

first_counts_alone : word_after ((2, 150) ∷ (3, 4) ∷ []) 2 ≡ 150
unfolding word_after
first_counts_alone = refl

zero_counts : word_after ((2, 150) ∷ (2, 0) ∷ []) 2 ≡ 0
unfolding word_after
zero_counts = refl

never_stored : word_after ((2, 150) ∷ (3, 4) ∷ []) 5 ≡ 0
unfolding word_after
never_stored = refl

abbrev race : ℕ → ℕ → ℕ → Race
race load place value = record { load = load; place = place; value = value }

-- listed as 3, 1, 3, 2
abbrev four : List Race
four = races_with (races_with (races_with (races_with [] (race 3 4 30)) (race 1 2 9)) (race 3 4 31)) (race 2 4 20)

by_load_then_by_listing : stores_of four ≡ (2, 9) ∷ (4, 20) ∷ (4, 30) ∷ (4, 31) ∷ []
by_load_then_by_listing = refl

up_to_two : stores_of (races_up_to 2 four) ≡ (2, 9) ∷ (4, 20) ∷ []
up_to_two = refl

past_two : stores_of (races_past 2 four) ≡ (4, 30) ∷ (4, 31) ∷ []
past_two = refl

-- the least of the three, or of the two
short_length : given_count (Some 1) 3 5 ≡ 1
short_length = refl

small_buffer : given_count (Some 9) 3 5 ≡ 3
small_buffer = refl

few_left : given_count None 3 2 ≡ 2
few_left = refl

stands_still : raised (2 ^ 64 - 1) ≡ 2 ^ 64 - 1
stands_still = refl
