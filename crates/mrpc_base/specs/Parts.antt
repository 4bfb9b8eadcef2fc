-- The code's own: the parts of a heap of plain words: the words with their stores, the scheduled races, and the room
-- for both.
use Rattle.std.specs.Prelude.{◌≡◌, ◌<◌, ℕ, ◌+◌, ◌^◌, ◌≤◌, List, ◌∷◌, length, slice_index, All}
use Rattle.mrpc_base.specs.Heap.{Race, word_after}

-- how many words a heap has, and the stores that were made to it
pub record StoredWordsState : Type 0 where
  pub size : ℕ
  pub stores : List (ℕ × ℕ)

-- each word is the last value stored at its place
abbrev pub AreWordsAfter : List (ℕ × ℕ) → List ℕ → Type 0
AreWordsAfter stores words = (place : ℕ) → place < length words → slice_index words place ≡ word_after stores place

-- the scheduled races, in the order in which they are made, and the number of the next listing
pub record ScheduledRaces : Type 0 where
  pub races : List Race
  pub listed : ℕ

-- the race of an entry: a load and a number of listing, then a place and a value
abbrev pub race_of : (ℕ × ℕ) × (ℕ × ℕ) → Race
race_of entry = record { load = entry.0.0; place = entry.1.0; value = entry.1.1 }

-- every number of listing is below the next
abbrev pub AreListedBelow : ℕ → List ((ℕ × ℕ) × (ℕ × ℕ)) → Type 0
AreListedBelow next entries = All (λ entry. entry.0.1 < next) entries

-- the store of the first race, and the races after it
abbrev pub IsFirstRace : List Race → List Race → ℕ × ℕ → Type 0
IsFirstRace old new store = (race : Race) × (old ≡ race ∷ new) × (store ≡ (race.place, race.value))

-- like `IsFirstRace`, for a race of a load up to a number
abbrev pub IsFirstDue : ℕ → List Race → List Race → ℕ × ℕ → Type 0
IsFirstDue number old new store = (race : Race) × (old ≡ race ∷ new) × (store ≡ (race.place, race.value))
    × (race.load ≤ number)

-- each load and store that has room can still be counted, the stores of scheduled races included
pub record IsCountable (stored : StoredWordsState) (waiting : ScheduledRaces) (loads finished load_room store_room : ℕ) : Type 0 where
  pub begun : finished ≤ loads
  pub for_loads : loads + load_room < 2 ^ 64
  pub for_stores : length stored.stores + length waiting.races + store_room < 2 ^ 64
  -- each race that was listed is scheduled or is a store
  pub listed : waiting.listed ≤ length stored.stores + length waiting.races
  pub in_heap : All (λ race. race.place < stored.size) waiting.races
