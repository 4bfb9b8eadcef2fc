-- The words of a heap by the stores that were made to it, and stores that race with its reader's loads.
use Rattle.std.specs.Prelude.{◌≡◌, ℕ, ◌+◌, ◌==◌, nat_le, nat_lt, List, [], ◌∷◌, ◌++◌, Option, None, Some, filter, map, ⊤}

-- the last of some numbers, or `otherwise` if there is none
abbrev pub last_or : ℕ → List ℕ → ℕ
last_or otherwise [] = otherwise
last_or otherwise (x ∷ xs) = last_or x xs

-- the value of the last store to a place in a list of stores, oldest first, or 0 without any; a store is a place and a
-- value
unfoldable pub word_after : List (ℕ × ℕ) → ℕ → ℕ
word_after stores place = last_or 0 (map (λ store. store.1) (filter (λ store. store.0 == place) stores))

-- the known stores stay a prefix of all stores
abbrev pub IsExtendedTo : Option (List (ℕ × ℕ)) → Option (List (ℕ × ℕ)) → Type 0
IsExtendedTo None new = ⊤
IsExtendedTo (Some xs) None = ⊥
IsExtendedTo (Some xs) (Some ys) = (more : List (ℕ × ℕ)) × (ys ≡ xs ++ more)

-- a store that is made right before a load, which is counted from 1 in its submission
pub record Race : Type 0 where
  pub load : ℕ
  pub place : ℕ
  pub value : ℕ

-- the stores of some races
abbrev pub stores_of : List Race → List (ℕ × ℕ)
stores_of races = map (λ race. (race.place, race.value)) races

-- the races of loads up to a number
abbrev pub races_up_to : ℕ → List Race → List Race
races_up_to number races = filter (λ race. nat_le race.load number) races

-- the races of loads past a number
abbrev pub races_past : ℕ → List Race → List Race
races_past number races = filter (λ race. nat_lt number race.load) races

-- one more race: after those of its load and of earlier loads, and before those of later loads
abbrev pub races_with : List Race → Race → List Race
races_with races race = races_up_to race.load races ++ race ∷ races_past race.load races

-- a heap of plain words
pub record Heap : Type 0 where
  -- how many words it has
  pub size : ℕ
  -- every load and every store so far, each a place and a value, in order
  pub loads : List (ℕ × ℕ)
  pub stores : List (ℕ × ℕ)
  -- how many loads there were since the last submission was finished
  pub begun : ℕ
  -- the scheduled races, in the order in which they are made
  pub races : List Race
  -- for how many loads, and for how many stores, there is room
  pub load_room : ℕ
  pub store_room : ℕ

-- only the room for loads has changed
pub record IsRoomChange (old new : Heap) : Type 0 where
  pub size : new.size ≡ old.size
  pub loads : new.loads ≡ old.loads
  pub stores : new.stores ≡ old.stores
  pub begun : new.begun ≡ old.begun
  pub races : new.races ≡ old.races
  pub store_room : new.store_room ≡ old.store_room

-- one load of a value from a place: the races up to the load are made first, and the load sees them
pub record IsLoad (old : Heap) (place value : ℕ) (new : Heap) : Type 0 where
  pub size : new.size ≡ old.size
  pub loads : new.loads ≡ old.loads ++ (place, value) ∷ []
  pub stores : new.stores ≡ old.stores ++ stores_of (races_up_to (old.begun + 1) old.races)
  pub races : new.races ≡ races_past (old.begun + 1) old.races
  pub word : value ≡ word_after new.stores place
  pub begun : new.begun ≡ old.begun + 1
  pub store_room : new.store_room ≡ old.store_room

-- these loads were made in order, each with the change that a load makes
abbrev pub AreLoads : {W : Type 0} → (W → ℕ → ℕ → W → Type 0) → W → List (ℕ × ℕ) → W → Type 0
AreLoads {W} after_load old [] new = new ≡ old
AreLoads {W} after_load old (load ∷ loads) new = (next : W) × after_load old load.0 load.1 next
    × AreLoads after_load next loads new
