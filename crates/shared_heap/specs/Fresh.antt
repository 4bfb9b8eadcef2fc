-- What a reader knows of the stores to a heap, and what its loads mean for them.
use Rattle.std.specs.Prelude.{◌≡◌, ◌≢◌, ◌≤◌, ℕ, Bool, IsTrue, List, [], ◌∷◌, ◌++◌, All, length, take, drop, map, flat_map}
use Rattle.std.specs.List.{AllZip}
use Rattle.std.specs.List.Sorted.{IsNonDecreasing}
use Rattle.mrpc_base.specs.Heap.{word_after}
use Rattle.atomic_table.specs.Seated.{TableId}
use Rattle.shared_heap.specs.declared.view.Load.{Load}

-- the identity of a heap, with its number of words
abbrev pub HeapId : Type 0
HeapId = TableId

-- a list starts with another one
abbrev pub IsPrefix : {X : Type 0} → List X → List X → Type 0
IsPrefix {X} whole front = (rest : List X) × (whole ≡ front ++ rest)

-- the loads of one call, each a place and a value, and the number of stores that are known to precede its message
pub record CallLoads : Type 0 where
  pub after : ℕ
  pub loads : List (ℕ × ℕ)

abbrev pub load_of : ℕ → ℕ → ℕ → Load
load_of place value after = record { place = place; value = value; after = after }

-- the place and the value of a load
abbrev pub word_of_load : Load → ℕ × ℕ
word_of_load load = (load.place, load.value)

-- all loads of some calls, in order, each after as many stores as its call
abbrev pub loads_of_calls : List CallLoads → List Load
loads_of_calls calls = flat_map (λ call. map (λ word. load_of word.0 word.1 call.after) call.loads) calls

-- a load's number: after that many first stores its place has the loaded value; it is at least the load's `after`
pub record IsLoadNumber (stores : List (ℕ × ℕ)) (load : Load) (number : ℕ) : Type 0 where
  pub after : load.after ≤ number
  pub made : number ≤ length stores
  pub value : load.value ≡ word_after (take number stores) load.place

-- each of some loads has its number, and the numbers never fall
abbrev pub HaveLoadNumbers : List Load → List (ℕ × ℕ) → Type 0
HaveLoadNumbers loads stores = (numbers : List ℕ) × IsNonDecreasing numbers × AllZip (IsLoadNumber stores) loads numbers

-- The loads of some calls are fresh for a list of stores. There is a number for each load; the numbers never fall
-- along all loads. Each is at least the `after` of the load's call and at most the number of stores, and the loaded
-- value is that of its place after that many first stores.
abbrev pub AreFresh : List CallLoads → List (ℕ × ℕ) → Type 0
AreFresh calls stores = HaveLoadNumbers (loads_of_calls calls) stores

-- a load of a call is one that a reader made, which then knew at least as many stores as the call is after
pub record IsLoadMade (load made : Load) : Type 0 where
  pub place : load.place ≡ made.place
  pub value : load.value ≡ made.value
  pub knew : load.after ≤ made.after

-- the loads of some calls are these, which a reader made
abbrev pub AreLoadsMade : List CallLoads → List Load → Type 0
AreLoadsMade calls made = AllZip IsLoadMade (loads_of_calls calls) made

-- no store goes to a place
abbrev pub HasNoStoreTo : ℕ → List (ℕ × ℕ) → Type 0
HasNoStoreTo place stores = All (λ store. store.0 ≢ place) stores

-- the writing end of a heap
pub record Writing : Type 0 where
  pub heap : HeapId
  -- all stores so far, each a place and a value, in order
  pub stores : List (ℕ × ℕ)

-- `new` is a later state of `old`
pub record IsLaterWriter (old new : Writing) : Type 0 where
  pub heap : new.heap ≡ old.heap
  pub stores : IsPrefix new.stores old.stores

-- a note
pub record Noting : Type 0 where
  pub heap : HeapId
  -- the stores that it knows, a prefix of all stores
  pub stores : List (ℕ × ℕ)
  -- whether no more stores will follow
  pub last : Bool

-- the reading end of a heap
pub record Reading : Type 0 where
  pub heap : HeapId
  -- the stores that it knows, a prefix of all stores
  pub known : List (ℕ × ℕ)
  -- whether no more stores will follow
  pub whole : Bool
  -- all loads so far, in order, each after as many stores as the reader knew right before it
  pub loads : List Load

-- one load of a place was made and returned this value
pub record AfterLoad (old : Reading) (place value : ℕ) (new : Reading) : Type 0 where
  pub loads : new.loads ≡ old.loads ++ load_of place value (length old.known) ∷ []
  -- the reader then knows all stores made before the load, and the value is that of the word after them
  pub grows : IsPrefix new.known old.known
  pub last : value ≡ word_after new.known place
  -- `after` is a number of first stores, all of which the reader knew before the load. If no later store goes to the
  -- word, the value is that of the word after these first ones. `all` is any list of stores that extends what the
  -- reader knows after the load.
  pub untouched : (all : List (ℕ × ℕ)) (after : ℕ) → IsPrefix all new.known → after ≤ length old.known
      → HasNoStoreTo place (drop after all) → value ≡ word_after (take after all) place
  pub heap : new.heap ≡ old.heap
  pub whole : new.whole ≡ old.whole
  pub none_left : IsTrue old.whole → new.known ≡ old.known

-- some loads were made one after the other, and nothing else changed
pub record HasLoaded (old : Reading) (own : List (ℕ × ℕ)) (new : Reading) : Type 0 where
  pub heap : new.heap ≡ old.heap
  pub loads : map word_of_load new.loads ≡ map word_of_load old.loads ++ own
  pub grows : IsPrefix new.known old.known
  pub whole : new.whole ≡ old.whole
  pub none_left : IsTrue old.whole → new.known ≡ old.known
