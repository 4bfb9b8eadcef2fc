-- A small graph that is no longer modified, and one that is.
use Rattle.std.proofs.Common.{◌≡◌, ℕ, List, [], ◌∷◌, ◌++◌, take, drop, refl, arith}
use Rattle.std.proofs.lemmas.List.Elements.{All-from_recursion, recursion_from_All}
use Rattle.mrpc_base.specs.Heap.{word_after}
use Rattle.graph_form.specs.Placed.{Placed, nothing, first, word, loads}
use Rattle.shared_heap.specs.Fresh.{HasNoStoreTo}
use Rattle.stable_copy.specs.Unmodified.{IsUnmodifiedSince}

-- a string of seven bytes at place 2: its length, its address and its one word
abbrev testing : Placed
testing = first (word 2 7 (first (word 3 4 (first (word 4 0x676e6974736574 nothing) nothing)) nothing)) nothing

-- three stores of its words, and two elsewhere
abbrev stored : List (ℕ × ℕ)
stored = (2, 7) ∷ (3, 4) ∷ (4, 0x676e6974736574) ∷ (1, 0) ∷ (5, 9) ∷ []

-- a word has the value of its place after the first `after` of some stores; and no store of some goes to its place
abbrev Made : ℕ → List (ℕ × ℕ) → ℕ × ℕ → Type 0
Made after stores load = load.1 ≡ word_after (take after stores) load.0

abbrev Rests : List (ℕ × ℕ) → ℕ × ℕ → Type 0
Rests stores load = HasNoStoreTo load.0 stores

abbrev Apart : ℕ → ℕ × ℕ → Type 0
Apart place store = store.0 ≡ place → ⊥

rests : (place number : ℕ) → (1 ≡ place → ⊥) → (5 ≡ place → ⊥) → Rests ((1, 0) ∷ (5, 9) ∷ []) (place, number)
rests place number a b = All-from_recursion (Apart place) ((1, 0) ∷ (5, 9) ∷ []) (a, (b, tt))

length_rests : Rests (drop 3 stored) (2, 7)
length_rests = rests 2 7 (λ e. omega (arith, e)) (λ e. omega (arith, e))

address_rests : Rests (drop 3 stored) (3, 4)
address_rests = rests 3 4 (λ e. omega (arith, e)) (λ e. omega (arith, e))

word_rests : Rests (drop 3 stored) (4, 0x676e6974736574)
word_rests = rests 4 0x676e6974736574 (λ e. omega (arith, e)) (λ e. omega (arith, e))

all_stand : IsUnmodifiedSince stored 3 testing
unfolding word_after
all_stand = record {
  stands = All-from_recursion (Made 3 stored) (loads testing) (refl, (refl, (refl, tt)));
  untouched =
      All-from_recursion (Rests (drop 3 stored)) (loads testing) (length_rests, (address_rests, (word_rests, tt)));
}

-- its length is stored once more
abbrev stored_again : List (ℕ × ℕ)
stored_again = stored ++ (2, 3) ∷ []

touched : IsUnmodifiedSince stored_again 3 testing → ⊥
touched s =
    let each = recursion_from_All (Rests (drop 3 stored_again)) (loads testing) s.untouched in
    let none = recursion_from_All (Apart 2) (drop 3 stored_again) each.0 in
    none.1.1.0 refl

-- after one store its address isn't stored yet
early : IsUnmodifiedSince stored 1 testing → ⊥
unfolding word_after
early s =
    let each = recursion_from_All (Made 1 stored) (loads testing) s.stands in
    let bad : 4 ≡ 0 = each.1.0 in
    omega (arith, bad)
