-- Races in order: those of loads up to a number, and those past it.
use Rattle.std.proofs.Common.{◌≡◌, ◌<◌, ◌≤◌, ℕ, nat_lt, nat_le, List, [], ◌∷◌, ◌++◌, All, refl, ap, ◌∙◌, sym}
use Rattle.std.proofs.Common.{append_assoc, length, subst, ◌+◌, arith, true, false}
use Rattle.std.proofs.lemmas.Bool.{cond-true, cond-false}
use Rattle.std.proofs.lemmas.Bool.Decides.{nat_tests}
use Rattle.std.proofs.lemmas.List.Elements.{All-head, All-tail}
use Rattle.mrpc_base.specs.Heap.{Race, races_up_to, races_past, races_with, stores_of}
use Rattle.mrpc_base.specs.Parts.{IsFirstRace, IsFirstDue}

pub races_up_to-due : (number : ℕ) (race : Race) (races : List Race) → race.load ≤ number → races_up_to number (race ∷ races) ≡ race ∷ races_up_to number races
races_up_to-due number race races due =
    let test : nat_le race.load number ≡ true = grind (arith, nat_tests) in cond-true (nat_le race.load number) (race ∷ races_up_to number races) (races_up_to number races) test

pub races_past-due : (number : ℕ) (race : Race) (races : List Race) → race.load ≤ number → races_past number (race ∷ races) ≡ races_past number races
races_past-due number race races due =
    let test : nat_lt number race.load ≡ false = grind (arith, nat_tests) in cond-false (nat_lt number race.load) (race ∷ races_past number races) (races_past number races) test

-- if all races are of later loads, none is due
pub races_up_to-none : (number : ℕ) (races : List Race) → All (λ race. number < race.load) races → races_up_to number races ≡ []
races_up_to-none number [] later = refl
races_up_to-none number (race ∷ races) later =
    let head : number < race.load = All-head (λ r. number < r.load) race races later in
    let test : nat_le race.load number ≡ false = grind (arith, nat_tests) in
    cond-false (nat_le race.load number) (race ∷ races_up_to number races) (races_up_to number races) test
    ∙ races_up_to-none number races (All-tail (λ r. number < r.load) race races later)

pub races_past-all : (number : ℕ) (races : List Race) → All (λ race. number < race.load) races → races_past number races ≡ races
races_past-all number [] later = refl
races_past-all number (race ∷ races) later =
    let head : number < race.load = All-head (λ r. number < r.load) race races later in
    let test : nat_lt number race.load ≡ true = grind (arith, nat_tests) in
    cond-true (nat_lt number race.load) (race ∷ races_past number races) (races_past number races) test
    ∙ ap (λ rest. race ∷ rest) (races_past-all number races (All-tail (λ r. number < r.load) race races later))

-- ---- one more race

pub races_with-before : (races : List Race) (race : Race) → All (λ other. race.load < other.load) races → races_with races race ≡ race ∷ races
races_with-before races race later =
    ap (λ front. front ++ race ∷ races_past race.load races) (races_up_to-none race.load races later)
    ∙ ap (λ rest. race ∷ rest) (races_past-all race.load races later)

pub races_with-behind : (first : Race) (races : List Race) (race : Race) → first.load ≤ race.load → races_with (first ∷ races) race ≡ first ∷ races_with races race
races_with-behind first races race earlier =
    ap (λ front. front ++ race ∷ races_past race.load (first ∷ races)) (races_up_to-due race.load first races earlier)
    ∙ ap (λ rest. (first ∷ races_up_to race.load races) ++ race ∷ rest) (races_past-due race.load first races earlier)

-- ---- the first race becomes a store

first_store : (old new : List Race) (store : ℕ × ℕ) (stores : List (ℕ × ℕ)) (rest : List Race) (race : Race) → store ≡ (race.place, race.value)
    → (stores ++ store ∷ []) ++ stores_of rest ≡ stores ++ stores_of (race ∷ rest)
first_store old new store stores rest race is = append_assoc stores (store ∷ []) (stores_of rest) ∙ ap (λ first. stores ++ first ∷ stores_of rest) is

pub stores-first : (old new : List Race) (store : ℕ × ℕ) (stores : List (ℕ × ℕ)) → IsFirstRace old new store
    → (stores ++ store ∷ []) ++ stores_of new ≡ stores ++ stores_of old
stores-first old new store stores (race, old-is, store-is) = first_store old new store stores new race store-is ∙ ap (λ races. stores ++ stores_of races) (sym old-is)

pub stores_up_to-first : (number : ℕ) (old new : List Race) (store : ℕ × ℕ) (stores : List (ℕ × ℕ)) → IsFirstDue number old new store
    → (stores ++ store ∷ []) ++ stores_of (races_up_to number new) ≡ stores ++ stores_of (races_up_to number old)
stores_up_to-first number old new store stores (race, old-is, store-is, due) =
    first_store old new store stores (races_up_to number new) race store-is
    ∙ ap (λ races. stores ++ stores_of races) (sym (ap (races_up_to number) old-is ∙ races_up_to-due number race new due))

pub races_past-first : (number : ℕ) (old new : List Race) (store : ℕ × ℕ) → IsFirstDue number old new store → races_past number new ≡ races_past number old
races_past-first number old new store (race, old-is, store-is, due) = sym (ap (races_past number) old-is ∙ races_past-due number race new due)

pub first_of_due : (number : ℕ) (old new : List Race) (store : ℕ × ℕ) → IsFirstDue number old new store → IsFirstRace old new store
first_of_due number old new store (race, old-is, store-is, due) = (race, old-is, store-is)

pub length-first : (old new : List Race) (store : ℕ × ℕ) → IsFirstRace old new store → length old ≡ length new + 1
length-first old new store (race, old-is, store-is) = let e = ap length old-is in omega (arith, e)

pub in_heap-first : (size : ℕ) (old new : List Race) (store : ℕ × ℕ) → IsFirstRace old new store
    → All (λ race. race.place < size) old → (store.0 < size) × All (λ race. race.place < size) new
in_heap-first size old new store (race, old-is, store-is) inside =
    let all = subst (All (λ r. r.place < size)) old-is inside in
    (subst (λ (s : ℕ × ℕ). s.0 < size) (sym store-is) (All-head (λ r. r.place < size) race new all), All-tail (λ r. r.place < size) race new all)
