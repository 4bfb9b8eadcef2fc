-- What the result of a binary search over ascending numbers means for membership.
use Rattle.std.proofs.Common.{◌≡◌, ◌↔◌, Contains, ℕ, ◌<◌, ◌≤◌, length, IsTrue, List, Result, Ok, Err, get_or, arith, refl, sym, ◌∙◌, subst, ⊎_elim}
use Rattle.std.proofs.lemmas.Bool.{cases_lt}
use Rattle.std.proofs.lemmas.Grind.{get_or_default_zero}
use Rattle.std.proofs.lemmas.List.Elements.{Contains-get_or}
use Rattle.std.proofs.lemmas.List.Sorted.{searched}
use Rattle.std.specs.List.Sorted.{IsNonDecreasing, IsBinarySearchResult}
use Rattle.std.specs.Ordering.{nat_cmp}
use Rattle.std.specs.Prelude.{is_ok, MatchResult}

-- a number greater than those before an index and less than those from it on isn't in the list
absent : (xs : List ℕ) (x i : ℕ) → ((k : ℕ) → k < i → get_or xs k 0 < x) → ((k : ℕ) → i ≤ k → k < length xs → x < get_or xs k 0) → Contains xs x → ⊥
absent xs x i below above found =
    let at : get_or xs found.0 0 ≡ x = sym (get_or_default_zero xs found.0 x found.1) ∙ found.2 in
    ⊎_elim (λ before. omega (arith, at, below found.0 before)) (λ behind. omega (arith, at, above found.0 behind found.1)) (cases_lt found.0 i)

decides : (xs : List ℕ) (x : ℕ) (r : Result ℕ ℕ)
    → MatchResult r (λ i. (i < length xs) × (get_or xs i 0 ≡ x)) (λ i. (i ≤ length xs) × ((k : ℕ) → k < i
    → get_or xs k 0 < x) × ((k : ℕ) → i ≤ k → k < length xs → x < get_or xs k 0))
    → IsTrue (is_ok r) ↔ Contains xs x
decides xs x (Ok i) h = (λ _. subst (Contains xs) h.1 (Contains-get_or xs i 0 h.0), λ _. refl)
decides xs x (Err i) h = (λ impossible. cc, λ found. absurd (absent xs x i h.1 h.2 found))

-- an ascending list contains exactly the numbers that a binary search finds
pub IsTrue-is_ok-search : (xs : List ℕ) (x : ℕ) (r : Result ℕ ℕ) → IsNonDecreasing xs → IsBinarySearchResult (λ y. nat_cmp y x) xs r → IsTrue (is_ok r) ↔ Contains xs x
IsTrue-is_ok-search xs x r up answer = decides xs x r (searched xs x r answer (λ i j. up i j 0))
