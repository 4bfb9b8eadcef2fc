-- Fresh loads on small lists.
use Rattle.std.proofs.Common.{◌≤◌, ℕ, zero, suc, List, [], ◌∷◌, refl, arith}
use Rattle.std.proofs.lemmas.List.Sorted.{IsNonDecreasingBy-push}
use Rattle.mrpc_base.specs.Heap.{word_after}
use Rattle.shared_heap.specs.Fresh.{CallLoads, IsLoadNumber, AreFresh, load_of}

abbrev two_stores : List (ℕ × ℕ)
two_stores = (2, 150) ∷ (2, 9) ∷ []

abbrev call_of : ℕ → List (ℕ × ℕ) → CallLoads
call_of after loads = record { after = after; loads = loads }

-- a call of a message that was stored before both stores, and one of a reader that knew of the first
one_early_one_late : AreFresh (call_of 0 ((2, 0) ∷ []) ∷ call_of 1 ((2, 9) ∷ (3, 0) ∷ []) ∷ []) two_stores
unfolding word_after
one_early_one_late = (
  0 ∷ 2 ∷ 2 ∷ [],
  IsNonDecreasingBy-push (λ x. x) (0 ∷ 2 ∷ []) 2
      (IsNonDecreasingBy-push (λ x. x) (0 ∷ []) 2
      (IsNonDecreasingBy-push (λ x. x) [] 0 (λ i j d le below. absurd (omega arith)) (λ d some. absurd (omega arith)))
      (λ d some. omega arith)) (λ d some. omega arith),
  (of_first, (of_second, (of_third, tt))),
)
  where
    of_first : IsLoadNumber two_stores (load_of 2 0 0) 0
    of_first = record { after = omega arith; made = omega arith; value = refl }

    of_second : IsLoadNumber two_stores (load_of 2 9 1) 2
    of_second = record { after = omega arith; made = omega arith; value = refl }

    of_third : IsLoadNumber two_stores (load_of 3 0 1) 2
    of_third = record { after = omega arith; made = omega arith; value = refl }

-- a reader that knows the one store never loads the word from before it
load_of_the_opening : (number : ℕ) → IsLoadNumber ((2, 150) ∷ []) (load_of 2 0 1) number → ⊥
unfolding word_after
load_of_the_opening zero f = absurd (omega (arith, f.after))
load_of_the_opening (suc zero) f = let e = f.value in absurd (omega (arith, e))
load_of_the_opening (suc (suc n)) f = absurd (omega (arith, f.made))

never_fresh : AreFresh (call_of 1 ((2, 0) ∷ []) ∷ []) ((2, 150) ∷ []) → ⊥
never_fresh ([], rising, numbered) = absurd numbered
never_fresh (n ∷ ns, rising, numbered) = load_of_the_opening n numbered.0

-- a value that was never at the place
never_there : (number : ℕ) → IsLoadNumber two_stores (load_of 2 151 0) number → ⊥
unfolding word_after
never_there zero f = let e = f.value in absurd (omega (arith, e))
never_there (suc zero) f = let e = f.value in absurd (omega (arith, e))
never_there (suc (suc zero)) f = let e = f.value in absurd (omega (arith, e))
never_there (suc (suc (suc n))) f = absurd (omega (arith, f.made))

-- an old value after a new one: the numbers would fall
never_back : AreFresh (call_of 0 ((2, 9) ∷ (2, 150) ∷ []) ∷ []) two_stores → ⊥
unfolding word_after
never_back ([], rising, numbered) = absurd numbered
never_back (n ∷ [], rising, numbered) = absurd numbered.1
never_back (n ∷ m ∷ ns, rising, numbered) = falls n m (rising 0 1 0 (omega arith) (omega arith)) numbered.0 numbered.1.0
  where
    falls : (n m : ℕ) → n ≤ m → IsLoadNumber two_stores (load_of 2 9 0) n → IsLoadNumber two_stores (load_of 2 150 0) m → ⊥
    falls zero m le f g = let e = f.value in absurd (omega (arith, e))
    falls (suc zero) m le f g = let e = f.value in absurd (omega (arith, e))
    falls (suc (suc n)) zero le f g = absurd (omega (arith, le))
    falls (suc (suc n)) (suc zero) le f g = absurd (omega (arith, le))
    falls (suc (suc n)) (suc (suc zero)) le f g = let e = g.value in absurd (omega (arith, e))
    falls (suc (suc n)) (suc (suc (suc m))) le f g = absurd (omega (arith, g.made))
