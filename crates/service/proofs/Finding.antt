-- What is found in a list by a number, and how many distinct numbers there are below a bound.
use Rattle.std.proofs.Common.{◌≡◌, ℕ, ◌<◌, ◌≤◌, ◌==◌, zero, suc, Bool, true, false, cond, List, [], ◌∷◌, length, map}
use Rattle.std.proofs.Common.{Option, Some, refl, subst, sym, ◌∙◌, arith, Contains, inl, inr}
use Rattle.mrpc_table.specs.Valid.{AreDistinct}
use Rattle.std.specs.List.{AllByRecursion, IsDistinct, find}
use Rattle.std.proofs.Math.Dec.{eqb}
use Rattle.std.proofs.lemmas.Bool.{eq-eqb, eqb-true}
use Rattle.std.proofs.lemmas.Bool.Decides.{eqb_tells}
use Rattle.std.proofs.lemmas.Map.Steps.{length-le_from_distinct_below}
use Rattle.std.proofs.lemmas.Map.Views.{Contains-from_any}

-- ---- what is found

picked : {X : Type 0} (b : Bool) (x : X) (o : Option X) → (b ≡ false → (y : X) × (o ≡ Some y))
    → (y : X) × (cond b (Some x) o ≡ Some y)
picked true x o rest = (x, refl)
picked false x o rest = rest refl

-- an item that isn't the first is one of the others
behind : (x n : ℕ) (xs : List ℕ) → Contains (x ∷ xs) n → (x == n) ≡ false → Contains xs n
behind x n xs (zero, within, same) differs = absurd (let yes : (x == n) ≡ true = eq-eqb x n same in
    let wrong : true ≡ false = sym yes ∙ differs in cc)
behind x n xs (suc k, within, same) differs = (k, omega (arith, within), same)

pub found : {X : Type 0} (f : X → ℕ) (n : ℕ) (xs : List X) → Contains (map f xs) n
    → (x : X) × (find (λ y. f y == n) xs ≡ Some x)
found f n [] (k, within, same) = absurd (omega (arith, within))
found f n (x ∷ xs) has = picked (f x == n) x (find (λ y. f y == n) xs) (λ differs. found f n xs (behind (f x) n (map f xs) has differs))

-- what was found is in the list, and passes the test
pub record IsFound {X : Type 0} (test : X → Bool) (xs : List X) (x : X) : Type 0 where
  pub there : Contains xs x
  pub passes : test x ≡ true

found_case : {X : Type 0} (test : X → Bool) (y : X) (ys : List X) (x : X) (b : Bool) → test y ≡ b
    → cond b (Some y) (find test ys) ≡ Some x → (find test ys ≡ Some x → IsFound test ys x)
    → IsFound test (y ∷ ys) x
found_case test y ys x true is same rest =
    let e : y ≡ x = cc in record { there = (0, omega arith, e); passes = subst (λ z. test z ≡ true) e is }
found_case test y ys x false is same rest =
    let r = rest same in
    record { there = (suc r.there.0, omega (arith, r.there.1), r.there.2); passes = r.passes }

pub is_found : {X : Type 0} (test : X → Bool) (xs : List X) (x : X) → find test xs ≡ Some x → IsFound test xs x
is_found test [] x same = absurd cc
is_found test (y ∷ ys) x same = found_case test y ys x (test y) refl same (is_found test ys x)

pub found_number : {X : Type 0} (f : X → ℕ) (n : ℕ) (xs : List X) (x : X) → find (λ y. f y == n) xs ≡ Some x
    → f x ≡ n
found_number f n xs x same = eqb-true (f x) n (is_found (λ y. f y == n) xs x same).passes

-- ---- the number of items

apart : (x : ℕ) (ys : List ℕ) → (Contains ys x → ⊥) → AllByRecursion (λ y. eqb x y ≡ false) ys
apart x [] none = tt
apart x (y ∷ ys) none = (
  elim (eqb_tells x y) [
    | inl same ↦ absurd (none (0, omega arith, sym same.1))
    | inr other ↦ other.0
  ],
  apart x ys (λ has. none (suc has.0, omega (arith, has.1), has.2)),
)

distinct : (xs : List ℕ) → AreDistinct xs → IsDistinct eqb xs
unfolding IsDistinct
distinct [] are = tt
distinct (x ∷ xs) are = (apart x xs are.0, distinct xs are.1)

pub few_below : (xs : List ℕ) (n : ℕ) → AreDistinct xs → ((x : ℕ) → Contains xs x → x < n) → length xs ≤ n
few_below xs n are below = length-le_from_distinct_below xs n (distinct xs are)
    (λ q any. below q (Contains-from_any eqb-true q xs any))
