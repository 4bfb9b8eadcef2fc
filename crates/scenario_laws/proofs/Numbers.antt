-- Numbers of entries are in range, and connections are few.
use Rattle.std.proofs.Common.{◌≡◌, ℕ, ℤ, pos, zero, suc, ◌<◌, ◌≤◌, true, false, List, [], ◌∷◌, length, Contains, sym, subst, arith, eqb, inl, inr}
use Rattle.std.specs.List.{IsDistinct, list_any, AllByRecursion}
use Rattle.std.proofs.lemmas.Bool.{and_parts, eqb-true, false_from_ne_true, leb-true, ne_eqb, not-false, or_cases}
use Rattle.std.proofs.lemmas.Map.Steps.{length-le_from_distinct_below}
use Rattle.mrpc_table.specs.Valid.{AreDistinct}
use Rattle.mrpc_table.specs.Lines.{IsIn}
use Rattle.toml.specs.Data.{Members}
use Rattle.scenario_toml.specs.Values.{TheIntegerRange, integer_in, is_out, is_in_range, natural_or_zero, number_or_default}
use Rattle.scenario_laws.proofs.Lists.{there_first, there_more}

in_range : (least most : ℕ) (z : ℤ) → is_in_range least most z ≡ true → IsIn least most (natural_or_zero z)
in_range least most (pos n) e = let both = and_parts _ _ e in (leb-true _ _ both.0, leb-true _ _ both.1)
in_range least most _ e = absurd cc

pub within : (r : TheIntegerRange) (ms : Members) → (is_out ms r ≡ true → ⊥) → IsIn r.least r.most (number_or_default r ms)
within r ms fine =
    in_range r.least r.most (integer_in r ms) (not-false (is_in_range r.least r.most (integer_in r ms)) (false_from_ne_true (is_out ms r) fine))

-- ---- distinct numbers below a bound are few

none_equal : (x : ℕ) (xs : List ℕ) → (Contains xs x → ⊥) → AllByRecursion (λ y. eqb x y ≡ false) xs
none_equal x [] h = tt
none_equal x (y ∷ ys) h = (
  ne_eqb x y (λ e. h (subst (λ (z : ℕ). Contains (y ∷ ys) z) (sym e) (there_first y ys))),
  none_equal x ys (λ more. h (there_more y ys x more)),
)

distinct_is : (xs : List ℕ) → AreDistinct xs → IsDistinct eqb xs
unfolding IsDistinct
distinct_is [] d = tt
distinct_is (x ∷ xs) d = (none_equal x xs d.0, distinct_is xs d.1)

any_there : (n : ℕ) (xs : List ℕ) → list_any (eqb n) xs ≡ true → Contains xs n
any_there n [] e = absurd cc
any_there n (x ∷ xs) e = elim (or_cases (eqb n x) (list_any (eqb n) xs) e) [
  | inl is ↦ subst (λ (m : ℕ). Contains (x ∷ xs) m) (sym (eqb-true n x is)) (there_first x xs)
  | inr more ↦ there_more x xs n (any_there n xs more)
]

pub few_below : (xs : List ℕ) (most : ℕ) → AreDistinct xs → ((n : ℕ) → Contains xs n → IsIn 1 most n) → length xs ≤ most
few_below xs most d h =
    let zero_apart : Contains xs 0 → ⊥ = λ there. (let r = h 0 there in let no = r.0 in absurd (omega (arith, no))) in
    let all : length (0 ∷ xs) ≤ suc most = length-le_from_distinct_below (0 ∷ xs) (suc most) (distinct_is (0 ∷ xs) (zero_apart, d)) (λ q e. below q (any_there q (0 ∷ xs) e)) in
    omega (arith, all)
  where
    below : (q : ℕ) → Contains (0 ∷ xs) q → q < suc most
    below q (zero, within, same) = omega (arith, same)
    below q (suc k, within, same) = (let r = h q (k, omega (arith, within), same) in let top = r.1 in omega (arith, top))
