-- The values of a slab after one was added.
use Rattle.std.proofs.Common.{◌≡◌, ◌≢◌, ℕ, zero, suc, List, [], ◌∷◌, Option, Some, None, get_or, IsPermutation, refl, ap, sym, arith}
use Rattle.std.specs.List.{filter_map, cons_option}
use Rattle.std.proofs.lemmas.List.Sorted.{IsPermutation-refl, IsPermutation-cons, IsPermutation-trans, IsPermutation-insert}

module _ {T : Type 0} where
  abbrev values : List (Option T) → List T
  values slots = filter_map (λ slot. slot) slots

  -- slots with the same values at the same keys
  same_values : (old new : List (Option T)) → ((key : ℕ) → get_or new key None ≡ get_or old key None) → values new ≡ values old
  same_values [] [] same = refl
  same_values [] (slot ∷ new) same =
      let none : slot ≡ None = same 0 in
      rw none (same_values [] new (λ key. same (suc key)))
  same_values (slot ∷ old) [] same =
      let none : slot ≡ None = sym (same 0) in
      rw none (same_values old [] (λ key. same (suc key)))
  same_values (slot ∷ old) (other ∷ new) same =
      let is : other ≡ slot = same 0 in
      rw is (ap (cons_option slot) (same_values old new (λ key. same (suc key))))

  swapped : (x y : T) (rest : List T) → IsPermutation (x ∷ y ∷ rest) (y ∷ x ∷ rest)
  swapped x y rest = IsPermutation-insert (y ∷ rest) 1 x

  -- slots to which one value was added
  pub one_more : (old new : List (Option T)) (key : ℕ) (x : T) → get_or old key None ≡ None → get_or new key None ≡ Some x
      → ((other : ℕ) → other ≢ key → get_or new other None ≡ get_or old other None) → IsPermutation (values new) (x ∷ values old)
  one_more old [] key x was is others = absurd (cc)
  one_more [] (slot ∷ new) zero x was is others =
      let some : slot ≡ Some x = is in
      rw (some, same_values [] new (λ key. others (suc key) (λ e. absurd (omega (arith, e))))) (IsPermutation-refl (x ∷ []))
  one_more (first ∷ old) (slot ∷ new) zero x was is others =
      let some : slot ≡ Some x = is in
      let none : first ≡ None = was in
      rw (some, none, same_values old new (λ key. others (suc key) (λ e. absurd (omega (arith, e))))) (IsPermutation-refl (x ∷ values old))
  one_more [] (slot ∷ new) (suc key) x was is others =
      let none : slot ≡ None = others 0 (λ e. absurd (omega (arith, e))) in
      rw none (one_more [] new key x refl is (λ other differs. others (suc other) (λ e. differs (omega (arith, e)))))
  one_more (None ∷ old) (slot ∷ new) (suc key) x was is others =
      let none : slot ≡ None = others 0 (λ e. absurd (omega (arith, e))) in
      rw none (one_more old new key x was is (λ other differs. others (suc other) (λ e. differs (omega (arith, e)))))
  one_more (Some first ∷ old) (slot ∷ new) (suc key) x was is others =
      let some : slot ≡ Some first = others 0 (λ e. absurd (omega (arith, e))) in
      let later = one_more old new key x was is (λ other differs. others (suc other) (λ e. differs (omega (arith, e)))) in
      rw some (IsPermutation-trans _ _ _ (IsPermutation-cons first _ _ later) (swapped first x (values old)))
