-- The tickets and the shares of all seats, after one view has changed or a seat was added.
use Rattle.std.proofs.Common.{◌≡◌, ◌≢◌, ℕ, zero, suc, ◌+◌, List, [], ◌∷◌, ◌++◌, set, refl, sym, ap, ◌∙◌, subst, append_assoc, append-nil, arith}
use Rattle.std.specs.Prelude.{IsPermutation, flat_map, sum_by}
use Rattle.std.proofs.lemmas.List.Sorted.{IsPermutation-append_right, IsPermutation-append_comm}
use Rattle.std.proofs.lemmas.List.Sums.{sum_by-cons}
use mathlib.Core.Option.{some, some-injective, some-ne-none}
use lib.ListN.{get_elem?}

module _ {V : Type 0} where
  module _ (f : V → List ℕ) where
    -- a seat gets more tickets
    pub out_more : (views : List V) (seat : ℕ) (v w : V) (more : List ℕ) → get_elem? views seat ≡ some v
        → f w ≡ f v ++ more → IsPermutation (flat_map f views ++ more) (flat_map f (set views seat w))
    out_more [] seat v w more at e = absurd (some-ne-none v (sym at))
    out_more (x ∷ xs) zero v w more at e =
        let here : f w ≡ f x ++ more = e ∙ ap (λ y. f y ++ more) (sym (some-injective x v at)) in
        subst (IsPermutation ((f x ++ flat_map f xs) ++ more)) (ap (λ l. l ++ flat_map f xs) (sym here))
        (subst (λ l. IsPermutation l ((f x ++ more) ++ flat_map f xs)) (sym (append_assoc (f x) (flat_map f xs) more))
        (subst (IsPermutation (f x ++ (flat_map f xs ++ more))) (sym (append_assoc (f x) more (flat_map f xs)))
        (IsPermutation-append_right (f x) _ _ (IsPermutation-append_comm (flat_map f xs) more))))
    out_more (x ∷ xs) (suc seat) v w more at e =
        subst (λ l. IsPermutation l (f x ++ flat_map f (set xs seat w))) (sym (append_assoc (f x) (flat_map f xs) more))
        (IsPermutation-append_right (f x) _ _ (out_more xs seat v w more at e))

    out_nothing : (views : List V) → ((seat : ℕ) (v : V) → get_elem? views seat ≡ some v → f v ≡ []) → flat_map f views ≡ []
    out_nothing [] none = refl
    out_nothing (x ∷ xs) none = ap (λ l. l ++ flat_map f xs) (none zero x refl) ∙ out_nothing xs (λ j v e. none (suc j) v e)

    -- if no other seat has tickets
    pub out_alone : (views : List V) (seat : ℕ) (v : V) → get_elem? views seat ≡ some v
        → ((j : ℕ) (u : V) → get_elem? views j ≡ some u → j ≢ seat → f u ≡ []) → flat_map f views ≡ f v
    out_alone [] seat v at others = absurd (some-ne-none v (sym at))
    out_alone (x ∷ xs) zero v at others =
        ap (λ l. f x ++ l) (out_nothing xs (λ j u e. others (suc j) u e (λ h. omega arith))) ∙ append-nil (f x) ∙ ap f (some-injective x v at)
    out_alone (x ∷ xs) (suc seat) v at others =
        ap (λ l. l ++ flat_map f xs) (others zero x refl (λ h. omega arith)) ∙ out_alone xs seat v at (λ j u e ne. others (suc j) u e (λ h. ne (omega arith)))

  module _ (f : V → ℕ) where
    pub sum_set : (views : List V) (seat : ℕ) (v w : V) → get_elem? views seat ≡ some v → sum_by f (set views seat w) + f v ≡ sum_by f views + f w
    sum_set [] seat v w at = absurd (some-ne-none v (sym at))
    sum_set (x ∷ xs) zero v w at =
        let here : f x ≡ f v = ap f (some-injective x v at) in
        let new = sum_by-cons f w xs in let old = sum_by-cons f x xs in
        omega (arith, here, new, old)
    sum_set (x ∷ xs) (suc seat) v w at =
        let step = sum_set xs seat v w at in
        let new = sum_by-cons f x (set xs seat w) in let old = sum_by-cons f x xs in
        omega (arith, step, new, old)

    pub one_of_sum : (views : List V) (seat : ℕ) (v : V) → get_elem? views seat ≡ some v → (rest : ℕ) × (sum_by f views ≡ f v + rest)
    one_of_sum [] seat v at = absurd (some-ne-none v (sym at))
    one_of_sum (x ∷ xs) zero v at = let here : f x ≡ f v = ap f (some-injective x v at) in (sum_by f xs, sum_by-cons f x xs ∙ ap (λ n. n + sum_by f xs) here)
    one_of_sum (x ∷ xs) (suc seat) v at =
        let r = one_of_sum xs seat v at in let e = r.1 in let c = sum_by-cons f x xs in
        (f x + r.0, omega (arith, e, c))

    -- if one seat has all, the others have none
    pub others_none : (views : List V) (seat : ℕ) (v : V) → get_elem? views seat ≡ some v → f v ≡ sum_by f views
        → (j : ℕ) (u : V) → get_elem? views j ≡ some u → j ≢ seat → f u ≡ 0
    others_none [] seat v at all j u there apart = absurd (some-ne-none v (sym at))
    others_none (x ∷ xs) zero v at all zero u there apart = absurd (apart refl)
    others_none (x ∷ xs) zero v at all (suc j) u there apart =
        let here : f x ≡ f v = ap f (some-injective x v at) in
        let c = sum_by-cons f x xs in let r = one_of_sum xs j u there in let e = r.1 in
        omega (arith, here, all, c, e)
    others_none (x ∷ xs) (suc seat) v at all zero u there apart =
        let here : f x ≡ f u = ap f (some-injective x u there) in
        let c = sum_by-cons f x xs in let r = one_of_sum xs seat v at in let e = r.1 in
        omega (arith, here, all, c, e)
    others_none (x ∷ xs) (suc seat) v at all (suc j) u there apart =
        let c = sum_by-cons f x xs in let r = one_of_sum xs seat v at in let e = r.1 in
        others_none xs seat v at (omega (arith, all, c, e)) j u there (λ h. apart (ap suc h))
