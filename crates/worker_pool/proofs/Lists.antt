-- Lists of passes' views after one has changed, and the last element of a list.
use Rattle.std.proofs.Common.{◌≡◌, ◌≢◌, ◌≤◌, ℕ, zero, suc, ◌+◌, List, [], ◌∷◌, ◌++◌, length, length-append, set, take}
use Rattle.std.proofs.Common.{refl, sym, ap, ◌∙◌, subst, append_assoc, append-nil, arith}
use Rattle.std.specs.Prelude.{IsPermutation, IsSomeAnd, flat_map, slice_get, sum_by}
use Rattle.std.proofs.lemmas.List.Sorted.{IsPermutation-append_right, IsPermutation-append_comm}
use Rattle.std.proofs.lemmas.List.Sums.{sum_by-cons}
use mathlib.Core.Option.{some, some-injective, some-ne-none}
use lib.ListN.{get_elem?}
use Rattle.worker_pool.specs.Rule.{EachHas}

module _ {V : Type 0} where
  pub there : (views : List V) (pass : ℕ) (v w : V) → get_elem? views pass ≡ some v → get_elem? (set views pass w) pass ≡ some w
  there [] pass v w e = absurd (some-ne-none v (sym e))
  there (x ∷ xs) zero v w e = refl
  there (x ∷ xs) (suc pass) v w e = there xs pass v w e

  module _ (f : V → List ℕ) where
    -- one pass holds more
    pub out_more : (views : List V) (pass : ℕ) (v w : V) (more : List ℕ) → get_elem? views pass ≡ some v
        → f w ≡ f v ++ more → IsPermutation (flat_map f views ++ more) (flat_map f (set views pass w))
    out_more [] pass v w more at e = absurd (some-ne-none v (sym at))
    out_more (x ∷ xs) zero v w more at e =
        let here : f w ≡ f x ++ more = e ∙ ap (λ y. f y ++ more) (sym (some-injective x v at)) in
        subst (IsPermutation ((f x ++ flat_map f xs) ++ more)) (ap (λ l. l ++ flat_map f xs) (sym here))
        (subst (λ l. IsPermutation l ((f x ++ more) ++ flat_map f xs)) (sym (append_assoc (f x) (flat_map f xs) more))
        (subst (IsPermutation (f x ++ (flat_map f xs ++ more))) (sym (append_assoc (f x) more (flat_map f xs)))
        (IsPermutation-append_right (f x) _ _ (IsPermutation-append_comm (flat_map f xs) more))))
    out_more (x ∷ xs) (suc pass) v w more at e =
        subst (λ l. IsPermutation l (f x ++ flat_map f (set xs pass w))) (sym (append_assoc (f x) (flat_map f xs) more))
        (IsPermutation-append_right (f x) _ _ (out_more xs pass v w more at e))

    -- one pass changes, but holds the same
    pub out_same : (views : List V) (pass : ℕ) (v w : V) → get_elem? views pass ≡ some v → f w ≡ f v → flat_map f (set views pass w) ≡ flat_map f views
    out_same [] pass v w at e = absurd (some-ne-none v (sym at))
    out_same (x ∷ xs) zero v w at e = ap (λ l. l ++ flat_map f xs) (e ∙ ap f (sym (some-injective x v at)))
    out_same (x ∷ xs) (suc pass) v w at e = ap (λ l. f x ++ l) (out_same xs pass v w at e)

    out_nothing : (views : List V) → ((pass : ℕ) (v : V) → get_elem? views pass ≡ some v → f v ≡ []) → flat_map f views ≡ []
    out_nothing [] none = refl
    out_nothing (x ∷ xs) none = ap (λ l. l ++ flat_map f xs) (none zero x refl) ∙ out_nothing xs (λ j v e. none (suc j) v e)

    -- no other pass holds anything
    pub out_alone : (views : List V) (pass : ℕ) (v : V) → get_elem? views pass ≡ some v
        → ((j : ℕ) (u : V) → get_elem? views j ≡ some u → j ≢ pass → f u ≡ []) → flat_map f views ≡ f v
    out_alone [] pass v at others = absurd (some-ne-none v (sym at))
    out_alone (x ∷ xs) zero v at others =
        ap (λ l. f x ++ l) (out_nothing xs (λ j u e. others (suc j) u e (λ h. omega arith))) ∙ append-nil (f x) ∙ ap f (some-injective x v at)
    out_alone (x ∷ xs) (suc pass) v at others =
        ap (λ l. l ++ flat_map f xs) (others zero x refl (λ h. omega arith)) ∙ out_alone xs pass v at (λ j u e ne. others (suc j) u e (λ h. ne (omega arith)))

    -- one pass holds no more than all passes together
    pub out_most : (views : List V) (pass : ℕ) (v : V) → get_elem? views pass ≡ some v → length (f v) ≤ length (flat_map f views)
    out_most [] pass v at = absurd (some-ne-none v (sym at))
    out_most (x ∷ xs) zero v at = let e : length (f x) ≡ length (f v) = ap (λ y. length (f y)) (some-injective x v at) in omega (arith, e, length-append (f x) (flat_map f xs))
    out_most (x ∷ xs) (suc pass) v at = omega (arith, out_most xs pass v at, length-append (f x) (flat_map f xs))

  module _ (f : V → ℕ) where
    pub sum_set : (views : List V) (pass : ℕ) (v w : V) → get_elem? views pass ≡ some v → sum_by f (set views pass w) + f v ≡ sum_by f views + f w
    sum_set [] pass v w at = absurd (some-ne-none v (sym at))
    sum_set (x ∷ xs) zero v w at =
        let here : f x ≡ f v = ap f (some-injective x v at) in
        let new = sum_by-cons f w xs in let old = sum_by-cons f x xs in
        omega (arith, here, new, old)
    sum_set (x ∷ xs) (suc pass) v w at =
        let step = sum_set xs pass v w at in
        let new = sum_by-cons f x (set xs pass w) in let old = sum_by-cons f x xs in
        omega (arith, step, new, old)

    one_of_sum : (views : List V) (pass : ℕ) (v : V) → get_elem? views pass ≡ some v → (rest : ℕ) × (sum_by f views ≡ f v + rest)
    one_of_sum [] pass v at = absurd (some-ne-none v (sym at))
    one_of_sum (x ∷ xs) zero v at = let here : f x ≡ f v = ap f (some-injective x v at) in (sum_by f xs, sum_by-cons f x xs ∙ ap (λ n. n + sum_by f xs) here)
    one_of_sum (x ∷ xs) (suc pass) v at =
        let r = one_of_sum xs pass v at in let e = r.1 in let c = sum_by-cons f x xs in
        (f x + r.0, omega (arith, e, c))

    -- if one has all, the others have none
    pub others_none : (views : List V) (pass : ℕ) (v : V) → get_elem? views pass ≡ some v → f v ≡ sum_by f views
        → (j : ℕ) (u : V) → get_elem? views j ≡ some u → j ≢ pass → f u ≡ 0
    others_none [] pass v at all j u there apart = absurd (some-ne-none v (sym at))
    others_none (x ∷ xs) zero v at all zero u there apart = absurd (apart refl)
    others_none (x ∷ xs) zero v at all (suc j) u there apart =
        let here : f x ≡ f v = ap f (some-injective x v at) in
        let c = sum_by-cons f x xs in let r = one_of_sum xs j u there in let e = r.1 in
        omega (arith, here, all, c, e)
    others_none (x ∷ xs) (suc pass) v at all zero u there apart =
        let here : f x ≡ f u = ap f (some-injective x u there) in
        let c = sum_by-cons f x xs in let r = one_of_sum xs pass v at in let e = r.1 in
        omega (arith, here, all, c, e)
    others_none (x ∷ xs) (suc pass) v at all (suc j) u there apart =
        let c = sum_by-cons f x xs in let r = one_of_sum xs pass v at in let e = r.1 in
        others_none xs pass v at (omega (arith, all, c, e)) j u there (λ h. apart (ap suc h))

module _ {X : Type 0} where
  -- appending to a list leaves the element at an index unchanged
  pub get_more : (xs ys : List X) (n : ℕ) (P : X → Type 0) → IsSomeAnd (slice_get xs n) P → IsSomeAnd (slice_get (xs ++ ys) n) P
  get_more [] ys n P h = absurd h
  get_more (x ∷ xs) ys zero P h = h
  get_more (x ∷ xs) ys (suc n) P h = get_more xs ys n P h

  pub get_here : (xs : List X) (y : X) (ys : List X) (n : ℕ) (P : X → Type 0) → n ≡ length xs → P y → IsSomeAnd (slice_get (xs ++ y ∷ ys) n) P
  get_here [] y ys zero P e p = p
  get_here [] y ys (suc n) P e p = absurd (omega (arith, e))
  get_here (x ∷ xs) y ys zero P e p = absurd (omega (arith, e))
  get_here (x ∷ xs) y ys (suc n) P e p = get_here xs y ys n P (omega (arith, e)) p

  pub got_here : (xs : List X) (y : X) (ys : List X) (n : ℕ) (P : X → Type 0) → n ≡ length xs → IsSomeAnd (slice_get (xs ++ y ∷ ys) n) P → P y
  got_here [] y ys zero P e p = p
  got_here [] y ys (suc n) P e p = absurd (omega (arith, e))
  got_here (x ∷ xs) y ys zero P e p = absurd (omega (arith, e))
  got_here (x ∷ xs) y ys (suc n) P e p = got_here xs y ys n P (omega (arith, e)) p

  take_front : (xs ys : List X) (n : ℕ) → n ≡ length xs → take n (xs ++ ys) ≡ xs
  take_front [] ys zero e = refl
  take_front [] ys (suc n) e = absurd (omega (arith, e))
  take_front (x ∷ xs) ys zero e = absurd (omega (arith, e))
  take_front (x ∷ xs) ys (suc n) e = ap (λ l. x ∷ l) (take_front xs ys n (omega (arith, e)))

  pub every_append : (P : X → Type 0) (xs ys : List X) → EachHas P xs → EachHas P ys → EachHas P (xs ++ ys)
  every_append P [] ys p q = q
  every_append P (x ∷ xs) ys p q = (p.0, every_append P xs ys p.1 q)

  pub every_implies : (P Q : X → Type 0) → ((x : X) → P x → Q x) → (xs : List X) → EachHas P xs → EachHas Q xs
  every_implies P Q step [] p = tt
  every_implies P Q step (x ∷ xs) p = (step x p.0, every_implies P Q step xs p.1)
