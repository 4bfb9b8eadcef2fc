-- The index of a name in a list.
use Rattle.std.proofs.Common.{◌≡◌, ℕ, zero, suc, ◌+◌, ◌<◌, ◌≤◌, not, Bool, true, false, cond, List, [], ◌∷◌, ◌++◌}
use Rattle.std.proofs.Common.{length, get_or, map, Contains, Option, Some, None, refl, sym, ap, subst, ◌∙◌, inl, inr}
use Rattle.std.proofs.Common.{eq-eqb, ◌==◌, arith}
use Rattle.std.specs.Prelude.{nat_lt, is_some, slice_get, position}
use Rattle.std.specs.List.{position_or_len}
use Rattle.std.specs.Str.{bytes_eq}
use Rattle.std.proofs.lemmas.Bool.{cases_Bool, cases_lt, lt-ltb, le-ltb, ltb-true, ne_eqb, false_from_ne_true, false≢true}
use Rattle.std.proofs.lemmas.List.{length_push}
use Rattle.std.proofs.lemmas.List.Folds.{position_or_len_push}
use Rattle.std.proofs.lemmas.Option.{same_Some}
use Rattle.std.proofs.lemmas.Slice.Eq.{bytes_eq-Decides}

pub get_or_of : {X : Type 0} (xs : List X) (i : ℕ) (x d : X) → slice_get xs i ≡ Some x → get_or xs i d ≡ x
get_or_of [] i x d e = absurd cc
get_or_of (y ∷ ys) zero x d e = same_Some y x e
get_or_of (y ∷ ys) (suc i) x d e = get_or_of ys i x d e

module _ {X : Type 0} (f : X → List ℕ) where
  abbrev has : List ℕ → X → Bool
  has name x = bytes_eq (f x) name

  abbrev pub place : List ℕ → List X → Option ℕ
  place name xs = position (λ x. bytes_eq (f x) name) xs

  abbrev first : List ℕ → List X → ℕ
  first name xs = position_or_len (λ x. bytes_eq (f x) name) xs

  first_by : (name : List ℕ) (x : X) (xs : List X) (b : Bool) → bytes_eq (f x) name ≡ b → first name (x ∷ xs) ≡ cond (not b) (1 + first name xs) 0
  first_by name x xs b e = ap (λ t. cond (not t) (1 + first name xs) 0) e

  -- a name in the list is found
  first_within : (name : List ℕ) (xs : List X) (k : ℕ) → k < length (map f xs) → get_or (map f xs) k name ≡ name → first name xs < length xs
  first_within name [] k within at = absurd (omega (arith, within))
  first_within name (x ∷ xs) zero within at =
      let here = first_by name x xs true ((bytes_eq-Decides (f x) name).1 at) in
      omega (arith, here)
  first_within name (x ∷ xs) (suc k) within at = elim (cases_Bool (bytes_eq (f x) name)) [
    | inl is ↦ (let here = first_by name x xs true is in omega (arith, here))
    | inr isnt ↦
        let here = first_by name x xs false isnt in
        let more = first_within name xs k (omega (arith, within)) at in
        omega (arith, here, more)
  ]

  -- what is found is in the list
  first_is : (name : List ℕ) (xs : List X) → first name xs < length xs → (x : X) × (slice_get xs (first name xs) ≡ Some x) × (f x ≡ name)
  first_is name [] within = absurd (omega (arith, within))
  first_is name (x ∷ xs) within = elim (cases_Bool (bytes_eq (f x) name)) [
    | inl is ↦ (x, ap (slice_get (x ∷ xs)) (first_by name x xs true is), (bytes_eq-Decides (f x) name).0 is)
    | inr isnt ↦
        let here : first name (x ∷ xs) ≡ suc (first name xs) = (let e = first_by name x xs false isnt in omega (arith, e)) in
        let more = first_is name xs (omega (arith, within, here)) in
        (more.0, ap (slice_get (x ∷ xs)) here ∙ more.1, more.2)
  ]

  first_there : (name : List ℕ) (xs : List X) → first name xs < length xs → Contains (map f xs) name
  first_there name [] within = absurd (omega (arith, within))
  first_there name (x ∷ xs) within = elim (cases_Bool (bytes_eq (f x) name)) [
    | inl is ↦ (0, omega arith, (bytes_eq-Decides (f x) name).0 is)
    | inr isnt ↦
        let here = first_by name x xs false isnt in
        let more = first_there name xs (omega (arith, within, here)) in
        let less = more.1 in
        (suc more.0, omega (arith, less), more.2)
  ]

  place_by : (name : List ℕ) (xs : List X) (b : Bool) → nat_lt (first name xs) (length xs) ≡ b → place name xs ≡ cond b (Some (first name xs)) None
  place_by name xs b e = ap (λ t. cond t (Some (first name xs)) None) e

  is_found : (b : Bool) (n : ℕ) → is_some (cond b (Some n) None) ≡ true → b ≡ true
  is_found true n e = refl
  is_found false n e = e

  pub there : (name : List ℕ) (xs : List X) → is_some (place name xs) ≡ true → Contains (map f xs) name
  there name xs e = first_there name xs (ltb-true _ _ (is_found (nat_lt (first name xs) (length xs)) (first name xs) e))

  pub found : (name : List ℕ) (xs : List X) → Contains (map f xs) name → is_some (place name xs) ≡ true
  found name xs h = ap is_some (place_by name xs true (lt-ltb (first name xs) (length xs) (first_within name xs h.0 h.1 h.2)))

  pub none_there : (name : List ℕ) (xs : List X) → place name xs ≡ None → Contains (map f xs) name → ⊥
  none_there name xs none h = false≢true (sym (ap is_some none) ∙ found name xs h)

  some_by : (b : Bool) (n i : ℕ) → cond b (Some n) None ≡ Some i → (b ≡ true) × (n ≡ i)
  some_by true n i e = (refl, same_Some n i e)
  some_by false n i e = absurd cc

  pub record IsPlace (name : List ℕ) (xs : List X) (i : ℕ) : Type 0 where
    pub item : X
    pub at : slice_get xs i ≡ Some item
    pub same : f item ≡ name
    pub within : i < length xs

  pub place_is : (name : List ℕ) (xs : List X) (i : ℕ) → place name xs ≡ Some i → IsPlace name xs i
  place_is name xs i e =
      let both = some_by (nat_lt (first name xs) (length xs)) (first name xs) i e in
      let within = ltb-true _ _ both.0 in
      let is = first_is name xs within in
      let same = both.1 in
      record { item = is.0; at = sym (ap (slice_get xs) same) ∙ is.1; same = is.2; within = omega (arith, within, same) }

  none_by : (b : Bool) (n : ℕ) → cond b (Some n) None ≡ None → b ≡ false
  none_by true n e = absurd cc
  none_by false n e = refl

  -- ---- one more name

  found_or_end : (name : List ℕ) (xs : List X) → first name xs ≤ length xs
  found_or_end name [] = omega arith
  found_or_end name (x ∷ xs) = elim (cases_Bool (bytes_eq (f x) name)) [
    | inl is ↦ (let here = first_by name x xs true is in omega (arith, here))
    | inr isnt ↦ (let here = first_by name x xs false isnt in omega (arith, here, found_or_end name xs))
  ]

  first_push : (name : List ℕ) (xs : List X) (y : X) (b c : Bool) → (first name xs == length xs) ≡ b
      → bytes_eq (f y) name ≡ c → first name (xs ++ y ∷ []) ≡ cond b (length xs + cond c 0 1) (first name xs)
  first_push name xs y b c e g =
      position_or_len_push (λ x. bytes_eq (f x) name) xs y ∙ ap (λ t. cond t (length xs + cond (bytes_eq (f y) name) 0 1) (first name xs)) e
      ∙ ap (λ t. cond b (length xs + cond t 0 1) (first name xs)) g

  same_way : (a b : List ℕ) → bytes_eq a b ≡ bytes_eq b a
  same_way a b = elim (cases_Bool (bytes_eq b a)) [
    | inl is ↦ (bytes_eq-Decides a b).1 (sym ((bytes_eq-Decides b a).0 is)) ∙ sym is
    | inr isnt ↦ false_from_ne_true (bytes_eq a b) (λ e. false≢true (sym isnt ∙ (bytes_eq-Decides b a).1 (sym ((bytes_eq-Decides a b).0 e)))) ∙ sym isnt
  ]

  push_found : (name : List ℕ) (xs : List X) (y : X) → place (f y) xs ≡ None → first name xs < length xs
      → place name (xs ++ y ∷ []) ≡ cond (bytes_eq name (f y)) (Some (length xs)) (place name xs)
  push_found name xs y new within = elim (cases_Bool (bytes_eq name (f y))) [
    | inl is ↦ absurd (none_there (f y) xs new (first_there (f y) xs (moved ((bytes_eq-Decides name (f y)).0 is))))
    | inr isnt ↦
        let apart : (first name xs == length xs) ≡ false = ne_eqb (first name xs) (length xs) (λ e. omega (arith, e, within)) in
        let here = first_push name xs y false false apart (same_way (f y) name ∙ isnt) in
        let long = length_push xs y in
        let inside : nat_lt (first name (xs ++ y ∷ [])) (length (xs ++ y ∷ [])) ≡ true = lt-ltb _ _ (omega (arith, here, long, within)) in
        place_by name (xs ++ y ∷ []) true inside ∙ ap (λ n. Some n) here
        ∙ sym (place_by name xs true (lt-ltb _ _ within))
        ∙ sym (ap (λ b. cond b (Some (length xs)) (place name xs)) isnt)
  ]
    where
      moved : name ≡ f y → first (f y) xs < length xs
      moved e = subst (λ (n : List ℕ). first n xs < length xs) e within

  push_end : (name : List ℕ) (xs : List X) (y : X) → length xs ≤ first name xs → place name (xs ++ y ∷ []) ≡ cond (bytes_eq name (f y)) (Some (length xs)) (place name xs)
  push_end name xs y past =
      let long = length_push xs y in
      let at : (first name xs == length xs) ≡ true = eq-eqb (first name xs) (length xs) (omega (arith, past, found_or_end name xs)) in
      elim (cases_Bool (bytes_eq name (f y))) [
        | inl is ↦
            let here = first_push name xs y true true at (same_way (f y) name ∙ is) in
            let inside : nat_lt (first name (xs ++ y ∷ [])) (length (xs ++ y ∷ [])) ≡ true = lt-ltb _ _ (omega (arith, here, long)) in
            let same : first name (xs ++ y ∷ []) ≡ length xs = omega (arith, here) in
            place_by name (xs ++ y ∷ []) true inside ∙ ap (λ n. Some n) same ∙ sym (ap (λ b. cond b (Some (length xs)) (place name xs)) is)
        | inr isnt ↦
            let here = first_push name xs y true false at (same_way (f y) name ∙ isnt) in
            let outside : nat_lt (first name (xs ++ y ∷ [])) (length (xs ++ y ∷ [])) ≡ false = le-ltb _ _ (omega (arith, here, long)) in
            place_by name (xs ++ y ∷ []) false outside ∙ sym (place_by name xs false (le-ltb _ _ past)) ∙ sym (ap (λ b. cond b (Some (length xs)) (place name xs)) isnt)
      ]

  pub place_push : (name : List ℕ) (xs : List X) (y : X) → place (f y) xs ≡ None → place name (xs ++ y ∷ []) ≡ cond (bytes_eq name (f y)) (Some (length xs)) (place name xs)
  place_push name xs y new = elim (cases_lt (first name xs) (length xs)) [
    | inl within ↦ push_found name xs y new within
    | inr past ↦ push_end name xs y past
  ]

  pub place_none : (name : List ℕ) (xs : List X) → (Contains (map f xs) name → ⊥) → place name xs ≡ None
  place_none name xs none = elim (cases_Bool (nat_lt (first name xs) (length xs))) [
    | inl is ↦ absurd (none (first_there name xs (ltb-true _ _ is)))
    | inr isnt ↦ place_by name xs false isnt
  ]
