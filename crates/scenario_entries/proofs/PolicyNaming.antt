-- The index of an item with a name in a list.
use Rattle.std.proofs.Common.{◌≡◌, ℕ, zero, suc, ◌+◌, ◌<◌, not, Bool, true, false, cond, List, [], ◌∷◌, length}
use Rattle.std.proofs.Common.{get_or, map, Contains, Option, Some, None, refl, sym, ap, ◌∙◌, inl, inr, arith}
use Rattle.std.specs.Prelude.{nat_lt, is_some, slice_get, position}
use Rattle.std.specs.List.{position_or_len}
use Rattle.std.specs.Str.{bytes_eq}
use Rattle.std.proofs.lemmas.Bool.{cases_Bool, lt-ltb, ltb-true}
use Rattle.std.proofs.lemmas.Option.{same_Some}
use Rattle.std.proofs.lemmas.Slice.Eq.{bytes_eq-Decides}

module _ {X : Type 0} (f : X → List ℕ) where
  abbrev has : List ℕ → X → Bool
  has name x = bytes_eq (f x) name

  abbrev pub place : List ℕ → List X → Option ℕ
  place name xs = position (λ x. bytes_eq (f x) name) xs

  abbrev first : List ℕ → List X → ℕ
  first name xs = position_or_len (λ x. bytes_eq (f x) name) xs

  first_by : (name : List ℕ) (x : X) (xs : List X) (b : Bool) → bytes_eq (f x) name ≡ b → first name (x ∷ xs) ≡ cond (not b) (1 + first name xs) 0
  first_by name x xs b e = ap (λ t. cond (not t) (1 + first name xs) 0) e

  -- a name in the list is found
  first_within : (name : List ℕ) (xs : List X) (k : ℕ) → k < length (map f xs) → get_or (map f xs) k name ≡ name → first name xs < length xs
  first_within name [] k within at = absurd (omega (arith, within))
  first_within name (x ∷ xs) zero within at =
      let here = first_by name x xs true ((bytes_eq-Decides (f x) name).1 at) in
      omega (arith, here)
  first_within name (x ∷ xs) (suc k) within at = elim (cases_Bool (bytes_eq (f x) name)) [
    | inl is ↦ (let here = first_by name x xs true is in omega (arith, here))
    | inr isnt ↦
        let here = first_by name x xs false isnt in
        let more = first_within name xs k (omega (arith, within)) at in
        omega (arith, here, more)
  ]

  -- what is found is in the list
  first_is : (name : List ℕ) (xs : List X) → first name xs < length xs → (x : X) × (slice_get xs (first name xs) ≡ Some x) × (f x ≡ name)
  first_is name [] within = absurd (omega (arith, within))
  first_is name (x ∷ xs) within = elim (cases_Bool (bytes_eq (f x) name)) [
    | inl is ↦ (x, ap (slice_get (x ∷ xs)) (first_by name x xs true is), (bytes_eq-Decides (f x) name).0 is)
    | inr isnt ↦
        let here : first name (x ∷ xs) ≡ suc (first name xs) = (let e = first_by name x xs false isnt in omega (arith, e)) in
        let more = first_is name xs (omega (arith, within, here)) in
        (more.0, ap (slice_get (x ∷ xs)) here ∙ more.1, more.2)
  ]

  first_there : (name : List ℕ) (xs : List X) → first name xs < length xs → Contains (map f xs) name
  first_there name [] within = absurd (omega (arith, within))
  first_there name (x ∷ xs) within = elim (cases_Bool (bytes_eq (f x) name)) [
    | inl is ↦ (0, omega arith, (bytes_eq-Decides (f x) name).0 is)
    | inr isnt ↦
        let here = first_by name x xs false isnt in
        let more = first_there name xs (omega (arith, within, here)) in
        let less = more.1 in
        (suc more.0, omega (arith, less), more.2)
  ]

  place_by : (name : List ℕ) (xs : List X) (b : Bool) → nat_lt (first name xs) (length xs) ≡ b → place name xs ≡ cond b (Some (first name xs)) None
  place_by name xs b e = ap (λ t. cond t (Some (first name xs)) None) e

  is_found : (b : Bool) (n : ℕ) → is_some (cond b (Some n) None) ≡ true → b ≡ true
  is_found true n e = refl
  is_found false n e = e

  pub there : (name : List ℕ) (xs : List X) → is_some (place name xs) ≡ true → Contains (map f xs) name
  there name xs e = first_there name xs (ltb-true _ _ (is_found (nat_lt (first name xs) (length xs)) (first name xs) e))

  pub found : (name : List ℕ) (xs : List X) → Contains (map f xs) name → is_some (place name xs) ≡ true
  found name xs h = ap is_some (place_by name xs true (lt-ltb (first name xs) (length xs) (first_within name xs h.0 h.1 h.2)))

  some_by : (b : Bool) (n i : ℕ) → cond b (Some n) None ≡ Some i → (b ≡ true) × (n ≡ i)
  some_by true n i e = (refl, same_Some n i e)
  some_by false n i e = absurd cc

  pub record IsPlace (name : List ℕ) (xs : List X) (i : ℕ) : Type 0 where
    pub item : X
    pub at : slice_get xs i ≡ Some item
    pub same : f item ≡ name
    pub within : i < length xs

  pub place_is : (name : List ℕ) (xs : List X) (i : ℕ) → place name xs ≡ Some i → IsPlace name xs i
  place_is name xs i e =
      let both = some_by (nat_lt (first name xs) (length xs)) (first name xs) i e in
      let within = ltb-true _ _ both.0 in
      let is = first_is name xs within in
      let same = both.1 in
      record { item = is.0; at = sym (ap (slice_get xs) same) ∙ is.1; same = is.2; within = omega (arith, within, same) }

  none_by : (b : Bool) (n : ℕ) → cond b (Some n) None ≡ None → b ≡ false
  none_by true n e = absurd cc
  none_by false n e = refl

  pub place_none : (name : List ℕ) (xs : List X) → (Contains (map f xs) name → ⊥) → place name xs ≡ None
  place_none name xs none = elim (cases_Bool (nat_lt (first name xs) (length xs))) [
    | inl is ↦ absurd (none (first_there name xs (ltb-true _ _ is)))
    | inr isnt ↦ place_by name xs false isnt
  ]
