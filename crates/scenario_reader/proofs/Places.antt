-- The index of an item that passes a test, and the items at the same index of other lists.
use Rattle.std.proofs.Common.{◌≡◌, ℕ, zero, suc, ◌+◌, ◌<◌, not, Bool, true, false, cond, List, [], ◌∷◌, length}
use Rattle.std.proofs.Common.{Contains, Some, None, refl, sym, ap, ◌∙◌, subst, inl, inr, arith}
use Rattle.std.specs.Prelude.{nat_lt, slice_get, position}
use Rattle.std.specs.List.{position_or_len}
use Rattle.std.proofs.lemmas.Bool.{both_ways, cases_Bool, lt-ltb, ltb-true}
use Rattle.std.proofs.lemmas.Option.{same_Some}
use Rattle.scenario_lines.specs.Programs.{Each}
use Rattle.scenario_reader.proofs.Lists.{none_in, there_cases}

module _ {X : Type 0} (p : X → Bool) where
  first_by : (x : X) (xs : List X) (b : Bool) → p x ≡ b → position_or_len p (x ∷ xs) ≡ cond (not b) (1 + position_or_len p xs) 0
  first_by x xs b e = ap (λ t. cond (not t) (1 + position_or_len p xs) 0) e

  first_within : (xs : List X) (y : X) → Contains xs y → p y ≡ true → position_or_len p xs < length xs
  first_within [] y h e = absurd (none_in y h)
  first_within (x ∷ xs) y h e = elim (cases_Bool (p x)) [
    | inl is ↦ (let here = first_by x xs true is in omega (arith, here))
    | inr isnt ↦ elim (there_cases x xs y h) [
      | inl same ↦ absurd (both_ways (p x) isnt (ap p same ∙ e))
      | inr more ↦
          let here = first_by x xs false isnt in
          let rest = first_within xs y more e in
          omega (arith, here, rest)
    ]
  ]

  first_is : (xs : List X) → position_or_len p xs < length xs → (x : X) × (slice_get xs (position_or_len p xs) ≡ Some x) × (p x ≡ true)
  first_is [] within = absurd (omega (arith, within))
  first_is (x ∷ xs) within = elim (cases_Bool (p x)) [
    | inl is ↦ (x, ap (slice_get (x ∷ xs)) (first_by x xs true is), is)
    | inr isnt ↦
        let here : position_or_len p (x ∷ xs) ≡ suc (position_or_len p xs) = (let e = first_by x xs false isnt in omega (arith, e)) in
        let more = first_is xs (omega (arith, within, here)) in
        (more.0, ap (slice_get (x ∷ xs)) here ∙ more.1, more.2)
  ]

  some_by : (b : Bool) (n i : ℕ) → cond b (Some n) None ≡ Some i → (b ≡ true) × (n ≡ i)
  some_by true n i e = (refl, same_Some n i e)
  some_by false n i e = absurd cc

  none_by : (b : Bool) (n : ℕ) → cond b (Some n) None ≡ None → b ≡ false
  none_by true n e = absurd cc
  none_by false n e = refl

  pub place_is : (xs : List X) (i : ℕ) → position p xs ≡ Some i → (x : X) × (slice_get xs i ≡ Some x) × (p x ≡ true)
  place_is xs i e =
      let both = some_by (nat_lt (position_or_len p xs) (length xs)) (position_or_len p xs) i e in
      let is = first_is xs (ltb-true _ _ both.0) in
      (is.0, sym (ap (slice_get xs) both.1) ∙ is.1, is.2)

  pub no_place : (xs : List X) → position p xs ≡ None → (y : X) → Contains xs y → p y ≡ true → ⊥
  no_place xs e y h is =
      both_ways (nat_lt (position_or_len p xs) (length xs)) (none_by (nat_lt (position_or_len p xs) (length xs)) (position_or_len p xs) e)
      (lt-ltb (position_or_len p xs) (length xs) (first_within xs y h is))

pub each_to : {X Y : Type 0} (R : X → Y → Type 0) (xs : List X) (ys : List Y) (i : ℕ) (x : X) → Each R xs ys → slice_get xs i ≡ Some x
    → (y : Y) × (slice_get ys i ≡ Some y) × R x y
each_to R [] [] i x e at = absurd cc
each_to R [] (y ∷ ys) i x e at = absurd e
each_to R (w ∷ xs) [] i x e at = absurd e
each_to {X = X} R (w ∷ xs) (y ∷ ys) zero x e at = (y, refl, subst (λ (v : X). R v y) (same_Some w x at) e.0)
each_to R (w ∷ xs) (y ∷ ys) (suc i) x e at = each_to R xs ys i x e.1 at
