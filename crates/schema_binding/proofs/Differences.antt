-- Where two lists first differ: at exactly one index, unless they are equal.
use Rattle.std.proofs.Common.{◌≡◌, ℕ, zero, suc, ◌<◌, List, [], ◌∷◌, take, Option, Some}
use Rattle.std.proofs.Common.{None, ◌⊎◌, inl, inr, refl, sym, ap, ◌∙◌, arith}
use Rattle.std.specs.Prelude.{slice_get}
use Rattle.std.proofs.lemmas.Bool.{cases_order}
use Rattle.std.proofs.lemmas.Option.{same_Some, none-some}
use Rattle.schema_binding.specs.Agreement.{AreFirstDifferentAt}

-- ---- at most one index

same_before : {X : Type 0} (xs ys : List X) (m n : ℕ) → take n xs ≡ take n ys → m < n → slice_get xs m ≡ slice_get ys m
same_before xs ys m zero same below = absurd (omega (arith, below))
same_before [] [] m (suc n) same below = refl
same_before [] (y ∷ ys) m (suc n) same below = absurd cc
same_before (x ∷ xs) [] m (suc n) same below = absurd cc
same_before (x ∷ xs) (y ∷ ys) zero (suc n) same below = let e : x ≡ y = cc in ap Some e
same_before (x ∷ xs) (y ∷ ys) (suc m) (suc n) same below = let e : take n xs ≡ take n ys = cc in same_before xs ys m n e (omega arith)

never_earlier : {X : Type 0} (xs ys : List X) (m n : ℕ) (x y v w : Option X) → AreFirstDifferentAt xs ys m x y → AreFirstDifferentAt xs ys n v w → m < n → ⊥
never_earlier xs ys m n x y v w d e below = d.other (sym d.ours ∙ same_before xs ys m n e.same below ∙ d.theirs)

pub one_place : {X : Type 0} (xs ys : List X) (m n : ℕ) (x y v w : Option X) → AreFirstDifferentAt xs ys m x y → AreFirstDifferentAt xs ys n v w → m ≡ n
one_place xs ys m n x y v w d e = elim (cases_order m n) [
  | inl equal ↦ equal
  | inr other ↦ elim other [
    | inl below ↦ absurd (never_earlier xs ys m n x y v w d e below)
    | inr above ↦ absurd (never_earlier xs ys n m v w x y e d above)
  ]
]

pub one_left : {X : Type 0} (xs ys : List X) (m n : ℕ) (x y v w : Option X) → AreFirstDifferentAt xs ys m x y → AreFirstDifferentAt xs ys n v w → x ≡ v
one_left xs ys m n x y v w d e = sym d.ours ∙ ap (slice_get xs) (one_place xs ys m n x y v w d e) ∙ e.ours

pub one_right : {X : Type 0} (xs ys : List X) (m n : ℕ) (x y v w : Option X) → AreFirstDifferentAt xs ys m x y → AreFirstDifferentAt xs ys n v w → y ≡ w
one_right xs ys m n x y v w d e = sym d.theirs ∙ ap (slice_get ys) (one_place xs ys m n x y v w d e) ∙ e.theirs

-- equal lists differ nowhere
pub equal_never_differ : {X : Type 0} (xs ys : List X) (at : ℕ) (x y : Option X) → xs ≡ ys → AreFirstDifferentAt xs ys at x y → ⊥
equal_never_differ {X} xs ys at x y same d = d.other (sym d.ours ∙ ap (λ (zs : List X). slice_get zs at) same ∙ d.theirs)

-- ---- there is one, unless they are equal

either : (P : Type 0) → (P ⊎ (P → ⊥) → ⊥) → ⊥
either P never = never (inr (λ p. never (inl p)))

pub differ_or_equal : {X : Type 0} (xs ys : List X) → (xs ≡ ys → ⊥) → ((at : ℕ) (x y : Option X) → AreFirstDifferentAt xs ys at x y → ⊥) → ⊥
differ_or_equal [] [] other nowhere = other refl
differ_or_equal [] (y ∷ ys) other nowhere = nowhere 0 None (Some y) (record { same = refl; ours = refl; theirs = refl; other = λ e. none-some y e })
differ_or_equal (x ∷ xs) [] other nowhere = nowhere 0 (Some x) None (record { same = refl; ours = refl; theirs = refl; other = λ e. none-some x (sym e) })
differ_or_equal {X} (x ∷ xs) (y ∷ ys) other nowhere = either (x ≡ y) (λ h. elim h [
  | inl same ↦ differ_or_equal xs ys
      (λ e. other (λ i. same i ∷ e i))
      (λ at v w d. nowhere (suc at) v w (record { same = λ i. same i ∷ d.same i; ours = d.ours; theirs = d.theirs; other = d.other }))
  | inr apart ↦ nowhere 0 (Some x) (Some y) (record { same = refl; ours = refl; theirs = refl; other = λ e. apart (same_Some x y e) })
])
