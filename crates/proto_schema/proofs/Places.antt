-- Elements of a list by index, after an element was appended or changed.
use Rattle.std.proofs.Common.{◌≡◌, ◌⊎◌, inl, inr, ℕ, zero, suc, ◌-◌, ◌<◌, List, [], ◌∷◌, ◌++◌, length, get_or, refl, ap, sym, ◌∙◌, arith}
use Rattle.std.specs.Prelude.{Option, Some, None, slice_get, All, Contains}
use Rattle.std.proofs.lemmas.Option.{slice_get_within, slice_get-get_or, get_or_from_slice_get}
use Rattle.proto_schema.specs.Files.{edit_at, edit_last, edit_open}

pub nothing_at : {X : Type 0} (i : ℕ) (x : X) → slice_get [] i ≡ Some x → ⊥
nothing_at i x e = let t : ◌≡◌ None (Some x) = e in cc

pub one_at : {X : Type 0} (xs : List X) (i : ℕ) (x y : X) → slice_get xs i ≡ Some x → slice_get xs i ≡ Some y → x ≡ y
one_at xs i x y e h = let t : ◌≡◌ (Some x) (Some y) = sym e ∙ h in cc

-- ---- all elements

pub all_by_place : {X : Type 0} (P : X → Type 0) (xs : List X) → ((i : ℕ) (x : X) → slice_get xs i ≡ Some x → P x) → All P xs
all_by_place P xs h = λ k d l. h k (get_or xs k d) (slice_get-get_or xs k d l)

pub contained : {X : Type 0} (xs : List X) (i : ℕ) (x : X) → slice_get xs i ≡ Some x → Contains xs x
contained xs i x e = (i, slice_get_within xs i x e, get_or_from_slice_get xs i x x e)

-- ---- an appended element

pub in_pushed : {X : Type 0} (xs : List X) (x : X) (i : ℕ) (y : X) → slice_get (xs ++ x ∷ []) i ≡ Some y
    → (slice_get xs i ≡ Some y) ⊎ ((i ≡ length xs) × (y ≡ x))
in_pushed [] x zero y e = inr (refl, let t : ◌≡◌ (Some x) (Some y) = e in cc)
in_pushed [] x (suc i) y e = absurd (nothing_at i y e)
in_pushed (z ∷ zs) x zero y e = inl e
in_pushed (z ∷ zs) x (suc i) y e = elim (in_pushed zs x i y e) [ inl h ↦ inl h | inr (l, h) ↦ inr (ap suc l, h) ]

pub before_pushed : {X : Type 0} (xs : List X) (x : X) (i : ℕ) (y : X) → slice_get xs i ≡ Some y
    → slice_get (xs ++ x ∷ []) i ≡ Some y
before_pushed [] x i y e = absurd (nothing_at i y e)
before_pushed (z ∷ zs) x zero y e = e
before_pushed (z ∷ zs) x (suc i) y e = before_pushed zs x i y e

pub pushed : {X : Type 0} (xs : List X) (x : X) → slice_get (xs ++ x ∷ []) (length xs) ≡ Some x
pushed [] x = refl
pushed (z ∷ zs) x = pushed zs x

-- ---- a changed element

pub data Changed {X : Type 0} (at : ℕ → Type 0) (f : X → X) (xs : List X) (i : ℕ) (y : X) : Type 0 where
  changed : (x : X) → slice_get xs i ≡ Some x → at i → y ≡ f x → Changed at f xs i y
  kept : slice_get xs i ≡ Some y → (at i → ⊥) → Changed at f xs i y

pub in_edited : {X : Type 0} (n : ℕ) (f : X → X) (xs : List X) (i : ℕ) (y : X) → slice_get (edit_at n f xs) i ≡ Some y
    → Changed (λ i. i ≡ n) f xs i y
in_edited n f [] i y e = absurd (nothing_at i y e)
in_edited zero f (x ∷ xs) zero y e = changed x refl refl (let t : ◌≡◌ (Some (f x)) (Some y) = e in cc)
in_edited zero f (x ∷ xs) (suc i) y e = kept e (λ h. omega arith)
in_edited (suc n) f (x ∷ xs) zero y e = kept e (λ h. omega arith)
in_edited (suc n) f (x ∷ xs) (suc i) y e =
    elim (in_edited n f xs i y e) [
      | changed z h l q ↦ changed z h (ap suc l) q
      | kept h l ↦ kept h (λ q. l (omega arith))
    ]

pub length_edited : {X : Type 0} (n : ℕ) (f : X → X) (xs : List X) → length (edit_at n f xs) ≡ length xs
length_edited n f [] = refl
length_edited zero f (x ∷ xs) = refl
length_edited (suc n) f (x ∷ xs) = ap suc (length_edited n f xs)

pub in_edited_open : {X : Type 0} (o : Option ℕ) (f : X → X) (xs : List X) (i : ℕ) (y : X)
    → slice_get (edit_open o f xs) i ≡ Some y → Changed (λ i. o ≡ Some i) f xs i y
in_edited_open None f xs i y e = kept e (λ h. let t : ◌≡◌ None (Some i) = h in cc)
in_edited_open (Some n) f xs i y e =
    elim (in_edited n f xs i y e) [
      | changed z h l q ↦ changed z h (ap Some (sym l)) q
      | kept h l ↦ kept h (λ q. l (let t : ◌≡◌ (Some n) (Some i) = q in cc))
    ]

pub length_edited_open : {X : Type 0} (o : Option ℕ) (f : X → X) (xs : List X) → length (edit_open o f xs) ≡ length xs
length_edited_open None f xs = refl
length_edited_open (Some n) f xs = length_edited n f xs

pub in_edited_last : {X : Type 0} (f : X → X) (xs : List X) (i : ℕ) (y : X) → slice_get (edit_last f xs) i ≡ Some y
    → Changed (λ i. suc i ≡ length xs) f xs i y
in_edited_last f xs i y e =
    elim (in_edited (length xs - 1) f xs i y e) [
      | changed z h l q ↦ changed z h (let k : i < length xs = slice_get_within xs i z h in omega arith) q
      | kept h l ↦ kept h (λ q. l (omega arith))
    ]

pub length_edited_last : {X : Type 0} (f : X → X) (xs : List X) → length (edit_last f xs) ≡ length xs
length_edited_last f xs = length_edited (length xs - 1) f xs
