-- Lists by index.
use Rattle.std.proofs.Common.{◌≡◌, ℕ, zero, suc, ◌<◌, ◌⊎◌, ⊎_elim, List, [], ◌∷◌, ◌++◌, inl, inr, length, set, get_or, refl, sym, ap, ◌∙◌, subst, arith}
use Rattle.std.specs.Prelude.{slice_get, Some, Contains, All}
use Rattle.std.specs.List.{AllZip}
use Rattle.std.proofs.lemmas.List.Elements.{Contains-get_or}
use Rattle.std.proofs.lemmas.Option.{same_Some, slice_get_within, slice_get-get_or, get_or_from_slice_get}
use Rattle.mrpc_table.specs.Valid.{AreDistinct}

pub get_push : {X : Type 0} (xs : List X) (x q : X) (j : ℕ) → slice_get (xs ++ x ∷ []) j ≡ Some q
    → (slice_get xs j ≡ Some q) ⊎ ((j ≡ length xs) × (x ≡ q))
get_push [] x q zero e = let same : x ≡ q = cc in inr (refl, same)
get_push [] x q (suc j) e = absurd cc
get_push (y ∷ ys) x q zero e = inl e
get_push {X} (y ∷ ys) x q (suc j) e =
    ⊎_elim (λ (old : slice_get ys j ≡ Some q). inl old)
    (λ (new : (j ≡ length ys) × (x ≡ q)). inr (ap suc new.0, new.1)) (get_push ys x q j e)

pub get_set_same : {X : Type 0} (xs : List X) (i : ℕ) (x : X) → i < length xs → slice_get (set xs i x) i ≡ Some x
get_set_same [] i x l = absurd (omega arith)
get_set_same (y ∷ ys) zero x l = refl
get_set_same (y ∷ ys) (suc i) x l = get_set_same ys i x (omega arith)

pub get_set_other : {X : Type 0} (xs : List X) (i j : ℕ) (x : X) → (j ≡ i → ⊥)
    → slice_get (set xs i x) j ≡ slice_get xs j
get_set_other [] i j x ne = refl
get_set_other (y ∷ ys) zero zero x ne = absurd (ne refl)
get_set_other (y ∷ ys) zero (suc j) x ne = refl
get_set_other (y ∷ ys) (suc i) zero x ne = refl
get_set_other (y ∷ ys) (suc i) (suc j) x ne = get_set_other ys i j x (λ e. ne (ap suc e))

pub some_at : {X : Type 0} (xs : List X) (i : ℕ) → i < length xs → (x : X) × (slice_get xs i ≡ Some x)
some_at [] i l = absurd (omega arith)
some_at (x ∷ xs) zero l = (x, refl)
some_at (x ∷ xs) (suc i) l = some_at xs i (omega arith)

pub held : {X : Type 0} (xs : List X) (k : ℕ) (x : X) → slice_get xs k ≡ Some x → Contains xs x
held xs k x e = (k, slice_get_within xs k x e, get_or_from_slice_get xs k x x e)

pub place_of : {X : Type 0} (xs : List X) (x : X) → Contains xs x → (k : ℕ) × (slice_get xs k ≡ Some x)
place_of xs x c = (c.0, slice_get-get_or xs c.0 x c.1 ∙ ap Some c.2)

pub all_held : {X : Type 0} (P : X → Type 0) (xs : List X) → ((x : X) → Contains xs x → P x) → All P xs
all_held P xs h = λ k d l. h (get_or xs k d) (Contains-get_or xs k d l)

pub once : {X : Type 0} (xs : List X) (j k : ℕ) (x : X) → AreDistinct xs → slice_get xs j ≡ Some x
    → slice_get xs k ≡ Some x → j ≡ k
once [] j k x h a b = absurd cc
once (y ∷ ys) zero zero x h a b = refl
once (y ∷ ys) zero (suc k) x h a b = absurd (h.0 (held ys k y (b ∙ sym a)))
once (y ∷ ys) (suc j) zero x h a b = absurd (h.0 (held ys j y (a ∙ sym b)))
once (y ∷ ys) (suc j) (suc k) x h a b = ap suc (once ys j k x h.1 a b)

-- ---- two lists, element by element

pub zip_all : {A B : Type 0} (R : A → B → Type 0) (xs : List A) (ys : List B) → length xs ≡ length ys
    → ((j : ℕ) (x : A) (y : B) → slice_get xs j ≡ Some x → slice_get ys j ≡ Some y → R x y) → AllZip R xs ys
zip_all R [] [] e h = tt
zip_all R [] (y ∷ ys) e h = absurd (omega arith)
zip_all R (x ∷ xs) [] e h = absurd (omega arith)
zip_all R (x ∷ xs) (y ∷ ys) e h =
    (h 0 x y refl refl, zip_all R xs ys (omega arith) (λ j a b p q. h (suc j) a b p q))

pub zip_length : {A B : Type 0} (R : A → B → Type 0) (xs : List A) (ys : List B) → AllZip R xs ys
    → length xs ≡ length ys
zip_length R [] [] h = refl
zip_length R [] (y ∷ ys) h = absurd h
zip_length R (x ∷ xs) [] h = absurd h
zip_length R (x ∷ xs) (y ∷ ys) h = let e : length xs ≡ length ys = zip_length R xs ys h.1 in omega arith

pub zip_at : {A B : Type 0} (R : A → B → Type 0) (xs : List A) (ys : List B) (j : ℕ) (x : A) (y : B) → AllZip R xs ys
    → slice_get xs j ≡ Some x → slice_get ys j ≡ Some y → R x y
zip_at R [] [] j x y h p q = absurd cc
zip_at R [] (b ∷ ys) j x y h p q = absurd h
zip_at R (a ∷ xs) [] j x y h p q = absurd h
zip_at {A} {B} R (a ∷ xs) (b ∷ ys) zero x y h p q =
    subst (λ (v : A). R v y) (same_Some a x p) (subst (λ (w : B). R a w) (same_Some b y q) h.0)
zip_at R (a ∷ xs) (b ∷ ys) (suc j) x y h p q = zip_at R xs ys j x y h.1 p q
