-- Elements of lists, and concatenated full names.
use Rattle.std.proofs.Common.{◌≡◌, ℕ, zero, suc, ◌<◌, ◌≤◌, List, [], ◌∷◌, ◌++◌, length, map, Some, None, refl, sym, ap, ◌∙◌, arith}
use Rattle.std.specs.Prelude.{Contains, slice_get}
use Rattle.std.specs.Option.{option_map}
use Rattle.std.proofs.lemmas.Option.{slice_get_within, get_or_from_slice_get, same_Some, none-some, slice_get_read, slice_get-map}
use Rattle.std.proofs.lemmas.List.{length-append}
use Rattle.schema_validation.specs.Correspondence.{AreCorrespondingInOrder, none, next}

-- ---- elements

pub in_list : {X : Type 0} (xs : List X) (i : ℕ) (x : X) → slice_get xs i ≡ Some x → Contains xs x
in_list xs i x e = (i, slice_get_within xs i x e, get_or_from_slice_get xs i x x e)

pub at_in : {X : Type 0} (xs : List X) (x : X) (c : Contains xs x) → slice_get xs c.0 ≡ Some x
at_in xs x c = slice_get_read xs (length xs) c.0 x refl c.1 (sym c.2)

pub some_at : {X : Type 0} (xs : List X) (i : ℕ) → i < length xs → (x : X) × (slice_get xs i ≡ Some x)
some_at [] i l = absurd (omega arith)
some_at (x ∷ xs) zero l = (x, refl)
some_at (x ∷ xs) (suc i) l = some_at xs i (omega arith)

pub none_at : {X : Type 0} (xs : List X) (i : ℕ) → length xs ≤ i → slice_get xs i ≡ None
none_at [] i l = refl
none_at (x ∷ xs) zero l = absurd (omega arith)
none_at (x ∷ xs) (suc i) l = none_at xs i (omega arith)

-- the origin of an element of a mapped list
pub mapped_from : {X Y : Type 0} (f : X → Y) (xs : List X) (i : ℕ) (y : Y) → slice_get (map f xs) i ≡ Some y
    → (x : X) × (slice_get xs i ≡ Some x) × (f x ≡ y)
mapped_from f [] i y e = absurd (none-some y e)
mapped_from f (x ∷ xs) zero y e = (x, refl, same_Some (f x) y e)
mapped_from f (x ∷ xs) (suc i) y e = mapped_from f xs i y e

pub mapped_to : {X Y : Type 0} (f : X → Y) (xs : List X) (i : ℕ) (x : X) → slice_get xs i ≡ Some x
    → slice_get (map f xs) i ≡ Some (f x)
mapped_to f xs i x e = slice_get-map f xs i ∙ ap (option_map f) e

-- ---- lists in order

-- one list may be replaced by another of the same length, if its elements correspond one by one
pub exchanged : {X Z Y : Type 0} (R : X → Y → Type 0) (S : Z → Y → Type 0) {xs : List X} {ys : List Y} (zs : List Z)
    → AreCorrespondingInOrder R xs ys → length zs ≡ length xs
    → ((i : ℕ) (x : X) (z : Z) → slice_get xs i ≡ Some x → slice_get zs i ≡ Some z → (y : Y) → R x y → S z y)
    → AreCorrespondingInOrder S zs ys
exchanged R S [] none l change = none
exchanged R S (z ∷ zs) none l change = absurd (omega arith)
exchanged R S [] (next r rest) l change = absurd (omega arith)
exchanged R S (z ∷ zs) (next {x} {y} {xs} r rest) l change =
    next (change 0 x z refl refl y r) (exchanged R S zs rest (omega arith) (λ i. change (suc i)))

-- ---- full names

pub last_same : {X : Type 0} (xs ys : List X) (x y : X) → xs ++ x ∷ [] ≡ ys ++ y ∷ [] → (xs ≡ ys) × (x ≡ y)
last_same [] [] x y e = let h : x ≡ y = cc in (refl, h)
last_same {X} [] (b ∷ ys) x y e = absurd (omega (arith, ap length e, length-append ys (y ∷ [])))
last_same {X} (a ∷ xs) [] x y e = absurd (omega (arith, ap length e, length-append xs (x ∷ [])))
last_same (a ∷ xs) (b ∷ ys) x y e =
    let rest : xs ++ x ∷ [] ≡ ys ++ y ∷ [] = cc in
    let r = last_same xs ys x y rest in
    let head : a ≡ b = cc in
    let front : xs ≡ ys = r.0 in
    let whole : a ∷ xs ≡ b ∷ ys = cc in
    (whole, r.1)

-- a list is empty or has a last element
pub data Ends {X : Type 0} (xs : List X) : Type 0 where
  no_last : xs ≡ [] → Ends xs
  a_last : (front : List X) (x : X) → xs ≡ front ++ x ∷ [] → Ends xs

pub ends : {X : Type 0} (xs : List X) → Ends xs
ends [] = no_last refl
ends (x ∷ xs) = elim (ends xs) [
  | no_last e ↦ a_last [] x (ap (λ ys. x ∷ ys) e)
  | a_last front y e ↦ a_last (x ∷ front) y (ap (λ ys. x ∷ ys) e)
]

-- an element of a part of a list is in the list
pub contains_part : {X : Type 0} (xs : List X) (x : X) (ys : List X) → Contains (xs ++ x ∷ ys) x
contains_part [] x ys = (0, omega arith, refl)
contains_part (z ∷ xs) x ys =
    let c = contains_part xs x ys in
    (suc c.0, omega arith, c.2)
