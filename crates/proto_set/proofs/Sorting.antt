-- Sorted lists, and lists without repeated elements.
use Rattle.std.proofs.Common.{◌≡◌, ◌≢◌, ℕ, zero, suc, ◌<◌, inl, inr, false, List, [], ◌∷◌, ◌++◌, length, get_or, refl, sym, ap, ◌∙◌, subst, arith}
use Rattle.std.specs.Prelude.{Contains, Some}
use Rattle.std.specs.List.{swap}
use Rattle.std.specs.List.Sorted.{IsPermutation}
use Rattle.std.specs.Cmp.{IsTotalOrder}
use Rattle.std.specs.Ordering.{is_lt, ordering_then, ordering_reverse}
use Rattle.std.specs.declared.cmp.Ordering.{Ordering}
use Rattle.std.specs.declared.cmp.Ordering.TheVariants.{Less, Equal, Greater}
use Rattle.std.proofs.lemmas.Bool.{false≢true, cases_eq}
use Rattle.std.proofs.lemmas.Cmp.{tied_itself, nat_list_cmp_total}
use Rattle.std.proofs.lemmas.List.Edits.{swapped_from_swap, length-swap}
use Rattle.std.proofs.lemmas.List.Sorted.{IsPermutation-keeps}
use Rattle.std.proofs.lemmas.Option.{slice_get-get_or}
use Rattle.mrpc_table.specs.Valid.{IsAscendingBy, AreDistinct, IsBelow}
use Rattle.proto_set.proofs.Visited.{cons_here, cons_more, cons_cases}
use Rattle.proto_set.proofs.Walked.{Once}

-- ---- no repeated elements

abbrev pub AreApart : {X : Type 0} → List X → Type 0
AreApart {X} xs =
    (i j : ℕ) (d : X) → i < length xs → j < length xs → get_or xs i d ≡ get_or xs j d → i ≡ j

pub apart_distinct : {X : Type 0} (xs : List X) → AreApart xs → AreDistinct xs
apart_distinct [] h = tt
apart_distinct (x ∷ xs) h = (
  λ c. let e : 0 ≡ suc c.0 = h 0 (suc c.0) x (omega arith) (omega (arith, c.1)) (sym c.2) in omega arith,
  apart_distinct xs
      (λ i j d a b e. let f : suc i ≡ suc j = h (suc i) (suc j) d (omega arith) (omega arith) e in omega arith),
)

data Moved (a b k j : ℕ) : Type 0 where
  first : k ≡ a → j ≡ b → Moved a b k j
  second : k ≢ a → k ≡ b → j ≡ a → Moved a b k j
  neither : k ≢ a → k ≢ b → j ≡ k → Moved a b k j

moved_one : (a b i j p q : ℕ) → Moved a b i p → Moved a b j q → p ≡ q → i ≡ j
moved_one a b i j p q (first e f) (first g h) s = omega arith
moved_one a b i j p q (first e f) (second m g h) s = omega arith
moved_one a b i j p q (first e f) (neither m n h) s = omega arith
moved_one a b i j p q (second k e f) (first g h) s = omega arith
moved_one a b i j p q (second k e f) (second m g h) s = omega arith
moved_one a b i j p q (second k e f) (neither m n h) s = omega arith
moved_one a b i j p q (neither k l e) (first g h) s = omega arith
moved_one a b i j p q (neither k l e) (second m g h) s = omega arith
moved_one a b i j p q (neither k l e) (neither m n h) s = omega arith

moved_from : {X : Type 0} (xs : List X) (a b k : ℕ) (d : X) → a < length xs → b < length xs → k < length xs
    → (j : ℕ) × (j < length xs) × Moved a b k j × (get_or (swap xs a b) k d ≡ get_or xs j d)
moved_from xs a b k d la lb lk =
    let s = swapped_from_swap xs (swap xs a b) a b d la lb refl in
    elim (cases_eq k a) [
      | inl e ↦ (b, lb, first e refl, ap (λ (m : ℕ). get_or (swap xs a b) m d) e ∙ s.0)
      | inr n ↦ elim (cases_eq k b) [
        | inl e ↦ (a, la, second n e refl, ap (λ (m : ℕ). get_or (swap xs a b) m d) e ∙ s.1)
        | inr o ↦ (k, lk, neither n o refl, s.2 k n o)
      ]
    ]

apart_swap : {X : Type 0} (xs : List X) (a b : ℕ) → a < length xs → b < length xs → AreApart xs → AreApart (swap xs a b)
apart_swap xs a b la lb h i j d hi hj e =
    let li : i < length xs = omega (arith, length-swap xs a b) in
    let lj : j < length xs = omega (arith, length-swap xs a b) in
    let p = moved_from xs a b i d la lb li in
    let q = moved_from xs a b j d la lb lj in
    moved_one a b i j p.0 q.0 p.2 q.2 (h p.0 q.0 d p.1 q.1 (sym p.3 ∙ e ∙ q.3))

pub apart_moved : {X : Type 0} (xs ys : List X) → IsPermutation xs ys → AreApart xs → AreApart ys
apart_moved xs ys p h = IsPermutation-keeps xs (λ zs. AreApart zs) h (λ zs a b la lb k. apart_swap zs a b la lb k) ys p

-- ---- each one in relation to the next

pub ascends_from : {X : Type 0} (R : X → X → Type 0) (xs : List X)
    → ((k : ℕ) (d : X) → suc k < length xs → R (get_or xs k d) (get_or xs (suc k) d)) → IsAscendingBy R xs
ascends_from R [] h = tt
ascends_from R (x ∷ []) h = tt
ascends_from R (x ∷ y ∷ xs) h =
    (h 0 x (omega arith), ascends_from R (y ∷ xs) (λ k d l. h (suc k) d (omega arith)))

pub ascends_past : {X : Type 0} (R : X → X → Type 0) → ((x y z : X) → R x y → R y z → R x z) → (x : X) (xs : List X)
    → IsAscendingBy R (x ∷ xs) → (k : ℕ) (d : X) → k < length xs → R x (get_or xs k d)
ascends_past R trans x [] h k d l = absurd (omega arith)
ascends_past R trans x (y ∷ xs) h zero d l = h.0
ascends_past R trans x (y ∷ xs) h (suc k) d l =
    trans x y (get_or xs k d) h.0 (ascends_past R trans y xs h.1 k d (omega arith))

pub ascends_rest : {X : Type 0} (R : X → X → Type 0) (x : X) (xs : List X) → IsAscendingBy R (x ∷ xs) → IsAscendingBy R xs
ascends_rest R x [] h = tt
ascends_rest R x (y ∷ xs) h = h.1

-- a list that ascends by a strict order has no repeated element
pub ascends_apart : {X : Type 0} (R : X → X → Type 0) → ((x y z : X) → R x y → R y z → R x z)
    → ((x : X) → R x x → ⊥) → (xs : List X) → IsAscendingBy R xs → AreApart xs
ascends_apart R trans strict [] h i j d a b e = absurd (omega arith)
ascends_apart R trans strict (x ∷ xs) h zero zero d a b e = refl
ascends_apart R trans strict (x ∷ xs) h zero (suc j) d a b e =
    absurd (strict x (subst (R x) (sym e) (ascends_past R trans x xs h j d (omega arith))))
ascends_apart R trans strict (x ∷ xs) h (suc i) zero d a b e =
    absurd (strict x (subst (R x) e (ascends_past R trans x xs h i d (omega arith))))
ascends_apart R trans strict (x ∷ xs) h (suc i) (suc j) d a b e =
    ap suc (ascends_apart R trans strict xs (ascends_rest R x xs h) i j d (omega arith) (omega arith) e)

-- ---- a strict order

less_at : (o p rest : Ordering) → p ≡ ordering_reverse o → (o ≡ Equal → ⊥) → is_lt (ordering_then o rest) ≡ false
    → p ≡ Less
less_at Less p rest e apart not_less = absurd (false≢true (sym not_less))
less_at Equal p rest e apart not_less = absurd (apart refl)
less_at Greater p rest e apart not_less = e

-- two elements that compare as not greater and not equal ascend
pub less_from : {K : Type 0} (R : K → K → Ordering) → IsTotalOrder R → (a b : K) (rest : Ordering)
    → (R b a ≡ Equal → ⊥) → is_lt (ordering_then (R b a) rest) ≡ false → R a b ≡ Less
less_from R total a b rest apart not_less =
    less_at (R b a) (R a b) rest (total.antisymm a b) apart not_less

pub below_trans : (a b c : List ℕ) → IsBelow a b → IsBelow b c → IsBelow a c
below_trans a b c p q = nat_list_cmp_total.trans a b c p q

pub below_strict : (a : List ℕ) → IsBelow a a → ⊥
below_strict a p = let e : Less ≡ Equal = sym p ∙ tied_itself nat_list_cmp_total a in cc

pub element : {X : Type 0} (xs : List X) (i : ℕ) → i < length xs → (x : X) × ((d : X) → get_or xs i d ≡ x)
element [] i l = absurd (omega arith)
element (x ∷ xs) zero l = (x, λ d. refl)
element (x ∷ xs) (suc i) l = element xs i (omega arith)

pub once_apart : (xs : List ℕ) → Once xs → AreApart xs
once_apart xs once i j d a b e =
    once i j (get_or xs i d) (slice_get-get_or xs i d a) (slice_get-get_or xs j d b ∙ ap Some (sym e))

-- ---- lists with the same elements

-- the first element is the least
pub first_is_least : {X : Type 0} (R : X → X → Type 0) → ((x y z : X) → R x y → R y z → R x z) → (x : X) (xs : List X)
    → IsAscendingBy R (x ∷ xs) → (y : X) → Contains xs y → R x y
first_is_least {X} R trans x xs h y c = subst (R x) c.2 (ascends_past R trans x xs h c.0 y c.1)

same_first : {X : Type 0} (R : X → X → Type 0) → ((x y z : X) → R x y → R y z → R x z) → ((x : X) → R x x → ⊥)
    → (x y : X) (xs ys : List X) → IsAscendingBy R (x ∷ xs) → IsAscendingBy R (y ∷ ys) → Contains (y ∷ ys) x → Contains (x ∷ xs) y
    → x ≡ y
same_first R trans strict x y xs ys h k cx cy = elim (cons_cases y ys x cx) [
  | inl e ↦ sym e
  | inr behind ↦ elim (cons_cases x xs y cy) [
    | inl e ↦ e
    | inr after ↦ absurd (strict x (trans x y x (first_is_least R trans x xs h y after) (first_is_least R trans y ys k x behind)))
  ]
]

rest_contains : {X : Type 0} (R : X → X → Type 0) → ((x y z : X) → R x y → R y z → R x z) → ((x : X) → R x x → ⊥)
    → (x y : X) (xs ys : List X) → IsAscendingBy R (x ∷ xs) → x ≡ y → ((z : X) → Contains (x ∷ xs) z → Contains (y ∷ ys) z)
    → (z : X) → Contains xs z → Contains ys z
rest_contains {X} R trans strict x y xs ys h e all z c = elim (cons_cases y ys z (all z (cons_more x xs z c))) [
  | inl same ↦ absurd (strict x (subst (R x) (sym (e ∙ same)) (first_is_least R trans x xs h z c)))
  | inr other ↦ other
]

pub ascends_same : {X : Type 0} (R : X → X → Type 0) → ((x y z : X) → R x y → R y z → R x z) → ((x : X) → R x x → ⊥)
    → (xs ys : List X) → IsAscendingBy R xs → IsAscendingBy R ys → ((z : X) → Contains xs z → Contains ys z)
    → ((z : X) → Contains ys z → Contains xs z) → xs ≡ ys
ascends_same R trans strict [] [] h k to from = refl
ascends_same R trans strict [] (y ∷ ys) h k to from = absurd (let c = from y (cons_here y ys) in let l : c.0 < 0 = c.1 in omega arith)
ascends_same R trans strict (x ∷ xs) [] h k to from = absurd (let c = to x (cons_here x xs) in let l : c.0 < 0 = c.1 in omega arith)
ascends_same {X} R trans strict (x ∷ xs) (y ∷ ys) h k to from =
    let e : x ≡ y = same_first R trans strict x y xs ys h k (to x (cons_here x xs)) (from y (cons_here y ys)) in
    let rest : xs ≡ ys =
    ascends_same R trans strict xs ys (ascends_rest R x xs h) (ascends_rest R y ys k)
    (rest_contains R trans strict x y xs ys h e to) (rest_contains R trans strict y x ys xs k (sym e) from) in
    cc

-- one more element at the end
pub ascends_push : (xs : List ℕ) (x : ℕ) → ((k : ℕ) → Contains xs k → k < x) → IsAscendingBy ◌<◌ xs → IsAscendingBy ◌<◌ (xs ++ x ∷ [])
ascends_push [] x below h = tt
ascends_push (y ∷ []) x below h = (below y (cons_here y []), tt)
ascends_push (y ∷ z ∷ zs) x below h = (h.0, ascends_push (z ∷ zs) x (λ k c. below k (cons_more y (z ∷ zs) k c)) h.1)
