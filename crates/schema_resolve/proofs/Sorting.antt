-- Each list has an order: insertion sort puts each element before the first one that is not less.
use Rattle.std.proofs.Common.{◌≡◌, ◌⊎◌, inl, inr, ℕ, zero, suc, ◌<◌, ◌≤◌, false, List, [], ◌∷◌, length, get_or, refl, sym, subst, arith, add-one}
use Rattle.std.specs.List.Sorted.{IsPermutation, IsSorted, IsNonDecreasingBy}
use Rattle.std.specs.Cmp.{IsTotalOrder}
use Rattle.std.specs.Ordering.{is_lt, ordering_then, ordering_reverse}
use Rattle.std.specs.declared.cmp.Ordering.{Ordering}
use Rattle.std.specs.declared.cmp.Ordering.TheVariants.{Less, Equal, Greater}
use Rattle.std.proofs.lemmas.List.Sorted.{IsPermutation-refl, IsPermutation-cons, IsPermutation-trans, IsPermutation-middle}
use Rattle.mrpc_table.specs.Valid.{IsAscendingBy}
use Rattle.schema_resolve.proofs.Orders.{ascends_past, ascends_rest}

-- an element inserted into an ascending list; a common lower bound is kept
record Inserted {X : Type 0} (R : X → X → Type 0) (x : X) (ys : List X) : Type 0 where
  list : List X
  moved : IsPermutation (x ∷ ys) list
  ascends : IsAscendingBy R list
  behind : (z : X) → R z x → IsAscendingBy R (z ∷ ys) → IsAscendingBy R (z ∷ list)

inserted : {X : Type 0} (R : X → X → Type 0) → ((x y : X) → R x y ⊎ R y x) → (x : X) (ys : List X) → IsAscendingBy R ys
    → Inserted R x ys
inserted R total x [] h = record {
  list = x ∷ [];
  moved = IsPermutation-refl (x ∷ []);
  ascends = tt;
  behind = λ z r a. (r, tt);
}
inserted R total x (y ∷ ys) h = elim (total x y) [
  | inl r ↦ record {
    list = x ∷ y ∷ ys;
    moved = IsPermutation-refl (x ∷ y ∷ ys);
    ascends = (r, h);
    behind = λ z s a. (s, (r, h));
  }
  | inr r ↦
      let rest = inserted R total x ys (ascends_rest R y ys h) in record {
        list = y ∷ rest.list;
        moved = IsPermutation-trans (x ∷ y ∷ ys) (y ∷ x ∷ ys) (y ∷ rest.list) (IsPermutation-middle (x ∷ []) y ys)
            (IsPermutation-cons y (x ∷ ys) rest.list rest.moved);
        ascends = rest.behind y r h;
        behind = λ z s a. (a.0, rest.behind y r h);
      }
]

-- the elements of a list by an order
pub record InOrder {X : Type 0} (R : X → X → Type 0) (xs : List X) : Type 0 where
  pub list : List X
  pub moved : IsPermutation xs list
  pub ascends : IsAscendingBy R list

pub in_order : {X : Type 0} (R : X → X → Type 0) → ((x y : X) → R x y ⊎ R y x) → (xs : List X) → InOrder R xs
in_order R total [] = record { list = []; moved = IsPermutation-refl []; ascends = tt }
in_order R total (x ∷ xs) =
    let rest = in_order R total xs in
    let h = inserted R total x rest.list rest.ascends in record {
      list = h.list;
      moved = IsPermutation-trans (x ∷ xs) (x ∷ rest.list) h.list (IsPermutation-cons x xs rest.list rest.moved)
          h.moved;
      ascends = h.ascends;
    }

-- ---- as the standard library defines it

ascends_at : {X : Type 0} (R : X → X → Type 0) (xs : List X) → IsAscendingBy R xs → (k : ℕ) (d : X) → suc k < length xs
    → R (get_or xs k d) (get_or xs (suc k) d)
ascends_at R [] h k d l = absurd (omega arith)
ascends_at R (x ∷ []) h k d l = absurd (omega arith)
ascends_at R (x ∷ y ∷ xs) h zero d l = h.0
ascends_at R (x ∷ y ∷ xs) h (suc k) d l = ascends_at R (y ∷ xs) h.1 k d (omega arith)

abbrev pub IsNotAbove : {X : Type 0} → (X → X → Ordering) → X → X → Type 0
IsNotAbove cmp x y = is_lt (cmp y x) ≡ false

pub ascends_sorted : {X : Type 0} (cmp : X → X → Ordering) (xs : List X) → IsAscendingBy (IsNotAbove cmp) xs
    → IsSorted cmp xs
ascends_sorted cmp xs h k d low l =
    subst (λ (i : ℕ). is_lt (cmp (get_or xs i d) (get_or xs k d)) ≡ false) (sym (add-one k))
    (ascends_at (IsNotAbove cmp) xs h k d (omega (arith, add-one k)))

pub ascends_not_decreasing : {X : Type 0} (n : X → ℕ) (xs : List X) → IsAscendingBy (λ x y. n x ≤ n y) xs
    → IsNonDecreasingBy n xs
ascends_not_decreasing n [] h i j d le l = absurd (omega arith)
ascends_not_decreasing n (x ∷ xs) h zero zero d le l = omega arith
ascends_not_decreasing n (x ∷ xs) h zero (suc j) d le l =
    ascends_past (λ x y. n x ≤ n y) (λ x y z p q. omega arith) x xs h j d (omega arith)
ascends_not_decreasing n (x ∷ xs) h (suc i) zero d le l = absurd (omega arith)
ascends_not_decreasing n (x ∷ xs) h (suc i) (suc j) d le l =
    ascends_not_decreasing n xs (ascends_rest (λ x y. n x ≤ n y) x xs h) i j d (omega arith) (omega arith)

-- ---- by one order, then by another

two_ways : (o p : Ordering)
    → (is_lt (ordering_then o p) ≡ false) ⊎ (is_lt (ordering_then (ordering_reverse o) (ordering_reverse p)) ≡ false)
two_ways Less p = inr refl
two_ways Equal Less = inr refl
two_ways Equal Equal = inl refl
two_ways Equal Greater = inl refl
two_ways Greater p = inl refl

pub either_way : {K L : Type 0} (R : K → K → Ordering) (S : L → L → Ordering) → IsTotalOrder R → IsTotalOrder S
    → (a b : K) (c d : L)
    → (is_lt (ordering_then (R b a) (S d c)) ≡ false) ⊎ (is_lt (ordering_then (R a b) (S c d)) ≡ false)
either_way R S total also a b c d = elim (two_ways (R b a) (S d c)) [
  | inl h ↦ inl h
  | inr h ↦ inr
      (subst (λ (o : Ordering). is_lt (ordering_then o (S c d)) ≡ false) (sym (total.antisymm a b))
      (subst (λ (o : Ordering). is_lt (ordering_then (ordering_reverse (R b a)) o) ≡ false)
      (sym (also.antisymm c d)) h))
]
