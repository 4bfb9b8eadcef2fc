-- Lists of items with distinct numbers: what a search finds, and what permutations preserve.
use Rattle.std.proofs.Common.{◌≡◌, ◌≢◌, ℕ, zero, suc, ◌<◌, ◌≤◌, ◌==◌, nat_eq, Bool, true, false, List, [], ◌∷◌, map}
use Rattle.std.proofs.Common.{length, get_or, Some, None, refl, ap, sym, ◌∙◌, arith, ◌⊎◌, inl, inr, Result, Ok, Err}
use Rattle.std.proofs.Common.{IsTrue, is_ok, ◌↔◌, slice_get}
use Rattle.std.specs.List.{find, Contains, IsDistinct}
use Rattle.std.specs.List.Sorted.{IsPermutation, IsNonDecreasingBy, IsPartitionPoint, IsBinarySearchResult, IsSearchInRange}
use Rattle.std.specs.Ordering.{nat_cmp, ordering_index}
use Rattle.std.specs.declared.cmp.Ordering.TheVariants.{Less, Equal, Greater}
use Rattle.std.proofs.lemmas.Bool.{eq-eqb, cases_lt, ne_eqb, eqb-false, eqb-true}
use Rattle.std.proofs.lemmas.Map.Keys.{apart_from_distinct, IsDistinct-IsPermutation, IsDistinct-tail}
use Rattle.std.proofs.lemmas.Cmp.{nat_eq_equiv}
use Rattle.std.proofs.lemmas.List.Elements.{Contains-get_or}
use Rattle.std.proofs.lemmas.Option.{slice_get-get_or}
use Rattle.std.proofs.lemmas.List.Sorted.{IsPermutation-map, IsPermutation-sym, Contains-permutation}

-- no two items have the same number
abbrev pub IsKeyed : {X : Type 0} → (X → ℕ) → List X → Type 0
IsKeyed key xs = IsDistinct nat_eq (map key xs)

pub get-map : {X : Type 0} (key : X → ℕ) (xs : List X) (i : ℕ) (d : X) (e : ℕ) → i < length xs → get_or (map key xs) i e ≡ key (get_or xs i d)
get-map key [] i d e within = absurd (omega arith)
get-map key (x ∷ xs) zero d e within = refl
get-map key (x ∷ xs) (suc i) d e within = get-map key xs i d e (omega arith)

pub length-keys : {X : Type 0} (key : X → ℕ) (xs : List X) → length (map key xs) ≡ length xs
length-keys key [] = refl
length-keys key (x ∷ xs) = ap suc (length-keys key xs)

-- the first of keyed items differs from each other one
pub first_apart : {X : Type 0} (key : X → ℕ) (x : X) (xs : List X) (i : ℕ) (d : X) → IsKeyed key (x ∷ xs) → i < length xs → (key x == key (get_or xs i d)) ≡ false
first_apart key x xs i d keyed within =
    let there : suc i < length (map key (x ∷ xs)) = let e = length-keys key xs in omega arith in
    let apart = apart_from_distinct nat_eq (map key (x ∷ xs)) 0 (suc i) 0 keyed (omega arith) there in
    rw (sym (get-map key xs i d 0 within)) apart

pub keyed-tail : {X : Type 0} (key : X → ℕ) (x : X) (xs : List X) → IsKeyed key (x ∷ xs) → IsKeyed key xs
keyed-tail key x xs keyed = IsDistinct-tail nat_eq (key x) (map key xs) keyed

pub find-at : {X : Type 0} (key : X → ℕ) (xs : List X) (n i : ℕ) (d : X) → IsKeyed key xs → i < length xs
    → key (get_or xs i d) ≡ n → find (λ x. key x == n) xs ≡ Some (get_or xs i d)
find-at key [] n i d keyed within is = absurd (omega arith)
find-at key (x ∷ xs) n zero d keyed within is = rw (eq-eqb (key x) n is) refl
find-at key (x ∷ xs) n (suc i) d keyed within is =
    let apart : (key x == n) ≡ false = rw (sym is) (first_apart key x xs i d keyed (omega arith)) in
    rw apart (find-at key xs n i d (keyed-tail key x xs keyed) (omega arith) is)

pub find-none : {X : Type 0} (key : X → ℕ) (xs : List X) (n : ℕ) → ((i : ℕ) (d : X) → i < length xs → key (get_or xs i d) ≢ n) → find (λ x. key x == n) xs ≡ None
find-none key [] n none = refl
find-none key (x ∷ xs) n none =
    rw (ne_eqb (key x) n (none 0 x (omega arith))) (find-none key xs n (λ i d within. none (suc i) d (omega arith)))

index_rises : (a b n : ℕ) → a ≤ b → ordering_index (nat_cmp a n) ≤ ordering_index (nat_cmp b n)
index_rises a b n le = grind arith

differs_less : (a b : ℕ) → nat_cmp a b ≡ Less → a ≢ b
differs_less a b e same = grind arith

differs_greater : (a b : ℕ) → nat_cmp a b ≡ Greater → a ≢ b
differs_greater a b e same = grind arith

equal_is : (a b : ℕ) → nat_cmp a b ≡ Equal → a ≡ b
equal_is a b e = grind arith

-- what a search by number found
pub find-searched : {X : Type 0} (key : X → ℕ) (xs : List X) (n i : ℕ) (x : X) → IsKeyed key xs → i < length xs
    → ((d : X) → nat_cmp (key (get_or xs i d)) n ≡ Equal) → x ≡ get_or xs i x → find (λ y. key y == n) xs ≡ Some x
find-searched key xs n i x keyed within equal is =
    find-at key xs n i x keyed within (equal_is (key (get_or xs i x)) n (equal x)) ∙ ap Some (sym is)

-- what a search by number in a sorted list didn't find
pub find-missed : {X : Type 0} (key : X → ℕ) (xs : List X) (n i : ℕ) → IsNonDecreasingBy key xs
    → (IsNonDecreasingBy (λ x. ordering_index (nat_cmp (key x) n)) xs
    → IsPartitionPoint (λ x. nat_cmp (key x) n ≡ Less) (λ x. nat_cmp (key x) n ≡ Greater) xs i)
    → find (λ x. key x == n) xs ≡ None
find-missed key xs n i up parts =
    let point = parts (λ i j d le within. index_rises (key (get_or xs i d)) (key (get_or xs j d)) n (up i j d le within)) in
    find-none key xs n (λ k d within. elim (cases_lt k i) [
      | inl lt ↦ differs_less (key (get_or xs k d)) n (point.0 k d (omega arith) lt)
      | inr le ↦ differs_greater (key (get_or xs k d)) n (point.1 k d le within)
    ])

pub bool_cases : (b : Bool) → (b ≡ true) ⊎ (b ≡ false)
bool_cases true = inl refl
bool_cases false = inr refl

none_more : {X : Type 0} (key : X → ℕ) (x : X) (xs : List X) (n : ℕ) → key x ≢ n
    → ((i : ℕ) (d : X) → i < length xs → key (get_or xs i d) ≢ n) → (i : ℕ) (d : X) → i < length (x ∷ xs)
    → key (get_or (x ∷ xs) i d) ≢ n
none_more key x xs n other none zero d within = other
none_more key x xs n other none (suc i) d within = none i d (omega arith)

-- an item with this number is in the list, or none is
pub there_or_not : {X : Type 0} (key : X → ℕ) (xs : List X) (n : ℕ)
    → ((x : X) × Contains xs x × (key x ≡ n)) ⊎ ((i : ℕ) (d : X) → i < length xs → key (get_or xs i d) ≢ n)
there_or_not key [] n = inr (λ i d within. absurd (omega arith))
there_or_not key (x ∷ xs) n = elim (bool_cases (key x == n)) [
  | inl same ↦ inl (x, (0, omega arith, refl), eqb-true (key x) n same)
  | inr other ↦ elim (there_or_not key xs n) [
    | inl found ↦ inl (found.0, (suc found.1.0, omega (arith, found.1.1), found.1.2), found.2)
    | inr none ↦ inr (none_more key x xs n (eqb-false (key x) n other) none)
  ]
]

-- the item with this number is found
pub find-contained : {X : Type 0} (key : X → ℕ) (xs : List X) (n : ℕ) (x : X) → IsKeyed key xs → Contains xs x → key x ≡ n → find (λ y. key y == n) xs ≡ Some x
find-contained key xs n x keyed there is =
    find-at key xs n there.0 x keyed there.1 (ap key there.2 ∙ is) ∙ ap Some there.2

pub keyed-moved : {X : Type 0} (key : X → ℕ) (xs ys : List X) → IsPermutation xs ys → IsKeyed key xs → IsKeyed key ys
keyed-moved key xs ys moved keyed =
    IsDistinct-IsPermutation nat_eq (nat_eq_equiv).symm (map key xs) (map key ys) (IsPermutation-map key xs ys moved) keyed

-- permutations preserve what is found
pub find-moved : {X : Type 0} (key : X → ℕ) (xs ys : List X) (n : ℕ) → IsPermutation xs ys → IsKeyed key xs → find (λ x. key x == n) ys ≡ find (λ x. key x == n) xs
find-moved key xs ys n moved keyed = elim (there_or_not key xs n) [
  | inl found ↦
      find-contained key ys n found.0 (keyed-moved key xs ys moved keyed) (Contains-permutation xs ys found.0 moved found.1) found.2
      ∙ sym (find-contained key xs n found.0 keyed found.1 found.2)
  | inr none ↦
      find-none key ys n (λ i d within is.
      let there = Contains-permutation ys xs (get_or ys i d) (IsPermutation-sym xs ys moved) (Contains-get_or ys i d within) in
      none there.0 (get_or ys i d) there.1 (ap key there.2 ∙ is))
      ∙ sym (find-none key xs n none)
]

-- each number in the list of numbers has an item
pub keys_have : {X : Type 0} (key : X → ℕ) (xs : List X) (n k : ℕ) → k < length (map key xs) → get_or (map key xs) k n ≡ n → (x : X) × Contains xs x × (key x ≡ n)
keys_have key [] n k within is = absurd (omega arith)
keys_have key (x ∷ xs) n zero within is = (x, (0, omega arith, refl), is)
keys_have key (x ∷ xs) n (suc k) within is =
    let found = keys_have key xs n k (omega arith) is in
    (found.0, (suc found.1.0, omega (arith, found.1.1), found.1.2), found.2)

-- if a search by number in a sorted list found none, no item has the number
none_missed : {X : Type 0} (key : X → ℕ) (xs : List X) (n i : ℕ) → IsNonDecreasingBy key xs
    → (IsNonDecreasingBy (λ x. ordering_index (nat_cmp (key x) n)) xs
    → IsPartitionPoint (λ x. nat_cmp (key x) n ≡ Less) (λ x. nat_cmp (key x) n ≡ Greater) xs i)
    → (k : ℕ) (d : X) → k < length xs → key (get_or xs k d) ≢ n
none_missed key xs n i up parts k d within =
    let point = parts (λ i j d le within. index_rises (key (get_or xs i d)) (key (get_or xs j d)) n (up i j d le within)) in
    elim (cases_lt k i) [
      | inl lt ↦ differs_less (key (get_or xs k d)) n (point.0 k d (omega arith) lt)
      | inr le ↦ differs_greater (key (get_or xs k d)) n (point.1 k d le within)
    ]

-- a search by number returns whether the number is in the list
pub search_tells : {X : Type 0} (key : X → ℕ) (xs : List X) (n : ℕ) (r : Result ℕ ℕ) → IsNonDecreasingBy key xs
    → IsSearchInRange r (length xs) → IsBinarySearchResult (λ x. nat_cmp (key x) n) xs r → IsTrue (is_ok r)
    ↔ Contains (map key xs) n
search_tells key xs n (Ok i) up bound found = (λ _. there key xs n i bound found, λ _. refl)
  where
    there : {X : Type 0} (key : X → ℕ) (xs : List X) (n i : ℕ) → i < length xs → ((d : X) → nat_cmp (key (get_or xs i d)) n ≡ Equal) → Contains (map key xs) n
    there key [] n i within equal = absurd (omega arith)
    there key (x ∷ xs) n i within equal = (i, let e = length-keys key (x ∷ xs) in omega arith, get-map key (x ∷ xs) i x n within ∙ equal_is (key (get_or (x ∷ xs) i x)) n (equal x))
search_tells key xs n (Err i) up bound parts = (
  λ no. absurd cc,
  λ there.
      let found = keys_have key xs n there.0 there.1 there.2 in
      absurd (none_missed key xs n i up parts found.1.0 found.0 found.1.1 (ap key found.1.2 ∙ found.2)),
)

-- the item at the index that a search by number found is the one with that number
pub find-place : {X : Type 0} (key : X → ℕ) (xs : List X) (n i : ℕ) → IsKeyed key xs → i < length xs
    → ((d : X) → nat_cmp (key (get_or xs i d)) n ≡ Equal) → slice_get xs i ≡ find (λ x. key x == n) xs
find-place key [] n i keyed within equal = absurd (omega arith)
find-place key (x ∷ xs) n i keyed within equal =
    slice_get-get_or (x ∷ xs) i x within ∙ sym (find-at key (x ∷ xs) n i x keyed within (equal_is (key (get_or (x ∷ xs) i x)) n (equal x)))
