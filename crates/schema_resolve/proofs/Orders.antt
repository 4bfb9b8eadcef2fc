-- Sorted lists, and lists without repeated elements.
use Rattle.std.proofs.Common.{◌≡◌, ◌≢◌, ℕ, zero, suc, ◌+◌, ◌<◌, inl, inr, false, List, [], ◌∷◌, ◌++◌, length, get_or}
use Rattle.std.proofs.Common.{set, take, map, refl, sym, ap, ◌∙◌, subst, arith, add-one, length-set}
use Rattle.std.specs.Prelude.{Contains, All, Some, slice_get}
use Rattle.std.specs.Borrow.{Bor}
use Rattle.std.specs.List.{swap}
use Rattle.std.specs.List.Sorted.{IsPermutation, IsSorted}
use Rattle.std.specs.Cmp.{IsTotalOrder}
use Rattle.std.specs.Cmp.Lexicographic.{slice_cmp}
use Rattle.std.specs.Ordering.{is_lt, nat_cmp, ordering_then, ordering_reverse}
use Rattle.std.specs.declared.cmp.Ordering.{Ordering}
use Rattle.std.specs.declared.cmp.Ordering.TheVariants.{Less, Equal, Greater}
use Rattle.std.proofs.lemmas.Bool.{false≢true, cases_eq, cases_lt}
use Rattle.std.proofs.lemmas.Cmp.{tied_itself, nat_list_cmp_total}
use Rattle.std.proofs.lemmas.Map.Lookups.{exact_bytes}
use Rattle.std.proofs.lemmas.Option.{slice_get_within, get_or_from_slice_get, slice_get-get_or}
use Rattle.std.proofs.lemmas.List.{get_or_default, get_or-map, take_all, take_more, length-map, map-append, get_or-set_same, get_or-set_other}
use Rattle.std.proofs.lemmas.List.Edits.{swapped_from_swap, length-swap}
use Rattle.std.proofs.lemmas.List.Elements.{All-map, All-weaker, All-push, Contains-append_left, Contains-push}
use Rattle.std.proofs.lemmas.List.Sorted.{IsPermutation-keeps, IsPermutation-map, length_permutation, All-permutation, Contains-permutation}
use Rattle.mrpc_table.specs.Valid.{IsAscendingBy, AreDistinct, IsBelow}
use Rattle.schema_resolve.specs.Placing.{name_at_index, IsOrder, IsPermutationOfIndices, AreInverseIndices}

-- ---- no repeated elements

abbrev pub AreApart : {X : Type 0} → List X → Type 0
AreApart {X} xs =
    (i j : ℕ) (d : X) → i < length xs → j < length xs → get_or xs i d ≡ get_or xs j d → i ≡ j

pub distinct_apart : {X : Type 0} (xs : List X) → AreDistinct xs → AreApart xs
distinct_apart [] h i j d a b e = absurd (omega arith)
distinct_apart (x ∷ xs) h zero zero d a b e = refl
distinct_apart {X} (x ∷ xs) h zero (suc j) d a b e =
    let l : j < length xs = omega arith in
    let same : get_or xs j x ≡ x = get_or_default xs j x d l ∙ sym e in
    absurd (h.0 (j, l, same))
distinct_apart {X} (x ∷ xs) h (suc i) zero d a b e =
    let l : i < length xs = omega arith in
    let same : get_or xs i x ≡ x = get_or_default xs i x d l ∙ e in
    absurd (h.0 (i, l, same))
distinct_apart (x ∷ xs) h (suc i) (suc j) d a b e =
    ap suc (distinct_apart xs h.1 i j d (omega arith) (omega arith) e)

pub apart_distinct : {X : Type 0} (xs : List X) → AreApart xs → AreDistinct xs
apart_distinct [] h = tt
apart_distinct (x ∷ xs) h = (
  λ c. let e : 0 ≡ suc c.0 = h 0 (suc c.0) x (omega arith) (omega (arith, c.1)) (sym c.2) in omega arith,
  apart_distinct xs
      (λ i j d a b e. let f : suc i ≡ suc j = h (suc i) (suc j) d (omega arith) (omega arith) e in omega arith),
)

data Moved (a b k j : ℕ) : Type 0 where
  first : k ≡ a → j ≡ b → Moved a b k j
  second : k ≢ a → k ≡ b → j ≡ a → Moved a b k j
  neither : k ≢ a → k ≢ b → j ≡ k → Moved a b k j

moved_one : (a b i j p q : ℕ) → Moved a b i p → Moved a b j q → p ≡ q → i ≡ j
moved_one a b i j p q (first e f) (first g h) s = omega arith
moved_one a b i j p q (first e f) (second m g h) s = omega arith
moved_one a b i j p q (first e f) (neither m n h) s = omega arith
moved_one a b i j p q (second k e f) (first g h) s = omega arith
moved_one a b i j p q (second k e f) (second m g h) s = omega arith
moved_one a b i j p q (second k e f) (neither m n h) s = omega arith
moved_one a b i j p q (neither k l e) (first g h) s = omega arith
moved_one a b i j p q (neither k l e) (second m g h) s = omega arith
moved_one a b i j p q (neither k l e) (neither m n h) s = omega arith

moved_from : {X : Type 0} (xs : List X) (a b k : ℕ) (d : X) → a < length xs → b < length xs → k < length xs
    → (j : ℕ) × (j < length xs) × Moved a b k j × (get_or (swap xs a b) k d ≡ get_or xs j d)
moved_from xs a b k d la lb lk =
    let s = swapped_from_swap xs (swap xs a b) a b d la lb refl in
    elim (cases_eq k a) [
      | inl e ↦ (b, lb, first e refl, ap (λ (m : ℕ). get_or (swap xs a b) m d) e ∙ s.0)
      | inr n ↦ elim (cases_eq k b) [
        | inl e ↦ (a, la, second n e refl, ap (λ (m : ℕ). get_or (swap xs a b) m d) e ∙ s.1)
        | inr o ↦ (k, lk, neither n o refl, s.2 k n o)
      ]
    ]

apart_swap : {X : Type 0} (xs : List X) (a b : ℕ) → a < length xs → b < length xs → AreApart xs → AreApart (swap xs a b)
apart_swap xs a b la lb h i j d hi hj e =
    let li : i < length xs = omega (arith, length-swap xs a b) in
    let lj : j < length xs = omega (arith, length-swap xs a b) in
    let p = moved_from xs a b i d la lb li in
    let q = moved_from xs a b j d la lb lj in
    moved_one a b i j p.0 q.0 p.2 q.2 (h p.0 q.0 d p.1 q.1 (sym p.3 ∙ e ∙ q.3))

pub apart_moved : {X : Type 0} (xs ys : List X) → IsPermutation xs ys → AreApart xs → AreApart ys
apart_moved xs ys p h = IsPermutation-keeps xs (λ zs. AreApart zs) h (λ zs a b la lb k. apart_swap zs a b la lb k) ys p

-- ---- each one in relation to the next

pub ascends_from : {X : Type 0} (R : X → X → Type 0) (xs : List X)
    → ((k : ℕ) (d : X) → suc k < length xs → R (get_or xs k d) (get_or xs (suc k) d)) → IsAscendingBy R xs
ascends_from R [] h = tt
ascends_from R (x ∷ []) h = tt
ascends_from R (x ∷ y ∷ xs) h =
    (h 0 x (omega arith), ascends_from R (y ∷ xs) (λ k d l. h (suc k) d (omega arith)))

pub ascends_past : {X : Type 0} (R : X → X → Type 0) → ((x y z : X) → R x y → R y z → R x z) → (x : X) (xs : List X)
    → IsAscendingBy R (x ∷ xs) → (k : ℕ) (d : X) → k < length xs → R x (get_or xs k d)
ascends_past R trans x [] h k d l = absurd (omega arith)
ascends_past R trans x (y ∷ xs) h zero d l = h.0
ascends_past R trans x (y ∷ xs) h (suc k) d l =
    trans x y (get_or xs k d) h.0 (ascends_past R trans y xs h.1 k d (omega arith))

pub ascends_rest : {X : Type 0} (R : X → X → Type 0) (x : X) (xs : List X) → IsAscendingBy R (x ∷ xs) → IsAscendingBy R xs
ascends_rest R x [] h = tt
ascends_rest R x (y ∷ xs) h = h.1

-- a list that ascends by a strict order has no repeated element
pub ascends_apart : {X : Type 0} (R : X → X → Type 0) → ((x y z : X) → R x y → R y z → R x z)
    → ((x : X) → R x x → ⊥) → (xs : List X) → IsAscendingBy R xs → AreApart xs
ascends_apart R trans strict [] h i j d a b e = absurd (omega arith)
ascends_apart R trans strict (x ∷ xs) h zero zero d a b e = refl
ascends_apart R trans strict (x ∷ xs) h zero (suc j) d a b e =
    absurd (strict x (subst (R x) (sym e) (ascends_past R trans x xs h j d (omega arith))))
ascends_apart R trans strict (x ∷ xs) h (suc i) zero d a b e =
    absurd (strict x (subst (R x) e (ascends_past R trans x xs h i d (omega arith))))
ascends_apart R trans strict (x ∷ xs) h (suc i) (suc j) d a b e =
    ap suc (ascends_apart R trans strict xs (ascends_rest R x xs h) i j d (omega arith) (omega arith) e)

-- ---- a strict order

less_at : (o p rest : Ordering) → p ≡ ordering_reverse o → (o ≡ Equal → ⊥) → is_lt (ordering_then o rest) ≡ false
    → p ≡ Less
less_at Less p rest e apart not_less = absurd (false≢true (sym not_less))
less_at Equal p rest e apart not_less = absurd (apart refl)
less_at Greater p rest e apart not_less = e

-- two elements that compare as not greater and not equal ascend
pub less_from : {K : Type 0} (R : K → K → Ordering) → IsTotalOrder R → (a b : K) (rest : Ordering)
    → (R b a ≡ Equal → ⊥) → is_lt (ordering_then (R b a) rest) ≡ false → R a b ≡ Less
less_from R total a b rest apart not_less =
    less_at (R b a) (R a b) rest (total.antisymm a b) apart not_less

plain_at : (o p : Ordering) → p ≡ ordering_reverse o → (o ≡ Equal → ⊥) → is_lt o ≡ false → p ≡ Less
plain_at Less p e apart not_less = absurd (false≢true (sym not_less))
plain_at Equal p e apart not_less = absurd (apart refl)
plain_at Greater p e apart not_less = e

pub less_plain : {K : Type 0} (R : K → K → Ordering) → IsTotalOrder R → (a b : K) → (R b a ≡ Equal → ⊥)
    → is_lt (R b a) ≡ false → R a b ≡ Less
less_plain R total a b apart not_less = plain_at (R b a) (R a b) (total.antisymm a b) apart not_less

pub below_trans : (a b c : List ℕ) → IsBelow a b → IsBelow b c → IsBelow a c
below_trans a b c p q = nat_list_cmp_total.trans a b c p q

pub below_strict : (a : List ℕ) → IsBelow a a → ⊥
below_strict a p = let e : Less ≡ Equal = sym p ∙ tied_itself nat_list_cmp_total a in cc

-- ---- names with their indices

abbrev pub AreNamed : List (List ℕ) → List (Bor (List ℕ) × ℕ) → Type 0
AreNamed names pairs = All (λ p. (p.1 < length names) × (p.0.now ≡ name_at_index names p.1)) pairs

abbrev pub number_of : Bor (List ℕ) × ℕ → ℕ
number_of p = p.1

abbrev pub text_in : Bor (List ℕ) × ℕ → List ℕ
text_in p = p.0.now

pub record AreKnown (names : List (List ℕ)) (i : ℕ) (pairs : List (Bor (List ℕ) × ℕ)) : Type 0 where
  pub texts : map text_in pairs ≡ take i names
  pub named : AreNamed names pairs
  pub all : (k : ℕ) → k < i → Contains (map number_of pairs) k

pub known_none : (names : List (List ℕ)) (pairs : List (Bor (List ℕ) × ℕ)) → pairs ≡ [] → AreKnown names 0 pairs
known_none names pairs e = subst (AreKnown names 0) (sym e) (record {
  texts = refl;
  named = λ k d l. absurd (omega arith);
  all = λ k l. absurd (omega arith);
})

pub known_more : (names : List (List ℕ)) (i : ℕ) (name : Bor (List ℕ)) (pairs more : List (Bor (List ℕ) × ℕ))
    → i < length names → name.now ≡ get_or names i name.now → more ≡ pairs ++ (name, i) ∷ [] → AreKnown names i pairs
    → AreKnown names (i + 1) more
known_more names i name pairs more l is e h =
    let at : name.now ≡ name_at_index names i = is ∙ get_or_default names i name.now [] l in
    subst (AreKnown names (i + 1)) (sym e) (record {
      texts = map-append text_in pairs ((name, i) ∷ []) ∙ ap (λ ns. ns ++ name.now ∷ []) h.texts
          ∙ ap (λ (n : List ℕ). take i names ++ n ∷ []) is ∙ sym (take_more names i name.now l);
      named = All-push (λ (p : Bor (List ℕ) × ℕ). (p.1 < length names) × (p.0.now ≡ name_at_index names p.1)) pairs (name, i)
          h.named (l, at);
      all = λ k m. subst (λ (ns : List ℕ). Contains ns k) (sym (map-append number_of pairs ((name, i) ∷ [])))
          (elim (cases_lt k i) [
            | inl old ↦ Contains-append_left (map number_of pairs) (i ∷ []) k (h.all k old)
            | inr new ↦
                let s : i ≡ k = omega arith in
                subst (Contains (map number_of pairs ++ i ∷ [])) s (Contains-push (map number_of pairs) i)
          ]);
    })

pub element : {X : Type 0} (xs : List X) (i : ℕ) → i < length xs → (x : X) × ((d : X) → get_or xs i d ≡ x)
element [] i l = absurd (omega arith)
element (x ∷ xs) zero l = (x, λ d. refl)
element (x ∷ xs) (suc i) l = element xs i (omega arith)

abbrev pub pair_cmp : Bor (List ℕ) × ℕ → Bor (List ℕ) × ℕ → Ordering
pair_cmp p q = ordering_then (slice_cmp nat_cmp p.0.now q.0.now) (nat_cmp p.1 q.1)

order_step : (names : List (List ℕ)) (sorted : List (Bor (List ℕ) × ℕ)) → AreNamed names sorted
    → AreApart (map text_in sorted) → IsSorted pair_cmp sorted → (k d : ℕ) → suc k < length sorted
    → IsBelow (name_at_index names (get_or (map number_of sorted) k d))
    (name_at_index names (get_or (map number_of sorted) (suc k) d))
order_step names sorted named apart ascends k d m =
    let n : k < length sorted = omega arith in
    let x = element sorted k n in
    let y = element sorted (suc k) m in
    let xn : x.0.0.now ≡ name_at_index names x.0.1 =
    subst (λ (p : Bor (List ℕ) × ℕ). p.0.now ≡ name_at_index names p.1) (x.1 x.0) (named k x.0 n).1 in
    let yn : y.0.0.now ≡ name_at_index names y.0.1 =
    subst (λ (p : Bor (List ℕ) × ℕ). p.0.now ≡ name_at_index names p.1) (y.1 y.0) (named (suc k) y.0 m).1 in
    let xi : get_or (map number_of sorted) k d ≡ x.0.1 =
    get_or-map number_of sorted k x.0 d n ∙ ap number_of (x.1 x.0) in
    let yi : get_or (map number_of sorted) (suc k) d ≡ y.0.1 =
    get_or-map number_of sorted (suc k) y.0 d m ∙ ap number_of (y.1 y.0) in
    let xt : get_or (map text_in sorted) k [] ≡ x.0.0.now =
    get_or-map text_in sorted k x.0 [] n ∙ ap text_in (x.1 x.0) in
    let yt : get_or (map text_in sorted) (suc k) [] ≡ y.0.0.now =
    get_or-map text_in sorted (suc k) y.0 [] m ∙ ap text_in (y.1 y.0) in
    let apart_here : slice_cmp nat_cmp y.0.0.now x.0.0.now ≡ Equal → ⊥ =
    λ e. let f : y.0.0.now ≡ x.0.0.now = exact_bytes y.0.0.now x.0.0.now e in
    let g : suc k ≡ k = apart (suc k) k [] (omega (arith, length-map sorted text_in))
    (omega (arith, length-map sorted text_in)) (yt ∙ f ∙ sym xt) in
    omega arith in
    let less : is_lt (pair_cmp y.0 x.0) ≡ false =
    subst (λ (p : Bor (List ℕ) × ℕ). is_lt (pair_cmp y.0 p) ≡ false) (x.1 x.0)
    (subst (λ (p : Bor (List ℕ) × ℕ). is_lt (pair_cmp p (get_or sorted k x.0)) ≡ false) (y.1 x.0)
    (subst (λ (i : ℕ). is_lt (pair_cmp (get_or sorted i x.0) (get_or sorted k x.0)) ≡ false) (add-one k)
    (ascends k x.0 (omega arith) (omega (arith, add-one k))))) in
    let below : IsBelow x.0.0.now y.0.0.now =
    less_from (slice_cmp nat_cmp) nat_list_cmp_total x.0.0.now y.0.0.now (nat_cmp y.0.1 x.0.1) apart_here less in
    subst (λ (i : ℕ). IsBelow (name_at_index names i) (name_at_index names (get_or (map number_of sorted) (suc k) d))) (sym xi)
    (subst (λ (j : ℕ). IsBelow (name_at_index names x.0.1) (name_at_index names j)) (sym yi)
    (subst (λ (a : List ℕ). IsBelow a (name_at_index names y.0.1)) xn
    (subst (λ (b : List ℕ). IsBelow x.0.0.now b) yn below)))

pub order_of : (names : List (List ℕ)) (pairs sorted : List (Bor (List ℕ) × ℕ)) → AreDistinct names
    → AreKnown names (length names) pairs → IsPermutation pairs sorted → IsSorted pair_cmp sorted
    → IsOrder names (map number_of sorted)
order_of names pairs sorted distinct known moved ascends =
    let same : map text_in pairs ≡ names = known.texts ∙ take_all (length names) names (omega arith) in
    let many : length sorted ≡ length names =
    length_permutation pairs sorted moved ∙ sym (length-map pairs text_in) ∙ ap length same in
    let named : AreNamed names sorted =
    All-permutation (λ (p : Bor (List ℕ) × ℕ). (p.1 < length names) × (p.0.now ≡ name_at_index names p.1)) pairs sorted
    moved known.named in
    let apart : AreApart (map text_in sorted) =
    apart_moved (map text_in pairs) (map text_in sorted) (IsPermutation-map text_in pairs sorted moved)
    (subst (λ (ns : List (List ℕ)). AreApart ns) (sym same) (distinct_apart names distinct)) in
    record {
      count = length-map sorted number_of ∙ many;
      within = All-map (λ (i : ℕ). i < length names) number_of sorted
          (All-weaker (λ (p : Bor (List ℕ) × ℕ). (p.1 < length names) × (p.0.now ≡ name_at_index names p.1))
          (λ (p : Bor (List ℕ) × ℕ). p.1 < length names) (λ p h. h.0) sorted named);
      each = λ i l. Contains-permutation (map number_of pairs) (map number_of sorted) i
          (IsPermutation-map number_of pairs sorted moved) (known.all i l);
      ascend = ascends_from (λ i j. IsBelow (name_at_index names i) (name_at_index names j)) (map number_of sorted)
          (λ k d l. order_step names sorted named apart ascends k d (omega (arith, length-map sorted number_of)));
    }

-- ---- indices

pub order_all : (names : List (List ℕ)) (order : List ℕ) → IsOrder names order → IsPermutationOfIndices order
order_all names order h = record {
  within = subst (λ (n : ℕ). All (λ i. i < n) order) (sym h.count) h.within;
  once = λ j k i a b.
      ascends_apart (λ m n. IsBelow (name_at_index names m) (name_at_index names n))
      (λ x y z p q. below_trans (name_at_index names x) (name_at_index names y) (name_at_index names z) p q)
      (λ x p. below_strict (name_at_index names x) p) order h.ascend j k i
      (slice_get_within order j i a) (slice_get_within order k i b)
      (get_or_from_slice_get order j i i a ∙ sym (get_or_from_slice_get order k i i b));
}

pub record ArePut (order : List ℕ) (n : ℕ) (places : List ℕ) : Type 0 where
  pub count : length places ≡ length order
  pub put : (k i : ℕ) → k < n → slice_get order k ≡ Some i → get_or places i 0 ≡ k

pub put_more : (order : List ℕ) (n i : ℕ) (places more : List ℕ) → IsPermutationOfIndices order → slice_get order n ≡ Some i
    → more ≡ set places i n → ArePut order n places → ArePut order (n + 1) more
put_more order n i places more all at e h =
    let l : i < length places =
    omega (
      arith,
      h.count,
      subst (λ (j : ℕ). j < length order) (get_or_from_slice_get order n i i at)
          (all.within n i (slice_get_within order n i at)),
    ) in
    subst (ArePut order (n + 1)) (sym e) (record {
      count = length-set places i n ∙ h.count;
      put = λ k j m a. elim (cases_lt k n) [
        | inl old ↦
            let apart : j ≢ i = λ s.
            let f : k ≡ n = all.once k n i (subst (λ (q : ℕ). slice_get order k ≡ Some q) s a) at in
            omega arith in
            get_or-set_other places i j n 0 apart ∙ h.put k j old a
        | inr new ↦
            let s : k ≡ n = omega arith in
            let f : Some j ≡ Some i = sym a ∙ ap (slice_get order) s ∙ at in
            let g : j ≡ i = cc in
            ap (λ (q : ℕ). get_or (set places i n) q 0) g ∙ get_or-set_same places i n 0 l ∙ sym s
      ];
    })

pub places_of : (order places : List ℕ) → IsPermutationOfIndices order → ArePut order (length order) places → AreInverseIndices order places
places_of order places all h = record {
  count = h.count;
  back = λ place i a.
      let l : i < length order = subst (λ (j : ℕ). j < length order) (get_or_from_slice_get order place i i a)
      (all.within place i (slice_get_within order place i a)) in
      slice_get-get_or places i 0 (omega (arith, h.count)) ∙ ap Some (h.put place i (slice_get_within order place i a) a);
}
