-- Lists in order and without repetition, one element more at the end; and the tests for both.
use Rattle.std.proofs.Common.{◌≡◌, ℕ, zero, suc, ℤ, ◌-◌, ◌<◌, ◌&&◌, ◌||◌, Bool, true, false, cond, List, [], ◌∷◌}
use Rattle.std.proofs.Common.{◌++◌, length, map, get_or, Option, Some, None, refl, ap, sym, subst, ◌∙◌, arith, inl}
use Rattle.std.proofs.Common.{inr, ◌⊎◌}
use Rattle.std.specs.Prelude.{int_lt}
use Rattle.std.specs.List.{Contains}
use Rattle.std.specs.Option.{option_map_or}
use Rattle.std.specs.Str.{bytes_eq}
use Rattle.std.specs.Ordering.{nat_cmp, int_cmp, int_eq, is_lt, is_eq, ordering_reverse}
use Rattle.std.specs.declared.cmp.Ordering.{Ordering}
use Rattle.std.specs.declared.cmp.Ordering.TheVariants.{Less, Equal, Greater}
use Rattle.std.specs.Cmp.Lexicographic.{slice_cmp}
use Rattle.std.proofs.lemmas.Cmp.{nat_list_cmp_total}
use Rattle.std.proofs.lemmas.Map.Text.{is_eq-slice_cmp}
use Rattle.std.proofs.lemmas.Int.{ints}
use Rattle.std.proofs.lemmas.Option.{slice_get_within, get_or_from_slice_get}
use Rattle.std.proofs.lemmas.List.Elements.{Contains-append_right, Contains-push_cases}
use Rattle.mrpc_table.specs.Valid.{IsAscendingBy, AreDistinct, IsBelow, IsValueBelow}
use Rattle.table_text.specs.LineTests.{is_below, is_among, is_below_last, last_of, is_value_below}
use Rattle.table_text.specs.declared.line.EnumNumber.TheVariants.{Within}
use Rattle.table_text.proofs.Clean.{left_no, right_no}
use Rattle.table_text.proofs.PlaceLemmas.{same_bytes, bytes_same}

pub or_true : (b : Bool) → (b || true) ≡ true
or_true true = refl
or_true false = refl

-- ---- the last element

last_later : {X : Type 0} (x y : X) (ys : List X) → last_of (x ∷ y ∷ ys) ≡ last_of (y ∷ ys)
last_later x y ys = let e : length (x ∷ y ∷ ys) - 1 ≡ suc (length (y ∷ ys) - 1) = omega arith in rw e refl

pub last_push : {X : Type 0} (xs : List X) (x : X) → last_of (xs ++ x ∷ []) ≡ Some x
last_push [] x = refl
last_push (y ∷ []) x = refl
last_push (y ∷ z ∷ zs) x = last_later y z (zs ++ x ∷ []) ∙ last_push (z ∷ zs) x

-- ---- order

pub ascends_push : {X : Type 0} (R : X → X → Type 0) (xs : List X) (y : X) → IsAscendingBy R xs → ((x : X) → last_of xs ≡ Some x → R x y) → IsAscendingBy R (xs ++ y ∷ [])
ascends_push R [] y up last = tt
ascends_push R (x ∷ []) y up last = (last x refl, tt)
ascends_push R (x ∷ z ∷ zs) y up last = (up.0, ascends_push R (z ∷ zs) y up.1 (λ w e. last w (last_later x z zs ∙ e)))

pub ascends_split : {X : Type 0} (R : X → X → Type 0) (xs : List X) (y : X) (ys : List X) → IsAscendingBy R (xs ++ y ∷ ys) → (x : X) → last_of xs ≡ Some x → R x y
ascends_split R [] y ys up x e = absurd cc
ascends_split R (w ∷ []) y ys up x e = let same : w ≡ x = cc in subst (λ v. R v y) same up.0
ascends_split R (w ∷ z ∷ zs) y ys up x e = ascends_split R (z ∷ zs) y ys up.1 x (sym (last_later w z zs) ∙ e)

pub ascends_map : {X Y : Type 0} (R : Y → Y → Type 0) (f : X → Y) (xs : List X) → IsAscendingBy R (map f xs) → IsAscendingBy (λ a b. R (f a) (f b)) xs
ascends_map R f [] up = tt
ascends_map R f (x ∷ []) up = tt
ascends_map R f (x ∷ y ∷ ys) up = (up.0, ascends_map R f (y ∷ ys) up.1)

pub map_ascends : {X Y : Type 0} (R : Y → Y → Type 0) (f : X → Y) (xs : List X) → IsAscendingBy (λ a b. R (f a) (f b)) xs → IsAscendingBy R (map f xs)
map_ascends R f [] up = tt
map_ascends R f (x ∷ []) up = tt
map_ascends R f (x ∷ y ∷ ys) up = (up.0, map_ascends R f (y ∷ ys) up.1)

-- ---- repetition

pub contains_first : {X : Type 0} (x : X) (xs : List X) → Contains (x ∷ xs) x
contains_first x xs = (0, omega arith, refl)

pub contains_later : {X : Type 0} (x y : X) (xs : List X) → Contains xs y → Contains (x ∷ xs) y
contains_later x y xs h = (suc h.0, omega (arith, h.1), h.2)

pub contains_nothing : {X : Type 0} (x : X) → Contains [] x → ⊥
contains_nothing x h = omega (arith, h.1)

placed : {X : Type 0} (x y : X) (xs : List X) (k : ℕ) → k < length (x ∷ xs) → get_or (x ∷ xs) k y ≡ y → (x ≡ y) ⊎ Contains xs y
placed x y xs zero within is = inl is
placed x y xs (suc k) within is = inr (k, omega arith, is)

pub contains_cases : {X : Type 0} (x y : X) (xs : List X) → Contains (x ∷ xs) y → (x ≡ y) ⊎ Contains xs y
contains_cases x y xs h = placed x y xs h.0 h.1 h.2

pub distinct_push : {X : Type 0} (xs : List X) (y : X) → AreDistinct xs → (Contains xs y → ⊥) → AreDistinct (xs ++ y ∷ [])
distinct_push [] y d new = (contains_nothing y, tt)
distinct_push (x ∷ xs) y d new = (
  λ h. elim (Contains-push_cases xs y x h) [ inl old ↦ d.0 old | inr same ↦ new (subst (λ z. Contains (x ∷ xs) z) (sym same) (contains_first x xs)) ],
  distinct_push xs y d.1 (λ h. new (contains_later x y xs h)),
)

pub distinct_split : {X : Type 0} (xs : List X) (y : X) (ys : List X) → AreDistinct (xs ++ y ∷ ys) → Contains xs y → ⊥
distinct_split [] y ys d h = contains_nothing y h
distinct_split (x ∷ xs) y ys d h =
    elim (contains_cases x y xs h) [
      | inl same ↦ d.0 (Contains-append_right xs (y ∷ ys) x (subst (λ z. Contains (y ∷ ys) z) (sym same) (contains_first y ys)))
      | inr old ↦ distinct_split xs y ys d.1 old
    ]

pub contains_among : (n : List ℕ) (ns : List (List ℕ)) → Contains ns n → is_among n ns ≡ true
contains_among n [] h = absurd (contains_nothing n h)
contains_among n (m ∷ ns) h =
    elim (contains_cases m n ns h) [
      | inl same ↦ let e : bytes_eq n m ≡ true = bytes_same n m (sym same) in rw e refl
      | inr old ↦ let e : is_among n ns ≡ true = contains_among n ns old in rw e (or_true (bytes_eq n m))
    ]

pub among_contains : (n : List ℕ) (ns : List (List ℕ)) → is_among n ns ≡ true → Contains ns n
among_contains n [] e = absurd cc
among_contains n (m ∷ ns) e =
    elim (bytes_eq n m) as (λ (b : Bool). bytes_eq n m ≡ b → (b || is_among n ns) ≡ true → Contains (m ∷ ns) n) [
      | true ↦ λ is f. subst (λ v. Contains (m ∷ ns) v) (sym (same_bytes n m is)) (contains_first m ns)
      | false ↦ λ is f. contains_later m n ns (among_contains n ns f)
    ] refl e

pub not_among : (n : List ℕ) (ns : List (List ℕ)) → is_among n ns ≡ false → Contains ns n → ⊥
not_among n ns e h = let clash : true ≡ false = sym (contains_among n ns h) ∙ e in cc

pub false_or : (b : Bool) → (b ≡ true → ⊥) → b ≡ false
false_or true h = absurd (h refl)
false_or false h = refl

pub among_not : (n : List ℕ) (ns : List (List ℕ)) → (Contains ns n → ⊥) → is_among n ns ≡ false
among_not n ns h = false_or (is_among n ns) (λ e. h (among_contains n ns e))

-- ---- names in order

below_other : (o : Ordering) → is_lt o ≡ false → is_eq o ≡ false → ordering_reverse o ≡ Less
below_other Less e f = absurd cc
below_other Equal e f = absurd cc
below_other Greater e f = refl

pub is_above : (n m : List ℕ) → is_below n m ≡ false → bytes_eq n m ≡ false → IsBelow m n
is_above n m e f = nat_list_cmp_total.antisymm m n ∙ below_other (slice_cmp nat_cmp n m) e (is_eq-slice_cmp n m ∙ f)

reversed_less : (o : Ordering) → ordering_reverse o ≡ Less → (is_lt o ≡ false) × (is_eq o ≡ false)
reversed_less Less e = absurd cc
reversed_less Equal e = absurd cc
reversed_less Greater e = (refl, refl)

pub above_is : (n m : List ℕ) → IsBelow m n → (is_below n m ≡ false) × (bytes_eq n m ≡ false)
above_is n m h =
    let r = reversed_less (slice_cmp nat_cmp n m) (sym (nat_list_cmp_total.antisymm m n) ∙ h) in
    (r.0, sym (is_eq-slice_cmp n m) ∙ r.1)

last_contained : {X : Type 0} (xs : List X) (x : X) → last_of xs ≡ Some x → Contains xs x
last_contained xs x e = (length xs - 1, slice_get_within xs (length xs - 1) x e, get_or_from_slice_get xs (length xs - 1) x x e)

-- a name that isn't below the last one and is new is above it
pub falls_not : (n : List ℕ) (ns : List (List ℕ)) → is_below_last n ns ≡ false → is_among n ns ≡ false → (m : List ℕ) → last_of ns ≡ Some m → IsBelow m n
falls_not n ns e new m last =
    let below : is_below n m ≡ false = ap (λ (o : Option (List ℕ)). option_map_or (λ (l : List ℕ). is_below n l) o false) (sym last) ∙ e in
    let other : bytes_eq n m ≡ false = false_or (bytes_eq n m) (λ same. not_among n ns new (subst (λ v. Contains ns v) (sym (same_bytes n m same)) (last_contained ns m last))) in
    is_above n m below other

pub not_falls : (n : List ℕ) (ns : List (List ℕ)) → ((m : List ℕ) → last_of ns ≡ Some m → IsBelow m n) → is_below_last n ns ≡ false
not_falls n ns up = go (last_of ns) refl
  where
    go : (o : Option (List ℕ)) → last_of ns ≡ o → option_map_or (λ (l : List ℕ). is_below n l) (last_of ns) false ≡ false
    go None e = rw e refl
    go (Some m) e = rw e (above_is n m (up m e)).0

-- ---- values in order

int_same : (x z : ℤ) → int_lt x z ≡ false → int_lt z x ≡ false → x ≡ z
int_same x z e f = grind (arith, ints)

int_not_less : (x z : ℤ) → int_lt x z ≡ true → int_lt z x ≡ false
int_not_less x z e = grind (arith, ints)

int_not_self : (z : ℤ) → int_lt z z ≡ false
int_not_self z = grind (arith, ints)

pub less_is : (x z : ℤ) → int_cmp x z ≡ Less → int_lt x z ≡ true
less_is x z e =
    elim (int_lt x z) as (λ (b : Bool). cond b Less (cond (int_lt z x) Greater Equal) ≡ Less → b ≡ true) [
      | true ↦ λ f. refl
      | false ↦ λ f. elim (int_lt z x) as (λ (b : Bool). cond b Greater Equal ≡ Less → false ≡ true) [ true ↦ λ g. absurd cc | false ↦ λ g. absurd cc ] f
    ] e

pub value_not_below : (z : ℤ) (n : List ℕ) (last : ℤ × List ℕ) → is_value_below (Within z) n last ≡ false → bytes_eq n last.1 ≡ false → IsValueBelow last (z, n)
value_not_below z n last e other =
    let up : int_lt z last.0 ≡ false = left_no (int_lt z last.0) (int_eq z last.0 && is_below n last.1) e in
    elim (int_lt last.0 z) as (λ (b : Bool). int_lt last.0 z ≡ b → IsValueBelow last (z, n)) [
      | true ↦ λ lt. inl (rw lt refl)
      | false ↦ λ ge.
          let equal : int_eq z last.0 ≡ true = rw (up, ge) refl in
          let rest : (int_eq z last.0 && is_below n last.1) ≡ false = right_no (int_lt z last.0) (int_eq z last.0 && is_below n last.1) e in
          let name : is_below n last.1 ≡ false = rw equal at rest in
          inr (int_same last.0 z ge up, is_above n last.1 name other)
    ] refl

pub not_value_below : (z : ℤ) (n : List ℕ) (last : ℤ × List ℕ) → IsValueBelow last (z, n) → is_value_below (Within z) n last ≡ false
not_value_below z n last h =
    elim h [
      | inl less ↦
          let lt : int_lt last.0 z ≡ true = less_is last.0 z less in
          let not_lt : int_lt z last.0 ≡ false = int_not_less last.0 z lt in
          rw (not_lt, lt) refl
      | inr same ↦
          let self : int_lt z z ≡ false = int_not_self z in
          let name : is_below n last.1 ≡ false = (above_is n last.1 same.1).0 in
          rw (same.0, self, name) refl
    ]

pub int_equal : (x z : ℤ) → int_eq x z ≡ true → x ≡ z
int_equal x z e =
    elim (int_lt x z) as (λ (b : Bool). int_lt x z ≡ b → is_eq (cond b Less (cond (int_lt z x) Greater Equal)) ≡ true → x ≡ z) [
      | true ↦ λ is f. absurd cc
      | false ↦ λ is f. elim (int_lt z x) as (λ (b : Bool). int_lt z x ≡ b → is_eq (cond b Greater Equal) ≡ true
          → x ≡ z) [ true ↦ λ is2 g. absurd cc | false ↦ λ is2 g. int_same x z is is2 ] refl f
    ] refl e

pub int_self : (z : ℤ) → int_eq z z ≡ true
int_self z = let self : int_lt z z ≡ false = int_not_self z in rw self refl

pub other_name : (n : List ℕ) (ns : List (List ℕ)) (m : List ℕ) → is_among n ns ≡ false → last_of ns ≡ Some m → bytes_eq n m ≡ false
other_name n ns m new last = false_or (bytes_eq n m) (λ same. not_among n ns new (subst (λ v. Contains ns v) (sym (same_bytes n m same)) (last_contained ns m last)))
