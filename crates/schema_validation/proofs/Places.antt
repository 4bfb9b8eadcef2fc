-- Ranges of numbers by the positions of their ends.
use Rattle.std.proofs.Common.{◌≡◌, ℕ, ◌+◌, ◌-◌, ◌^◌, ◌<◌, ◌≤◌, ◌⊎◌, inl, inr, List, [], ◌∷◌, ◌++◌, zero, suc, length}
use Rattle.std.proofs.Common.{get_or, take, drop, append_assoc, append-nil, refl, sym, ap, ◌∙◌, subst, arith}
use Rattle.std.specs.Prelude.{max, ℤ, ◌≤ℤ◌, Option, Some, None, IfSome, Contains}
use Rattle.std.specs.List.{AllWithin}
use Rattle.std.specs.List.Sorted.{IsNonDecreasingBy, IsPermutation}
use Rattle.std.proofs.lemmas.Bool.{cases_lt}
use Rattle.std.proofs.lemmas.Int.{ints}
use Rattle.std.proofs.lemmas.List.{get_or_default, take_more, drop_more, drop_all}
use Rattle.std.proofs.lemmas.List.Elements.{Contains-get_or, Contains-append_left, Contains-push, Contains-push_cases}
use Rattle.std.proofs.lemmas.List.Sorted.{IsPermutation-sym, Contains-permutation}
use Rattle.proto_ast.specs.declared.file.Number.{Number}
use Rattle.proto_ast.specs.declared.file.Range.{Range}
use Rattle.schema_validation.specs.Types.{signed_value}
use Rattle.schema_validation.specs.Correspondence.{AreCorresponding}
use Rattle.schema_validation.specs.Members.{IsReserved}
use Rattle.schema_validation.specs.Ranges.{IsPositionOf, IsLastPosition, IsInSome, extended_from, AreSortedEnds, HasReservedRanges}
use Rattle.schema_validation.specs.declared.numbers.Reserved.{Reserved}

-- ---- positions and numbers

pub place_le : (p q : ℕ) (m n : ℤ) → IsPositionOf p m → IsPositionOf q n → m ≤ℤ n → p ≤ q
place_le p q m n a b l = omega (arith, ints)

pub number_le : (p q : ℕ) (m n : ℤ) → IsPositionOf p m → IsPositionOf q n → p ≤ q → m ≤ℤ n
number_le p q m n a b l = omega (arith, ints)

pub number_same : (p q : ℕ) (m n : ℤ) → IsPositionOf p m → IsPositionOf q n → p ≡ q → m ≡ n
number_same p q m n a b l = omega (arith, ints)

pub place_same : (p q : ℕ) (m n : ℤ) → IsPositionOf p m → IsPositionOf q n → m ≡ n → p ≡ q
place_same p q m n a b l = omega (arith, ints)

last_le : (last : Option Number) (q place : ℕ) (n : ℤ) → IsLastPosition last q → IsPositionOf place n → place ≤ 2 ^ 65
    → IfSome last (λ l. n ≤ℤ signed_value l) → place ≤ q
last_le None q place n e p small l = omega arith
last_le (Some m) q place n e p small l = place_le place q n (signed_value m) p e l

last_from : (last : Option Number) (q place : ℕ) (n : ℤ) → IsLastPosition last q → IsPositionOf place n → place ≤ q
    → IfSome last (λ l. n ≤ℤ signed_value l)
last_from None q place n e p l = tt
last_from (Some m) q place n e p l = number_le place q n (signed_value m) p e l

-- ---- extended ends

at_place : (xs : List (ℕ × ℕ)) (x : ℕ × ℕ) (c : Contains xs x) (d : ℕ × ℕ) → get_or xs c.0 d ≡ x
at_place xs x c d = get_or_default xs c.0 d x c.1 ∙ c.2

same_lengths : (least : ℕ) (old : List (ℕ × ℕ)) → length (extended_from least old) ≡ length old
same_lengths least [] = refl
same_lengths least (e ∷ es) = ap suc (same_lengths (max least e.1) es)

same_firsts : (least : ℕ) (old : List (ℕ × ℕ)) (i : ℕ) (d : ℕ × ℕ)
    → (get_or (extended_from least old) i d).0 ≡ (get_or old i d).0
same_firsts least [] i d = refl
same_firsts least (e ∷ es) zero d = refl
same_firsts least (e ∷ es) (suc i) d = same_firsts (max least e.1) es i d

all_above : (least : ℕ) (old : List (ℕ × ℕ)) (j : ℕ) (d : ℕ × ℕ) → j < length old
    → least ≤ (get_or (extended_from least old) j d).1
all_above least [] j d l = absurd (omega arith)
all_above least (e ∷ es) zero d l = omega arith
all_above least (e ∷ es) (suc j) d l =
    let k : max least e.1 ≤ (get_or (extended_from (max least e.1) es) j d).1 =
    all_above (max least e.1) es j d (omega arith) in
    omega arith

all_covered : (least : ℕ) (old : List (ℕ × ℕ)) (i j : ℕ) (d : ℕ × ℕ) → i ≤ j → j < length old
    → (get_or old i d).1 ≤ (get_or (extended_from least old) j d).1
all_covered least [] i j d h l = absurd (omega arith)
all_covered least (e ∷ es) zero zero d h l = omega arith
all_covered least (e ∷ es) zero (suc j) d h l =
    let k : max least e.1 ≤ (get_or (extended_from (max least e.1) es) j d).1 =
    all_above (max least e.1) es j d (omega arith) in
    omega arith
all_covered least (e ∷ es) (suc i) zero d h l = absurd (omega arith)
all_covered least (e ∷ es) (suc i) (suc j) d h l = all_covered (max least e.1) es i j d (omega arith) (omega arith)

all_reached : (least : ℕ) (old : List (ℕ × ℕ)) (j : ℕ) (d : ℕ × ℕ) → j < length old
    → ((get_or (extended_from least old) j d).1 ≡ least)
    ⊎ ((i : ℕ) × (i ≤ j) × ((get_or (extended_from least old) j d).1 ≡ (get_or old i d).1))
all_reached least [] j d l = absurd (omega arith)
all_reached least (e ∷ es) zero d l = elim (cases_lt least e.1) [
  | inl k ↦ inr (0, omega arith, omega arith)
  | inr k ↦ inl (omega arith)
]
all_reached least (e ∷ es) (suc j) d l = elim (all_reached (max least e.1) es j d (omega arith)) [
  | inl k ↦ elim (cases_lt least e.1) [
    | inl m ↦ inr (0, omega arith, (let n : max least e.1 ≡ e.1 = omega arith in k ∙ n))
    | inr m ↦ inl (let n : max least e.1 ≡ least = omega arith in k ∙ n)
  ]
  | inr k ↦ inr (suc k.0, (let n : k.0 ≤ j = k.1 in omega arith), k.2)
]

module _ (ranges : List Range) (old : List (ℕ × ℕ)) (kept : Reserved) (s : AreSortedEnds ranges old)
    (r : kept.ranges.items ≡ extended_from 0 old) where
  keeps_firsts : IsNonDecreasingBy {X = ℕ × ℕ} (λ e. e.0) (extended_from 0 old)
  keeps_firsts i j d l k =
      let n : length (extended_from 0 old) ≡ length old = same_lengths 0 old in
      let a : (get_or (extended_from 0 old) i d).0 ≡ (get_or old i d).0 = same_firsts 0 old i d in
      let b : (get_or (extended_from 0 old) j d).0 ≡ (get_or old j d).0 = same_firsts 0 old j d in
      let c : (get_or old i d).0 ≤ (get_or old j d).0 = s.ascend i j d l (omega arith) in
      omega arith

  reached_by : (j : ℕ) (d : ℕ × ℕ) → j < length old
      → (i : ℕ) × (i ≤ j) × ((get_or (extended_from 0 old) j d).1 ≡ (get_or old i d).1)
  reached_by j d l = elim (all_reached 0 old j d l) [
    | inl k ↦
        let c : (get_or old j d).1 ≤ (get_or (extended_from 0 old) j d).1 = all_covered 0 old j j d (omega arith) l in
        (j, omega arith, omega arith)
    | inr k ↦ k
  ]

  keeps_lasts : IsNonDecreasingBy {X = ℕ × ℕ} (λ e. e.1) (extended_from 0 old)
  keeps_lasts i j d l k =
      let n : length (extended_from 0 old) ≡ length old = same_lengths 0 old in
      let o = reached_by i d (omega arith) in
      let h : o.0 ≤ i = o.1 in
      let e : (get_or (extended_from 0 old) i d).1 ≡ (get_or old o.0 d).1 = o.2 in
      let c : (get_or old o.0 d).1 ≤ (get_or (extended_from 0 old) j d).1 =
      all_covered 0 old o.0 j d (omega arith) (omega arith) in
      omega arith

  keeps_all : (place : ℕ) (n : ℤ) → IsPositionOf place n → place ≤ 2 ^ 65 → IsReserved ranges n
      → IsInSome (extended_from 0 old) place
  keeps_all place n p small reserved =
      let range = reserved.0 in
      let found = s.those.each range reserved.1 in
      let ends = found.0 in
      let i = found.1.0 in
      let within : i < length old = found.1.1 in
      let same_length : length (extended_from 0 old) ≡ length old = same_lengths 0 old in
      let at : get_or old i (0, 0) ≡ ends = at_place old ends found.1 (0, 0) in
      let first : ends.0 ≤ place =
      place_le ends.0 place (signed_value range.first) n found.2.first p reserved.2.at_least in
      let last : place ≤ ends.1 = last_le range.last ends.1 place n found.2.last p small reserved.2.at_most in
      let a : (get_or (extended_from 0 old) i (0, 0)).0 ≡ (get_or old i (0, 0)).0 = same_firsts 0 old i (0, 0) in
      let b : (get_or old i (0, 0)).1 ≤ (get_or (extended_from 0 old) i (0, 0)).1 =
      all_covered 0 old i i (0, 0) (omega arith) within in
      let at0 : (get_or old i (0, 0)).0 ≡ ends.0 = ap (λ (e : ℕ × ℕ). e.0) at in
      let at1 : (get_or old i (0, 0)).1 ≡ ends.1 = ap (λ (e : ℕ × ℕ). e.1) at in
      record {
        one = get_or (extended_from 0 old) i (0, 0);
        among = Contains-get_or (extended_from 0 old) i (0, 0) (omega arith);
        at_least = omega arith;
        at_most = omega arith;
      }

  keeps_no_other : (place : ℕ) (n : ℤ) → IsPositionOf place n → IsInSome (extended_from 0 old) place → IsReserved ranges n
  keeps_no_other place n p some =
      let e = some.one in
      let j = some.among.0 in
      let same_length : length (extended_from 0 old) ≡ length old = same_lengths 0 old in
      let inside : j < length (extended_from 0 old) = some.among.1 in
      let within : j < length old = omega arith in
      let at : get_or (extended_from 0 old) j (0, 0) ≡ e = at_place (extended_from 0 old) e some.among (0, 0) in
      let at0 : (get_or (extended_from 0 old) j (0, 0)).0 ≡ e.0 = ap (λ (x : ℕ × ℕ). x.0) at in
      let at1 : (get_or (extended_from 0 old) j (0, 0)).1 ≡ e.1 = ap (λ (x : ℕ × ℕ). x.1) at in
      let low : e.0 ≤ place = some.at_least in
      let high : place ≤ e.1 = some.at_most in
      let o = reached_by j (0, 0) within in
      let i = o.0 in
      let i_low : i ≤ j = o.1 in
      let i_in : i < length old = omega arith in
      let reach : (get_or (extended_from 0 old) j (0, 0)).1 ≡ (get_or old i (0, 0)).1 = o.2 in
      let up : (get_or old i (0, 0)).0 ≤ (get_or old j (0, 0)).0 = s.ascend i j (0, 0) i_low within in
      let firsts : (get_or (extended_from 0 old) j (0, 0)).0 ≡ (get_or old j (0, 0)).0 = same_firsts 0 old j (0, 0) in
      let found = s.those.alone (get_or old i (0, 0)) (Contains-get_or old i (0, 0) i_in) in
      let a : (get_or old i (0, 0)).0 ≤ place = omega arith in
      let b : place ≤ (get_or old i (0, 0)).1 = omega arith in (
        found.0,
        found.1,
        record {
          at_least = number_le (get_or old i (0, 0)).0 place (signed_value found.0.first) n found.2.first p a;
          at_most = last_from found.0.last (get_or old i (0, 0)).1 place n found.2.last p b;
        },
      )

  pub keeps_ranges : HasReservedRanges ranges kept
  keeps_ranges = record {
    firsts = subst (λ (es : List (ℕ × ℕ)). IsNonDecreasingBy {X = ℕ × ℕ} (λ e. e.0) es) (sym r) keeps_firsts;
    lasts = subst (λ (es : List (ℕ × ℕ)). IsNonDecreasingBy {X = ℕ × ℕ} (λ e. e.1) es) (sym r) keeps_lasts;
    all_in = λ place n p small h.
        subst (λ (es : List (ℕ × ℕ)). IsInSome es place) (sym r) (keeps_all place n p small h);
    none_else = λ place n p h. keeps_no_other place n p (subst (λ (es : List (ℕ × ℕ)). IsInSome es place) r h);
  }

-- ---- a search among them

-- the number of ranges that start at or below the position decides
pub found_in : (ends : List (ℕ × ℕ)) (low place : ℕ) → IsNonDecreasingBy {X = ℕ × ℕ} (λ e. e.1) ends
    → low ≤ length ends → ((k : ℕ) (d : ℕ × ℕ) → low ≤ k → k < length ends → place < (get_or ends k d).0)
    → IsInSome ends place → (0 < low) × (place ≤ (get_or ends (low - 1) (0, 0)).1)
found_in ends low place lasts short behind some =
    let e = some.one in
    let i = some.among.0 in
    let inside : i < length ends = some.among.1 in
    let at : get_or ends i (0, 0) ≡ e = at_place ends e some.among (0, 0) in
    let at0 : (get_or ends i (0, 0)).0 ≡ e.0 = ap (λ (x : ℕ × ℕ). x.0) at in
    let at1 : (get_or ends i (0, 0)).1 ≡ e.1 = ap (λ (x : ℕ × ℕ). x.1) at in
    let below : e.0 ≤ place = some.at_least in
    let above : place ≤ e.1 = some.at_most in
    let before : i < low = elim (cases_lt i low) [
      | inl l ↦ l
      | inr l ↦ let far : place < (get_or ends i (0, 0)).0 = behind i (0, 0) l inside in absurd (omega arith)
    ] in
    let up : (get_or ends i (0, 0)).1 ≤ (get_or ends (low - 1) (0, 0)).1 =
    lasts i (low - 1) (0, 0) (omega arith) (omega arith) in
    (omega arith, omega arith)

pub in_some : (ends : List (ℕ × ℕ)) (low place : ℕ) → 0 < low → low ≤ length ends
    → ((k : ℕ) (d : ℕ × ℕ) → k < low → (get_or ends k d).0 ≤ place)
    → place ≤ (get_or ends (low - 1) (0, 0)).1 → IsInSome ends place
in_some ends low place some inside before reaches = record {
  one = get_or ends (low - 1) (0, 0);
  among = Contains-get_or ends (low - 1) (0, 0) (omega arith);
  at_least = before (low - 1) (0, 0) (omega arith);
  at_most = reaches;
}

module _ (ranges : List Range) (kept : Reserved) (ends : List (ℕ × ℕ)) (low place : ℕ) (n : ℤ)
    (keeps : HasReservedRanges ranges kept) (same : ends ≡ kept.ranges.items) (is : IsPositionOf place n)
    (within : low ≤ length ends)
    (parts : IsNonDecreasingBy {X = ℕ × ℕ} (λ e. e.0) ends
    → AllWithin (λ (e : ℕ × ℕ). e.0 ≤ place) ends 0 low × AllWithin (λ (e : ℕ × ℕ). place < e.0) ends low (length ends))
  where
    search_parts : AllWithin (λ (e : ℕ × ℕ). e.0 ≤ place) ends 0 low
        × AllWithin (λ (e : ℕ × ℕ). place < e.0) ends low (length ends)
    search_parts =
        parts
        (subst (λ (es : List (ℕ × ℕ)). IsNonDecreasingBy {X = ℕ × ℕ} (λ e. e.0) es) (sym same) keeps.firsts)

    -- a reserved number is found by the search
    pub search_finds : place ≤ 2 ^ 65 → IsReserved ranges n → (0 < low) × (place ≤ (get_or ends (low - 1) (0, 0)).1)
    search_finds small reserved =
        let lasts : IsNonDecreasingBy {X = ℕ × ℕ} (λ e. e.1) ends =
        subst (λ (es : List (ℕ × ℕ)). IsNonDecreasingBy {X = ℕ × ℕ} (λ e. e.1) es) (sym same) keeps.lasts in
        let some : IsInSome ends place =
        subst (λ (es : List (ℕ × ℕ)). IsInSome es place) (sym same) (keeps.all_in place n is small reserved) in
        found_in ends low place lasts within (λ k d l h. search_parts.1 k d l h) some

    -- a number that the search finds is reserved
    pub search_found : 0 < low → place ≤ (get_or ends (low - 1) (0, 0)).1 → IsReserved ranges n
    search_found some reaches =
        keeps.none_else place n is
        (subst (λ (es : List (ℕ × ℕ)). IsInSome es place) same
        (in_some ends low place some within (λ k d h. search_parts.0 k d (omega arith) h) reaches))

-- ---- ends as they are extended

pub reach_more : (sorted out new : List (ℕ × ℕ)) (i least high : ℕ) (d : ℕ × ℕ) → i < length sorted
    → high ≡ max least (get_or sorted i d).1 → new ≡ out ++ ((get_or sorted i d).0, high) ∷ []
    → out ++ extended_from least (drop i sorted) ≡ extended_from 0 sorted
    → new ++ extended_from high (drop (i + 1) sorted) ≡ extended_from 0 sorted
reach_more sorted out new i least high d l e is known =
    let x : ℕ × ℕ = get_or sorted i d in
    let rest : List (ℕ × ℕ) = drop (i + 1) sorted in
    let more : extended_from least (drop i sorted) ≡ (x.0, max least x.1) ∷ extended_from (max least x.1) rest =
    ap (extended_from least) (drop_more sorted i d l) in
    let same : (x.0, max least x.1) ∷ extended_from (max least x.1) rest ≡ (x.0, high) ∷ extended_from high rest =
    ap (λ (h : ℕ). (x.0, h) ∷ extended_from h rest) (sym e) in
    ap (λ (ys : List (ℕ × ℕ)). ys ++ extended_from high rest) is
    ∙ (append_assoc out ((x.0, high) ∷ []) (extended_from high rest)
    ∙ (ap (λ (ys : List (ℕ × ℕ)). out ++ ys) (sym (more ∙ same)) ∙ known))

pub reach_all : (sorted out : List (ℕ × ℕ)) (i least : ℕ) → length sorted ≤ i
    → out ++ extended_from least (drop i sorted) ≡ extended_from 0 sorted → out ≡ extended_from 0 sorted
reach_all sorted out i least l known =
    let none : out ++ extended_from least (drop i sorted) ≡ out ++ [] =
    ap (λ (ys : List (ℕ × ℕ)). out ++ extended_from least ys) (drop_all i sorted l) in
    sym (append-nil out) ∙ (sym none ∙ known)

-- ---- lists of ends

pub those_more : {X Y : Type 0} (R : X → Y → Type 0) (xs : List X) (ys : List Y) (i : ℕ) (x : X) (y : Y)
    → i < length xs → x ≡ get_or xs i x → R x y → AreCorresponding R (take i xs) ys
    → AreCorresponding R (take (i + 1) xs) (ys ++ y ∷ [])
those_more R xs ys i x y l e r those =
    let more : take (i + 1) xs ≡ take i xs ++ x ∷ [] =
    take_more xs i x l ∙ ap (λ z. take i xs ++ z ∷ []) (sym e) in
    subst (λ zs. AreCorresponding R zs (ys ++ y ∷ [])) (sym more) (record {
      each = λ z c. elim (Contains-push_cases (take i xs) x z c) [
        | inl k ↦
            let o = those.each z k in
            (o.0, Contains-append_left ys (y ∷ []) o.0 o.1, o.2)
        | inr k ↦ (y, Contains-push ys y, subst (λ w. R w y) k r)
      ];
      alone = λ z c. elim (Contains-push_cases ys y z c) [
        | inl k ↦
            let o = those.alone z k in
            (o.0, Contains-append_left (take i xs) (x ∷ []) o.0 o.1, o.2)
        | inr k ↦ (x, Contains-push (take i xs) x, subst (λ w. R x w) k r)
      ];
    })

-- one more pair, given the element itself
pub those_next : {X Y : Type 0} (R : X → Y → Type 0) (xs : List X) (ys : List Y) (i : ℕ) (d : X) (y : Y)
    → i < length xs → R (get_or xs i d) y → AreCorresponding R (take i xs) ys
    → AreCorresponding R (take (i + 1) xs) (ys ++ y ∷ [])
those_next R xs ys i d y l r those =
    those_more R xs ys i (get_or xs i d) y l (get_or_default xs i d (get_or xs i d) l) r those

pub those_none : {X Y : Type 0} (R : X → Y → Type 0) → AreCorresponding R [] []
those_none R = record {
  each = λ x c. absurd (let l : c.0 < 0 = c.1 in omega arith);
  alone = λ y c. absurd (let l : c.0 < 0 = c.1 in omega arith);
}

pub those_moved : {X Y : Type 0} (R : X → Y → Type 0) (xs : List X) (ys zs : List Y) → IsPermutation ys zs
    → AreCorresponding R xs ys → AreCorresponding R xs zs
those_moved R xs ys zs p those = record {
  each = λ x c.
      let o = those.each x c in
      (o.0, Contains-permutation ys zs o.0 p o.1, o.2);
  alone = λ z c. those.alone z (Contains-permutation zs ys z (IsPermutation-sym ys zs p) c);
}
