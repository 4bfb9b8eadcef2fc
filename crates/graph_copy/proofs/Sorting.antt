-- Fields inserted one before another are those that a stable sort of the reversed list gives.
use Rattle.std.proofs.Common.{◌≡◌, ◌≢◌, ◌&&◌, ℕ, suc, ◌<◌, ◌≤◌, List, [], ◌∷◌, ◌++◌, length, get_or, filter, reverse}
use Rattle.std.proofs.Common.{Bool, true, false, not, cond, ◌==◌, refl, sym, ap, subst, ◌∙◌, arith, append-nil, inl}
use Rattle.std.proofs.Common.{inr}
use Rattle.std.specs.Prelude.{nat_lt}
use Rattle.std.specs.Ordering.{nat_cmp, is_lt}
use Rattle.std.specs.List.Sorted.{ties, IsNonDecreasingBy, IsStableByKey}
use Rattle.std.proofs.lemmas.List.{reverse-append}
use Rattle.std.proofs.lemmas.Bool.{eq-eqb, ne_eqb}
use Rattle.std.proofs.lemmas.Bool.Decides.{nat_tests, eqb_tells, leb_tells}
use Rattle.mrpc_table.specs.Node.{no_fields, field}
use Rattle.mrpc_table.specs.View.{content_of, node_of}
use Rattle.mrpc_table.specs.declared.tree.FieldValue.{FieldValue}
use Rattle.mrpc_table.specs.declared.tree.FieldValue.TheVariants.{One}
use Rattle.mrpc_table.specs.declared.tree.Value.TheVariants.{Number}
use Rattle.graph_form.specs.Forgotten.{insert_field}
use Rattle.graph_copy.specs.Makes.{insert_all}

abbrev Part : Type 0
Part = ℕ × FieldValue

-- inserts after those with no greater number
abbrev put_in : Part → List Part → List Part
put_in x [] = x ∷ []
put_in x (y ∷ ys) = cond (nat_lt x.0 y.0) (x ∷ y ∷ ys) (y ∷ put_in x ys)

abbrev put_all : List Part → List Part
put_all [] = []
put_all (x ∷ xs) = put_in x (put_all xs)

node-put : (x : Part) (ys : List Part) → node_of (put_in x ys) ≡ insert_field x.0 (content_of x.1) (node_of ys)
node-put x [] = refl
node-put x (y ∷ ys) =
    elim (nat_lt x.0 y.0) as (λ b. node_of (cond b (x ∷ y ∷ ys) (y ∷ put_in x ys))
    ≡ cond b (field x.0 (content_of x.1) (node_of (y ∷ ys)))
    (field y.0 (content_of y.1) (insert_field x.0 (content_of x.1) (node_of ys)))) [
      | true ↦ refl
      | false ↦ ap (field y.0 (content_of y.1)) (node-put x ys)
    ]

inserted-put : (xs : List Part) → insert_all xs no_fields ≡ node_of (put_all xs)
inserted-put [] = refl
inserted-put (x ∷ xs) = ap (insert_field x.0 (content_of x.1)) (inserted-put xs) ∙ sym (node-put x (put_all xs))

-- numbers never fall, and the first is at least `least`
abbrev NeverFall : ℕ → List Part → Type 0
NeverFall least [] = Unit {0}
NeverFall least (x ∷ xs) = (least ≤ x.0) × NeverFall x.0 xs

abbrev of_number : ℕ → List Part → List Part
of_number n xs = filter (λ p. p.0 == n) xs

fall-put : (least : ℕ) (x : Part) (ys : List Part) → least ≤ x.0 → NeverFall least ys → NeverFall least (put_in x ys)
fall-put least x [] le h = (le, tt)
fall-put least x (y ∷ ys) le h =
    elim (leb_tells (suc x.0) y.0) [
      | inl lt ↦ subst (λ b. NeverFall least (cond b (x ∷ y ∷ ys) (y ∷ put_in x ys))) (sym lt.0) (le, (omega (arith, lt.1), h.1))
      | inr ge ↦ subst (λ b. NeverFall least (cond b (x ∷ y ∷ ys) (y ∷ put_in x ys))) (sym ge.0) (h.0, fall-put y.0 x ys (omega (arith, ge.1)) h.1)
    ]

fall-all : (xs : List Part) → NeverFall 0 (put_all xs)
fall-all [] = tt
fall-all (x ∷ xs) = fall-put 0 x (put_all xs) (omega arith) (fall-all xs)

none-below : (n least : ℕ) (ys : List Part) → n < least → NeverFall least ys → of_number n ys ≡ []
none-below n least [] lt h = refl
none-below n least (y ∷ ys) lt h =
    let differs : y.0 ≢ n = λ e. omega (arith, lt, h.0, e) in
    ap (λ b. cond b (y ∷ of_number n ys) (of_number n ys)) (ne_eqb y.0 n differs) ∙ none-below n y.0 ys (omega (arith, lt, h.0)) h.1

abbrev alone : ℕ → Part → List Part
alone n x = cond (x.0 == n) (x ∷ []) []

in_front : (n : ℕ) (x : Part) (zs : List Part) → (x.0 ≡ n → zs ≡ []) → cond (x.0 == n) (x ∷ zs) zs ≡ zs ++ alone n x
in_front n x zs none =
    elim (eqb_tells x.0 n) [
      | inl same ↦ ap (λ b. cond b (x ∷ zs) zs) same.0 ∙ ap (λ ws. x ∷ ws) (none same.1)
          ∙ sym (ap (λ ws. ws ++ alone n x) (none same.1) ∙ ap (λ b. cond b (x ∷ []) []) same.0)
      | inr other ↦ ap (λ b. cond b (x ∷ zs) zs) other.0 ∙ sym (ap (λ b. zs ++ cond b (x ∷ []) []) other.0 ∙ append-nil zs)
    ]

of-put : (n least : ℕ) (x : Part) (ys : List Part) → NeverFall least ys → of_number n (put_in x ys) ≡ of_number n ys ++ alone n x
of-put n least x [] h = refl
of-put n least x (y ∷ ys) h =
    elim (leb_tells (suc x.0) y.0) [
      | inl lt ↦ ap (λ b. of_number n (cond b (x ∷ y ∷ ys) (y ∷ put_in x ys))) lt.0
          ∙ in_front n x (of_number n (y ∷ ys)) (λ e. none-below n y.0 (y ∷ ys) (omega (arith, lt.1, e)) (
            omega arith,
            h.1,
          ))
      | inr ge ↦ ap (λ b. of_number n (cond b (x ∷ y ∷ ys) (y ∷ put_in x ys))) ge.0
          ∙ ap (λ zs. cond (y.0 == n) (y ∷ zs) zs) (of-put n y.0 x ys h.1)
          ∙ elim (y.0 == n) as (λ b. cond b (y ∷ (of_number n ys ++ alone n x)) (of_number n ys ++ alone n x)
          ≡ cond b (y ∷ of_number n ys) (of_number n ys) ++ alone n x) [ true ↦ refl | false ↦ refl ]
    ]

of-append : (n : ℕ) (xs ys : List Part) → of_number n (xs ++ ys) ≡ of_number n xs ++ of_number n ys
of-append n [] ys = refl
of-append n (x ∷ xs) ys =
    ap (λ zs. cond (x.0 == n) (x ∷ zs) zs) (of-append n xs ys)
    ∙ elim (x.0 == n) as (λ b. cond b (x ∷ (of_number n xs ++ of_number n ys)) (of_number n xs ++ of_number n ys)
    ≡ cond b (x ∷ of_number n xs) (of_number n xs) ++ of_number n ys) [ true ↦ refl | false ↦ refl ]

of-all : (n : ℕ) (xs : List Part) → of_number n (put_all xs) ≡ of_number n (reverse xs)
of-all n [] = refl
of-all n (x ∷ xs) = of-put n 0 x (put_all xs) (fall-all xs) ∙ ap (λ zs. zs ++ alone n x) (of-all n xs)
    ∙ sym (of-append n (reverse xs) (x ∷ [])) ∙ ap (of_number n) (sym (reverse-append (x ∷ []) xs))

-- two lists that never fall, with the same parts for each number, are equal
same-tail : (x y : Part) (xs ys : List Part) → x ≡ y → ((n : ℕ) → of_number n (x ∷ xs) ≡ of_number n (y ∷ ys)) → (n : ℕ) → of_number n xs ≡ of_number n ys
same-tail x y xs ys head all n =
    let both : of_number n (x ∷ xs) ≡ of_number n (x ∷ ys) = all n ∙ ap (λ z. of_number n (z ∷ ys)) (sym head) in
    elim (eqb_tells x.0 n) [
      | inl same ↦ let e : x ∷ of_number n xs ≡ x ∷ of_number n ys =
          sym (ap (λ b. cond b (x ∷ of_number n xs) (of_number n xs)) same.0) ∙ both
          ∙ ap (λ b. cond b (x ∷ of_number n ys) (of_number n ys)) same.0 in cc
      | inr other ↦ sym (ap (λ b. cond b (x ∷ of_number n xs) (of_number n xs)) other.0) ∙ both ∙ ap (λ b. cond b (x ∷ of_number n ys) (of_number n ys)) other.0
    ]

own : (x : Part) (xs : List Part) → of_number x.0 (x ∷ xs) ≡ x ∷ of_number x.0 xs
own x xs = ap (λ b. cond b (x ∷ of_number x.0 xs) (of_number x.0 xs)) (eq-eqb x.0 x.0 refl)

unique : (xs ys : List Part) (a b : ℕ) → NeverFall a xs → NeverFall b ys → ((n : ℕ) → of_number n xs ≡ of_number n ys) → xs ≡ ys
unique [] [] a b hx hy all = refl
unique [] (y ∷ ys) a b hx hy all = let e : [] ≡ y ∷ of_number y.0 ys = all y.0 ∙ own y ys in cc
unique (x ∷ xs) [] a b hx hy all = let e : x ∷ of_number x.0 xs ≡ [] = sym (own x xs) ∙ all x.0 in cc
unique (x ∷ xs) (y ∷ ys) a b hx hy all =
    elim (leb_tells (suc x.0) y.0) [
      | inl below ↦ let e : x ∷ of_number x.0 xs ≡ [] = sym (own x xs) ∙ all x.0 ∙ none-below x.0 y.0 (y ∷ ys) below.1 (omega arith, hy.1) in cc
      | inr ge ↦ elim (leb_tells (suc y.0) x.0) [
        | inl above ↦ let e : [] ≡ y ∷ of_number y.0 ys = sym (none-below y.0 x.0 (x ∷ xs) above.1 (omega arith, hx.1)) ∙ all y.0 ∙ own y ys in cc
        | inr le ↦
            let level : x.0 ≡ y.0 = omega (arith, ge.1, le.1) in
            let e : x ∷ of_number x.0 xs ≡ y ∷ of_number y.0 ys = sym (own x xs) ∙ all x.0 ∙ ap (λ n. of_number n (y ∷ ys)) level ∙ own y ys in
            let head : x ≡ y = cc in
            let rest = unique xs ys x.0 y.0 hx.1 hy.1 (same-tail x y xs ys head all) in
            ap (λ z. z ∷ xs) head ∙ ap (λ zs. y ∷ zs) rest
      ]
    ]

-- ---- properties of the sort

fall-from : (least : ℕ) (xs : List Part) → ((d : Part) → 0 < length xs → least ≤ (get_or xs 0 d).0) → IsNonDecreasingBy (λ p. p.0) xs → NeverFall least xs
fall-from least [] first h = tt
fall-from least (x ∷ []) first h = (first x (omega arith), tt)
fall-from least (x ∷ y ∷ ys) first h = (
  first x (omega arith),
  fall-from x.0 (y ∷ ys) (λ d w. h 0 1 d (omega arith) (omega arith))
      (λ i j d le w. h (suc i) (suc j) d (omega arith) (omega arith)),
)

abbrev below : Part → Part → Bool
below x y = is_lt (nat_cmp x.0 y.0)

ties-same : (m n : ℕ) → m ≡ n → (not (is_lt (nat_cmp n m)) && not (is_lt (nat_cmp m n))) ≡ true
ties-same m n e = grind (arith, nat_tests)

ties-differ : (m n : ℕ) → m ≢ n → (not (is_lt (nat_cmp n m)) && not (is_lt (nat_cmp m n))) ≡ false
ties-differ m n e = grind (arith, nat_tests)

of-ties : (n : ℕ) (v : FieldValue) (xs : List Part) → of_number n xs ≡ filter (ties below (n, v)) xs
of-ties n v [] = refl
of-ties n v (x ∷ xs) =
    elim (eqb_tells x.0 n) [
      | inl same ↦ ap (λ b. cond b (x ∷ of_number n xs) (of_number n xs)) same.0 ∙ ap (λ zs. x ∷ zs) (of-ties n v xs)
          ∙ sym (ap (λ b. cond b (x ∷ filter (ties below (n, v)) xs) (filter (ties below (n, v)) xs))
          (ties-same x.0 n same.1))
      | inr other ↦ ap (λ b. cond b (x ∷ of_number n xs) (of_number n xs)) other.0 ∙ of-ties n v xs
          ∙ sym (ap (λ b. cond b (x ∷ filter (ties below (n, v)) xs) (filter (ties below (n, v)) xs))
          (ties-differ x.0 n other.1))
    ]

pub sorted-inserted : (fields backwards sorted : List (ℕ × FieldValue)) → backwards ≡ reverse fields
    → IsNonDecreasingBy (λ p. p.0) sorted → IsStableByKey (λ p. p.0) nat_cmp backwards sorted
    → node_of sorted ≡ insert_all fields no_fields
sorted-inserted fields backwards sorted turned rises stable =
    let same : (n : ℕ) → of_number n sorted ≡ of_number n (put_all fields) = λ n.
    of-ties n (One (Number 0)) sorted ∙ stable (n, One (Number 0)) ∙ sym (of-ties n (One (Number 0)) backwards) ∙ ap (of_number n) turned ∙ sym (of-all n fields) in
    ap node_of (unique sorted (put_all fields) 0 0 (fall-from 0 sorted (λ d w. omega arith) rises) (fall-all fields) same) ∙ sym (inserted-put fields)
