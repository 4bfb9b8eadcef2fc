-- Items sorted by number are later states of the original ones, each at its index.
use Rattle.std.proofs.Common.{◌≡◌, ◌≢◌, ◌<◌, ◌≤◌, ◌⊎◌, inl, inr, ⊎_elim, ℕ, zero, suc, ◌+◌, eq-eqb, ne_eqb, get_or}
use Rattle.std.proofs.Common.{List, [], ◌∷◌, ◌++◌, length, length-append, map, refl, sym, ap, ◌∙◌, subst}
use Rattle.std.proofs.Common.{append_assoc, arith}
use Rattle.std.specs.Prelude.{◌==◌, IsPermutation, All, ⊤, cond, sum_by}
use Rattle.std.specs.List.{AllZip, range_with_len}
use Rattle.std.specs.List.Sorted.{IsNonDecreasingBy}
use Rattle.std.proofs.lemmas.Bool.{cases_eq}
use Rattle.std.proofs.lemmas.List.{length-map}
use Rattle.std.proofs.lemmas.List.FromFn.{length-range_with_len}
use Rattle.std.proofs.lemmas.List.Sorted.{All-permutation, IsPermutation-map, IsPermutation-trans, length_permutation, sum_by-IsPermutation}
use Rattle.std.proofs.lemmas.List.Sums.{sum_by-append, sum_by-cons}
use Rattle.worker_pool.specs.declared.pass_view.NumberedItem.{NumberedItem}
use Rattle.worker_pool.specs.Later.{IsLater}
use Rattle.worker_pool.specs.Rule.{EachHas, IsLaterItem, AreAllOnce, numbers_of, occurrences}
use Rattle.worker_pool.proofs.Lists.{got_here}

-- 1 if both numbers are equal, otherwise 0
hit : ℕ → ℕ → ℕ
hit x y = cond (y == x) 1 0

hit_here : (x y : ℕ) → y ≡ x → hit x y ≡ 1
unfolding hit
hit_here x y e = ap (λ b. cond b 1 0) (eq-eqb y x e)

hit_else : (x y : ℕ) → y ≢ x → hit x y ≡ 0
unfolding hit
hit_else x y ne = ap (λ b. cond b 1 0) (ne_eqb y x ne)

-- the number of occurrences of a number in a list
abbrev counted : ℕ → List ℕ → ℕ
counted x ys = sum_by (hit x) ys

-- no number is below the one before it
abbrev Rises : ℕ → List ℕ → Type 0
Rises a [] = ⊤
Rises a (y ∷ ys) = (a ≤ y) × Rises y ys

none_below : (x a : ℕ) (ys : List ℕ) → Rises a ys → x < a → counted x ys ≡ 0
none_below x a [] r below = refl
none_below x a (y ∷ ys) r below =
    let ne : y ≢ x = λ e. omega (arith, e, r.0, below) in
    let rest = none_below x y ys r.1 (omega (arith, r.0, below)) in
    sum_by-cons (hit x) y ys ∙ (λ i. hit_else x y ne i + rest i)

range_rises : (a b n : ℕ) → a ≤ b → Rises a (range_with_len b n)
range_rises a b zero le = tt
range_rises a b (suc n) le = (le, range_rises b (b + 1) n (omega arith))

-- if the least number no longer occurs, the next one is the least
rises_more : (a : ℕ) (ys : List ℕ) → Rises a ys → counted a ys ≡ 0 → Rises (a + 1) ys
rises_more a [] r none = tt
rises_more a (y ∷ ys) r none = (least (cases_eq y a), r.1)
  where
    least : (y ≡ a) ⊎ (y ≢ a) → a + 1 ≤ y
    least (inl e) = let s = sum_by-cons (hit a) y ys in let h = hit_here a y e in absurd (omega (arith, s, h, none))
    least (inr ne) = let le = r.0 in omega (arith, le, ne)

-- the first of a list that rises and in which exactly the numbers of a range occur, once each
first_of : (a n y : ℕ) (ys : List ℕ) → Rises a (y ∷ ys) → ((x : ℕ) → counted x (y ∷ ys) ≡ counted x (range_with_len a (suc n))) → y ≡ a
first_of a n y ys r same = one (cases_eq y a)
  where
    one : (y ≡ a) ⊎ (y ≢ a) → y ≡ a
    one (inl e) = e
    one (inr ne) =
        let e = same a in
        let s = sum_by-cons (hit a) a (range_with_len (a + 1) n) in
        let h = hit_here a a refl in
        let t = sum_by-cons (hit a) y ys in
        let no = hit_else a y ne in
        let le = r.0 in
        let rest = none_below a y ys r.1 (omega (arith, le, ne)) in
        absurd (omega (arith, e, s, h, t, no, rest))

tail_of : (a n y : ℕ) (ys : List ℕ) → y ≡ a → ((x : ℕ) → counted x (y ∷ ys) ≡ counted x (range_with_len a (suc n)))
    → (x : ℕ) → counted x ys ≡ counted x (range_with_len (a + 1) n)
tail_of a n y ys e same x =
    let w = same x in
    let s = sum_by-cons (hit x) a (range_with_len (a + 1) n) in
    let t = sum_by-cons (hit x) y ys in
    let k : hit x y ≡ hit x a = ap (hit x) e in
    omega (arith, w, s, t, k)

-- such a list is the range
rises_once : (a n : ℕ) (ys : List ℕ) → Rises a ys → ((x : ℕ) → counted x ys ≡ counted x (range_with_len a n)) → ys ≡ range_with_len a n
rises_once a zero [] r same = refl
rises_once a zero (y ∷ ys) r same = let e = same y in let s = sum_by-cons (hit y) y ys in let h = hit_here y y refl in absurd (omega (arith, e, s, h))
rises_once a (suc n) [] r same = let e = same a in let s = sum_by-cons (hit a) a (range_with_len (a + 1) n) in let h = hit_here a a refl in absurd (omega (arith, e, s, h))
rises_once a (suc n) (y ∷ ys) r same =
    let e = first_of a n y ys r same in
    let tail = tail_of a n y ys e same in
    let none : counted a ys ≡ 0 = tail a ∙ none_below a (a + 1) (range_with_len (a + 1) n) (range_rises (a + 1) (a + 1) n (omega arith)) (omega arith) in
    let rises : Rises a ys = subst (λ k. Rises k ys) e r.1 in
    let rest = rises_once (a + 1) n ys (rises_more a ys rises none) tail in
    λ i. e i ∷ rest i

module _ {T : Type 0} where
  rises_of : (xs : List (NumberedItem T)) (a : ℕ) → ((d : NumberedItem T) → 0 < length xs → a ≤ (get_or xs 0 d).number)
      → IsNonDecreasingBy (λ x. x.number) xs → Rises a (numbers_of xs)
  rises_of [] a first s = tt
  rises_of (x ∷ xs) a first s = (
    first x (omega arith),
    rises_of xs x.number (λ d some. s 0 1 d (omega arith) (omega (arith, some))) (λ i j d le lt. s (suc i) (suc j) d (omega (arith, le)) (omega (arith, lt))),
  )

  -- if items are sorted by number and each number below n occurs once, their numbers are those from 0
  pub numbers_by_number : (n : ℕ) (xs : List (NumberedItem T)) → IsPermutation (range_with_len 0 n) (numbers_of xs)
      → IsNonDecreasingBy (λ x. x.number) xs → numbers_of xs ≡ range_with_len 0 n
  numbers_by_number n xs once order =
      rises_once 0 n (numbers_of xs) (rises_of xs 0 (λ d some. omega arith) order)
      (λ x. sum_by-IsPermutation (hit x) _ _ once)

  pub all_from_every : (P : NumberedItem T → Type 0) (xs : List (NumberedItem T)) → EachHas P xs → All P xs
  all_from_every P [] p k d lt = absurd (omega (arith, lt))
  all_from_every P (x ∷ xs) p zero d lt = p.0
  all_from_every P (x ∷ xs) p (suc k) d lt = all_from_every P xs p.1 k d (omega (arith, lt))

  pub every_from_all : (P : NumberedItem T → Type 0) (xs : List (NumberedItem T)) → All P xs → EachHas P xs
  every_from_all P [] p = tt
  every_from_all P (x ∷ xs) p = (p 0 x (omega arith), every_from_all P xs (λ k d lt. p (suc k) d (omega (arith, lt))))

  pub every_permutation : (P : NumberedItem T → Type 0) (xs ys : List (NumberedItem T)) → IsPermutation xs ys → EachHas P xs → EachHas P ys
  every_permutation P xs ys same p = every_from_all P ys (All-permutation P xs ys same (all_from_every P xs p))

  pub all_of_items : (P : T → Type 0) (xs : List (NumberedItem T)) → EachHas (λ x. P x.item.value) xs → All P (map (λ x. x.item.value) xs)
  all_of_items P [] p k d lt = absurd (omega (arith, lt))
  all_of_items P (x ∷ xs) p zero d lt = p.0
  all_of_items P (x ∷ xs) p (suc k) d lt = all_of_items P xs p.1 k d (omega (arith, lt))

  -- there are as many as at the start
  pub as_many : (firsts : List T) (kept xs : List (NumberedItem T)) → AreAllOnce firsts (numbers_of kept) → IsPermutation kept xs → length xs ≡ length firsts
  as_many firsts kept xs once same =
      let a = length_permutation kept xs same in
      let b = length_permutation _ _ once in
      let c = length-range_with_len 0 (length firsts) in
      let d = length-map kept (λ (x : NumberedItem T). x.number) in
      omega (arith, a, b, c, d)

  module _ (since : T → T → Type 0) where
    -- items with numbers from `a` are later states of the original ones from that index
    placed : (before firsts : List T) (xs : List (NumberedItem T)) (a : ℕ) → a ≡ length before
        → numbers_of xs ≡ range_with_len a (length firsts) → EachHas (IsLaterItem since (before ++ firsts)) xs
        → AllZip (IsLater since) firsts (map (λ x. x.item.value) xs)
    placed before [] [] a at numbers ones = tt
    placed before [] (x ∷ xs) a at numbers ones = let e = ap length numbers in absurd (omega (arith, e))
    placed before (f ∷ fs) [] a at numbers ones = let e = ap length numbers in absurd (omega (arith, e))
    placed before (f ∷ fs) (x ∷ xs) a at numbers ones =
        let head : x.number ≡ a = cc numbers in
        let tail : numbers_of xs ≡ range_with_len (a + 1) (length fs) = cc numbers in
        let next : a + 1 ≡ length (before ++ f ∷ []) = omega (arith, at, length-append before (f ∷ [])) in (
          got_here before f fs x.number (λ first. IsLater since first x.item.value) (head ∙ at) ones.0,
          placed (before ++ f ∷ []) fs xs (a + 1) next tail (subst (λ l. EachHas (IsLaterItem since l) xs) (sym (append_assoc before (f ∷ []) fs)) ones.1),
        )

    -- the items by number are later states of the original ones, each at its index
    pub in_place : (firsts : List T) (kept xs : List (NumberedItem T)) → AreAllOnce firsts (numbers_of kept)
        → IsPermutation kept xs → IsNonDecreasingBy (λ x. x.number) xs → EachHas (IsLaterItem since firsts) kept
        → AllZip (IsLater since) firsts (map (λ x. x.item.value) xs)
    in_place firsts kept xs once same order ones =
        let numbers = numbers_by_number (length firsts) xs (IsPermutation-trans _ _ _ once (IsPermutation-map (λ (x : NumberedItem T). x.number) kept xs same)) order in
        placed [] firsts xs 0 refl numbers (every_permutation (IsLaterItem since firsts) kept xs same ones)

-- each number of a range occurs in it once, and no other number does
range_here : (a n x : ℕ) → a ≤ x → x < a + n → counted x (range_with_len a n) ≡ 1
range_here a zero x from below = absurd (omega (arith, from, below))
range_here a (suc n) x from below = ⊎_elim
    (λ (e : a ≡ x). let s = sum_by-cons (hit x) a (range_with_len (a + 1) n) in
    let h = hit_here x a e in
    let rest = none_below x (a + 1) (range_with_len (a + 1) n) (range_rises (a + 1) (a + 1) n (omega arith)) (omega (arith, e)) in
    omega (arith, s, h, rest))
    (λ (ne : a ≢ x). let s = sum_by-cons (hit x) a (range_with_len (a + 1) n) in
    let h = hit_else x a ne in
    let rest = range_here (a + 1) n x (omega (arith, from, ne)) (omega (arith, below)) in
    omega (arith, s, h, rest))
    (cases_eq a x)

range_else : (a n x : ℕ) → a + n ≤ x → counted x (range_with_len a n) ≡ 0
range_else a zero x past = refl
range_else a (suc n) x past =
    let s = sum_by-cons (hit x) a (range_with_len (a + 1) n) in
    let h = hit_else x a (λ e. omega (arith, e, past)) in
    let rest = range_else (a + 1) n x (omega (arith, past)) in
    omega (arith, s, h, rest)

pub stand_once : (n : ℕ) (xs ys : List ℕ) → IsPermutation (range_with_len 0 n) (xs ++ ys) → (x : ℕ) → x < n → occurrences x xs + occurrences x ys ≡ 1
unfolding hit
stand_once n xs ys once x below =
    let all : counted x (xs ++ ys) ≡ counted x (range_with_len 0 n) = sum_by-IsPermutation (hit x) _ _ once in
    sym (sum_by-append (hit x) xs ys) ∙ all ∙ range_here 0 n x (omega arith) (omega (arith, below))

pub stand_nowhere : (n : ℕ) (xs ys : List ℕ) → IsPermutation (range_with_len 0 n) (xs ++ ys) → (x : ℕ) → n ≤ x → occurrences x xs + occurrences x ys ≡ 0
unfolding hit
stand_nowhere n xs ys once x past =
    let all : counted x (xs ++ ys) ≡ counted x (range_with_len 0 n) = sum_by-IsPermutation (hit x) _ _ once in
    sym (sum_by-append (hit x) xs ys) ∙ all ∙ range_else 0 n x (omega (arith, past))
