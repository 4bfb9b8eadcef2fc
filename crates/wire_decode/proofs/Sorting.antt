-- Contents by ascending number.
use Rattle.std.proofs.Common.{◌≡◌, ◌≢◌, ◌&&◌, ℕ, zero, suc, ◌+◌, ◌<◌, ◌≤◌, List, [], ◌∷◌, ◌++◌, length, take, get_or}
use Rattle.std.proofs.Common.{map, filter, Bool, true, false, not, cond, refl, ap, sym, subst, ◌∙◌, arith, ⊎_elim}
use Rattle.std.specs.Ordering.{nat_cmp, is_lt}
use Rattle.std.specs.List.Sorted.{ties, IsNonDecreasingBy, IsStableByKey}
use Rattle.std.proofs.lemmas.Bool.Decides.{nat_tests, eqb_tells}
use Rattle.std.proofs.lemmas.List.{take_more}
use Rattle.mrpc_table.specs.Node.{Node, no_fields, field, Content, push_field}
use Rattle.mrpc_table.specs.View.{content_of, node_of}
use Rattle.wire_decode.proofs.Views.{node_of-last}
use Rattle.mrpc_table.specs.declared.tree.FieldValue.{FieldValue}
use Rattle.mrpc_table.specs.declared.tree.FieldValue.TheVariants.{One}
use Rattle.mrpc_table.specs.declared.tree.Value.TheVariants.{Number}
use Rattle.wire_decode.specs.Merged.{contents_of}
use Rattle.wire_decode.specs.NumberOrder.{AreNumbersSortedFrom, AreNumbersAtMost}

abbrev Parts : Type 0
Parts = List (ℕ × FieldValue)

fall-from : (last : ℕ) (xs : Parts) → ((d : ℕ × FieldValue) → 0 < length xs → last ≤ (get_or xs 0 d).0) → IsNonDecreasingBy (λ p. p.0) xs → AreNumbersSortedFrom last (node_of xs)
fall-from last [] first h = tt
fall-from last (x ∷ []) first h = (first x (omega arith), tt)
fall-from last (x ∷ y ∷ ys) first h = (
  first x (omega arith),
  fall-from x.0 (y ∷ ys) (λ d w. h 0 1 d (omega arith) (omega arith))
      (λ i j d le w. h (suc i) (suc j) d (omega arith) (omega arith)),
)

pub never-fall : (xs : Parts) → IsNonDecreasingBy (λ p. p.0) xs → AreNumbersSortedFrom 0 (node_of xs)
never-fall xs h = fall-from 0 xs (λ d w. omega arith) h

abbrev below : ℕ × FieldValue → ℕ × FieldValue → Bool
below x y = is_lt (nat_cmp x.0 y.0)

ties-same : (m n : ℕ) → m ≡ n → (not (is_lt (nat_cmp n m)) && not (is_lt (nat_cmp m n))) ≡ true
ties-same m n e = grind (arith, nat_tests)

ties-differ : (m n : ℕ) → m ≢ n → (not (is_lt (nat_cmp n m)) && not (is_lt (nat_cmp m n))) ≡ false
ties-differ m n e = grind (arith, nat_tests)

-- the contents of a number are those of the parts that tie with it
contents-ties : (n : ℕ) (v : FieldValue) (xs : Parts) → contents_of n (node_of xs) ≡ map (λ p. content_of p.1) (filter (ties below (n, v)) xs)
contents-ties n v [] = refl
contents-ties n v (x ∷ xs) =
    ⊎_elim
    (λ s. ap (λ b. cond b (content_of x.1 ∷ contents_of n (node_of xs)) (contents_of n (node_of xs))) s.0
    ∙ ap (λ cs. content_of x.1 ∷ cs) (contents-ties n v xs)
    ∙ sym (ap (λ b. map (λ (p : ℕ × FieldValue). content_of p.1) (cond b (x ∷ filter (ties below (n, v)) xs) (filter (ties below (n, v)) xs))) (ties-same x.0 n s.1)))
    (λ s. ap (λ b. cond b (content_of x.1 ∷ contents_of n (node_of xs)) (contents_of n (node_of xs))) s.0
    ∙ contents-ties n v xs
    ∙ sym (ap (λ b. map (λ (p : ℕ × FieldValue). content_of p.1) (cond b (x ∷ filter (ties below (n, v)) xs) (filter (ties below (n, v)) xs))) (ties-differ x.0 n s.1)))
    (eqb_tells x.0 n)

-- a stable sort by number keeps the contents of each number in their order
pub sorted-contents : (xs ys : Parts) → IsStableByKey (λ p. p.0) nat_cmp xs ys → (n : ℕ) → contents_of n (node_of ys) ≡ contents_of n (node_of xs)
sorted-contents xs ys h n =
    contents-ties n (One (Number 0)) ys ∙ ap (map (λ p. content_of p.1)) (h (n, One (Number 0))) ∙ sym (contents-ties n (One (Number 0)) xs)

fall-pushed : (last n : ℕ) (c : Content) (t : Node) → last ≤ n → AreNumbersSortedFrom last t → AreNumbersAtMost n t → AreNumbersSortedFrom last (push_field t n c)
fall-pushed last n c no_fields le h most = (le, tt)
fall-pushed last n c (field m d t) le h most = (h.0, fall-pushed m n c t most.0 h.1 most.1)

pub most-weaker : (m n : ℕ) (t : Node) → m ≤ n → AreNumbersAtMost m t → AreNumbersAtMost n t
most-weaker m n no_fields le h = tt
most-weaker m n (field k c t) le h = (omega (arith, le, h.0), most-weaker m n t le h.1)

most-pushed : (m n : ℕ) (c : Content) (t : Node) → n ≤ m → AreNumbersAtMost m t → AreNumbersAtMost m (push_field t n c)
most-pushed m n c no_fields le h = (le, tt)
most-pushed m n c (field k d t) le h = (h.0, most-pushed m n c t le h.1)

-- the parts up to an index, and one more
pub taken-more : (xs : Parts) (i : ℕ) (x : ℕ × FieldValue) → i < length xs → x ≡ get_or xs i x
    → node_of (take (i + 1) xs) ≡ push_field (node_of (take i xs)) x.0 (content_of x.1)
taken-more xs i x within is = ap node_of (take_more xs i x within ∙ ap (λ e. take i xs ++ e ∷ []) (sym is)) ∙ node_of-last (take i xs) x

pub fall-more : (xs : Parts) (i last : ℕ) (x : ℕ × FieldValue) → i < length xs → x ≡ get_or xs i x → last ≤ x.0
    → AreNumbersSortedFrom 0 (node_of (take i xs)) → AreNumbersAtMost last (node_of (take i xs))
    → AreNumbersSortedFrom 0 (node_of (take (i + 1) xs)) × AreNumbersAtMost x.0 (node_of (take (i + 1) xs))
fall-more xs i last x within is le fall most =
    let wide = most-weaker last x.0 (node_of (take i xs)) le most in
    let P : Node → Type 0 = λ t. AreNumbersSortedFrom 0 t × AreNumbersAtMost x.0 t in
    subst P (sym (taken-more xs i x within is)) (
      fall-pushed 0 x.0 (content_of x.1) (node_of (take i xs))
          (omega arith) fall wide,
      most-pushed x.0 x.0 (content_of x.1) (node_of (take i xs)) (omega arith) wide,
    )

-- no number before an index is above the one there
fall-first : (last : ℕ) (xs : Parts) (i : ℕ) (d : ℕ × FieldValue) → AreNumbersSortedFrom last (node_of xs) → i < length xs → last ≤ (get_or xs i d).0
fall-first last [] i d h within = absurd (omega (arith, within))
fall-first last (x ∷ xs) zero d h within = h.0
fall-first last (x ∷ xs) (suc i) d h within = let rest = fall-first x.0 xs i d h.1 (omega (arith, within)) in let a = h.0 in omega (arith, rest, a)

pub fall-most : (last : ℕ) (xs : Parts) (i : ℕ) (x : ℕ × FieldValue) → AreNumbersSortedFrom last (node_of xs) → i < length xs
    → x ≡ get_or xs i x → AreNumbersAtMost x.0 (node_of (take i xs))
fall-most last [] i x h within is = absurd (omega (arith, within))
fall-most last (y ∷ xs) zero x h within is = tt
fall-most last (y ∷ xs) (suc i) x h within is = (
  let a = fall-first y.0 xs i x h.1 (omega (arith, within)) in
      let e = ap (λ p. p.0) is in omega (arith, a, e),
  fall-most y.0 xs i x h.1 (omega (arith, within)) is,
)
