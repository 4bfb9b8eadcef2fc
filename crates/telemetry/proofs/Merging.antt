-- Totals added up, entry by entry.
use Rattle.std.proofs.Common.{◌≡◌, ℕ, ◌+◌, ◌≤◌, ◌==◌, Bool, true, false, if◌then◌else◌, cond, List, ◌∷◌, Option}
use Rattle.std.proofs.Common.{Some, unwrap_or, refl, ap, sym, ◌∙◌, arith, inl, inr, ◌⊎◌}
use Rattle.std.proofs.lemmas.Bool.{eqb-true}
use Rattle.std.specs.List.Sorted.{IsStrictlySortedBy}
use Rattle.std.specs.Map.{keys_of, values_of}
use Rattle.std.specs.BTreeMap.{insert_entry, is_at}
use Rattle.std.specs.Ordering.{nat_cmp}
use Rattle.telemetry.specs.declared.counts.Counts.{Counts}
use Rattle.telemetry.specs.Counts.{AreIn64Bits, no_counts, plus}
use Rattle.telemetry.specs.Totals.{counts_in, sums_of}
use Rattle.telemetry.proofs.Adding.{bool_cases, counts-below, in-le-sum, plus-assoc, plus-none, same_counts, sorted-tail, sum-inserted, sum_counts-cons}

-- the merged entries and the remaining ones have the counts of both
pub record IsMerging (counts others merged left : List (ℕ × Counts)) : Type 0 where
  pub each : (m : ℕ) → plus (counts_in merged m) (counts_in left m) ≡ plus (counts_in counts m) (counts_in others m)
  pub sums : plus (sums_of merged) (sums_of left) ≡ plus (sums_of counts) (sums_of others)
  pub ascends : IsStrictlySortedBy nat_cmp (keys_of merged)
  pub left_ascends : IsStrictlySortedBy nat_cmp (keys_of left)

-- the sums of two counts of one method fit
pub sum_fits : (counts others merged rest : List (ℕ × Counts)) (k : ℕ) (c : Counts)
    → IsMerging counts others merged ((k, c) ∷ rest) → AreIn64Bits (plus (sums_of counts) (sums_of others))
    → AreIn64Bits (plus (counts_in merged k) c)
sum_fits counts others merged rest k c merging small =
    let sums : plus (sums_of merged) (plus c (sums_of rest)) ≡ plus (sums_of counts) (sums_of others) =
    ap (λ s. plus (sums_of merged) s) (sym (sum_counts-cons c (values_of rest))) ∙ merging.sums in
    let took : (sums_of merged).took + (c.took + (sums_of rest).took) ≡ (sums_of counts).took + (sums_of others).took = ap (λ (s : Counts). s.took) sums in
    let took_in : (counts_in merged k).took ≤ (sums_of merged).took = in-le-sum (λ s. s.took) refl merged k in
    let sent : (sums_of merged).sent + (c.sent + (sums_of rest).sent) ≡ (sums_of counts).sent + (sums_of others).sent = ap (λ (s : Counts). s.sent) sums in
    let sent_in : (counts_in merged k).sent ≤ (sums_of merged).sent = in-le-sum (λ s. s.sent) refl merged k in
    let refused : (sums_of merged).refused + (c.refused + (sums_of rest).refused) ≡ (sums_of counts).refused + (sums_of others).refused = ap (λ (s : Counts). s.refused) sums in
    let refused_in : (counts_in merged k).refused ≤ (sums_of merged).refused = in-le-sum (λ s. s.refused) refl merged k in
    let standing : (sums_of merged).standing + (c.standing + (sums_of rest).standing) ≡ (sums_of counts).standing + (sums_of others).standing = ap (λ (s : Counts). s.standing) sums in
    let standing_in : (counts_in merged k).standing ≤ (sums_of merged).standing = in-le-sum (λ s. s.standing) refl merged k in
    record { took = omega (arith, small.took); sent = omega (arith, small.sent); refused = omega (arith, small.refused); standing = omega (arith, small.standing) }

-- the sums after an entry's counts were added
sums-merged : (merged : List (ℕ × Counts)) (k : ℕ) (c : Counts) → IsStrictlySortedBy nat_cmp (keys_of merged)
    → sums_of (insert_entry nat_cmp merged k (plus (counts_in merged k) c)) ≡ plus (sums_of merged) c
sums-merged merged k c sorted =
    let t = sum-inserted (λ s. s.took) refl merged k (plus (counts_in merged k) c) sorted in
    let s = sum-inserted (λ s. s.sent) refl merged k (plus (counts_in merged k) c) sorted in
    let r = sum-inserted (λ s. s.refused) refl merged k (plus (counts_in merged k) c) sorted in
    let d = sum-inserted (λ s. s.standing) refl merged k (plus (counts_in merged k) c) sorted in
    same_counts _ _ (omega (arith, t)) (omega (arith, s)) (omega (arith, r)) (omega (arith, d))

pub is_at-same : (m k : ℕ) → is_at (nat_cmp m) k ≡ (m == k)
is_at-same m k = grind arith

-- a step: the first remaining entry is added
pub merge_more : (counts others merged rest fresh : List (ℕ × Counts)) (k : ℕ) (c : Counts) → IsMerging counts others merged ((k, c) ∷ rest)
    → fresh ≡ insert_entry nat_cmp merged k (plus (counts_in merged k) c) → IsStrictlySortedBy nat_cmp (keys_of fresh)
    → ((m : ℕ) → counts_in fresh m ≡ (if m == k then plus (counts_in merged k) c else counts_in merged m))
    → IsMerging counts others fresh rest
merge_more counts others merged rest fresh k c merging is sorted at = record {
  each = λ m. each_more m (bool_cases (m == k));
  sums = ap (λ s. plus s (sums_of rest)) (ap sums_of is ∙ sums-merged merged k c merging.ascends)
      ∙ plus-assoc (sums_of merged) c (sums_of rest) ∙ ap (λ s. plus (sums_of merged) s)
      (sym (sum_counts-cons c (values_of rest))) ∙ merging.sums;
  ascends = sorted;
  left_ascends = sorted-tail (k, c) rest merging.left_ascends;
}
  where
    each_more : (m : ℕ) → ((m == k) ≡ true) ⊎ ((m == k) ≡ false) → plus (counts_in fresh m) (counts_in rest m) ≡ plus (counts_in counts m) (counts_in others m)
    each_more m (inl same) =
        let e : m ≡ k = eqb-true m k same in
        let here : counts_in fresh m ≡ plus (counts_in merged m) c = at m ∙ (rw (same, e) refl) in
        let first : counts_in ((k, c) ∷ rest) m ≡ c = rw (is_at-same m k, same) refl in
        let none : counts_in rest m ≡ no_counts = rw e (counts-below k c rest merging.left_ascends) in
        rw (here, none, plus-none (plus (counts_in merged m) c)) (rw first at (merging.each m))
    each_more m (inr other) =
        let here : counts_in fresh m ≡ counts_in merged m = at m ∙ (rw other refl) in
        let later : counts_in ((k, c) ∷ rest) m ≡ counts_in rest m = rw (is_at-same m k, other) refl in
        rw here (rw later at (merging.each m))

is_at-flip : (k m : ℕ) → is_at (nat_cmp k) m ≡ (m == k)
is_at-flip k m = grind arith

-- the counts after an entry was inserted
pub inserted_at : (k m : ℕ) (v : Counts) (o : Option Counts) → unwrap_or (cond (is_at (nat_cmp k) m) (Some v) o) no_counts ≡ (if m == k then v else unwrap_or o no_counts)
inserted_at k m v o = rw (is_at-flip k m) (by_test (m == k))
  where
    by_test : (b : Bool) → unwrap_or (cond b (Some v) o) no_counts ≡ (if b then v else unwrap_or o no_counts)
    by_test true = refl
    by_test false = refl
