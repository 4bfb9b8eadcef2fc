-- Sums of counts, as entries are inserted.
use Rattle.std.proofs.Common.{◌≡◌, ℕ, ◌+◌, ◌<◌, ◌≤◌, ◌^◌, Bool, true, false, List, [], ◌∷◌, Option, Some, None}
use Rattle.std.proofs.Common.{unwrap_or, option_map, sum_by, refl, ap, sym, ◌∙◌, arith, inl, inr, ◌⊎◌}
use Rattle.std.specs.List.{AllByRecursion}
use Rattle.std.specs.List.Sorted.{IsStrictlySortedBy}
use Rattle.std.specs.Map.{keys_of, lookup, values_of}
use Rattle.std.specs.BTreeMap.{insert_entry, is_at}
use Rattle.std.specs.Ordering.{nat_cmp}
use Rattle.std.specs.Cmp.{nat_cmp_total}
use Rattle.std.specs.declared.cmp.Ordering.TheVariants.{Less}
use Rattle.std.proofs.lemmas.List.Sums.{sum_by-cons}
use Rattle.std.proofs.lemmas.Map.Entries.{sum_by-insert_entry}
use Rattle.telemetry.specs.declared.counts.Counts.{Counts}
use Rattle.telemetry.specs.declared.counts.What.{What}
use Rattle.telemetry.specs.declared.counts.What.TheVariants.{Took, Sent, Refused, Standing}
use Rattle.telemetry.specs.Counts.{AreIn64Bits, no_counts, count_named, one_more, plus}
use Rattle.telemetry.specs.Totals.{counts_in, sums_of}

-- counts with the same four numbers are equal
pub same_counts : (a b : Counts) → a.took ≡ b.took → a.sent ≡ b.sent → a.refused ≡ b.refused → a.standing ≡ b.standing → a ≡ b
same_counts a b took sent refused standing =
    ap (λ (n : ℕ). let c : Counts = record { took = n; sent = a.sent; refused = a.refused; standing = a.standing } in c) took
    ∙ ap (λ (n : ℕ). let c : Counts = record { took = b.took; sent = n; refused = a.refused; standing = a.standing } in c) sent
    ∙ ap (λ (n : ℕ). let c : Counts = record { took = b.took; sent = b.sent; refused = n; standing = a.standing } in c) refused
    ∙ ap (λ (n : ℕ). let c : Counts = record { took = b.took; sent = b.sent; refused = b.refused; standing = n } in c) standing

pub bool_cases : (b : Bool) → (b ≡ true) ⊎ (b ≡ false)
bool_cases true = inl refl
bool_cases false = inr refl

-- a count of a method is at most the sum
pub in-le-sum : (f : Counts → ℕ) → f no_counts ≡ 0 → (es : List (ℕ × Counts)) (method : ℕ) → f (counts_in es method) ≤ sum_by f (values_of es)
in-le-sum f none [] method = omega (arith, none)
in-le-sum f none (e ∷ es) method =
    let step : sum_by f (values_of (e ∷ es)) ≡ f e.1 + sum_by f (values_of es) = sum_by-cons f e.1 (values_of es) in
    elim (bool_cases (is_at (nat_cmp method) e.0)) [
      | inl at ↦ let here : counts_in (e ∷ es) method ≡ e.1 = rw at refl in let same = ap f here in omega arith
      | inr off ↦ let later : counts_in (e ∷ es) method ≡ counts_in es method = rw off refl in let same = ap f later in let rest = in-le-sum f none es method in omega arith
    ]

found_or_none : (f : Counts → ℕ) → f no_counts ≡ 0 → (o : Option Counts) → unwrap_or (option_map f o) 0 ≡ f (unwrap_or o no_counts)
found_or_none f none None = sym none
found_or_none f none (Some c) = refl

-- the sum after an entry was inserted
pub sum-inserted : (f : Counts → ℕ) → f no_counts ≡ 0 → (es : List (ℕ × Counts)) (k : ℕ) (v : Counts)
    → IsStrictlySortedBy nat_cmp (keys_of es)
    → sum_by f (values_of (insert_entry nat_cmp es k v)) + f (counts_in es k) ≡ sum_by f (values_of es) + f v
sum-inserted f none es k v sorted = rw (← found_or_none f none (lookup (is_at (nat_cmp k)) es)) (sum_by-insert_entry f nat_cmp_total es k v sorted)

-- how one more event changes the sums
pub sums-added : (es : List (ℕ × Counts)) (k : ℕ) (what : What) → IsStrictlySortedBy nat_cmp (keys_of es)
    → sums_of (insert_entry nat_cmp es k (one_more what (counts_in es k))) ≡ one_more what (sums_of es)
sums-added es k Took sorted =
    let t = sum-inserted (λ c. c.took) refl es k (one_more Took (counts_in es k)) sorted in
    let s = sum-inserted (λ c. c.sent) refl es k (one_more Took (counts_in es k)) sorted in
    let r = sum-inserted (λ c. c.refused) refl es k (one_more Took (counts_in es k)) sorted in
    let d = sum-inserted (λ c. c.standing) refl es k (one_more Took (counts_in es k)) sorted in
    same_counts _ _ (omega (arith, t)) (omega (arith, s)) (omega (arith, r)) (omega (arith, d))
sums-added es k Sent sorted =
    let t = sum-inserted (λ c. c.took) refl es k (one_more Sent (counts_in es k)) sorted in
    let s = sum-inserted (λ c. c.sent) refl es k (one_more Sent (counts_in es k)) sorted in
    let r = sum-inserted (λ c. c.refused) refl es k (one_more Sent (counts_in es k)) sorted in
    let d = sum-inserted (λ c. c.standing) refl es k (one_more Sent (counts_in es k)) sorted in
    same_counts _ _ (omega (arith, t)) (omega (arith, s)) (omega (arith, r)) (omega (arith, d))
sums-added es k Refused sorted =
    let t = sum-inserted (λ c. c.took) refl es k (one_more Refused (counts_in es k)) sorted in
    let s = sum-inserted (λ c. c.sent) refl es k (one_more Refused (counts_in es k)) sorted in
    let r = sum-inserted (λ c. c.refused) refl es k (one_more Refused (counts_in es k)) sorted in
    let d = sum-inserted (λ c. c.standing) refl es k (one_more Refused (counts_in es k)) sorted in
    same_counts _ _ (omega (arith, t)) (omega (arith, s)) (omega (arith, r)) (omega (arith, d))
sums-added es k Standing sorted =
    let t = sum-inserted (λ c. c.took) refl es k (one_more Standing (counts_in es k)) sorted in
    let s = sum-inserted (λ c. c.sent) refl es k (one_more Standing (counts_in es k)) sorted in
    let r = sum-inserted (λ c. c.refused) refl es k (one_more Standing (counts_in es k)) sorted in
    let d = sum-inserted (λ c. c.standing) refl es k (one_more Standing (counts_in es k)) sorted in
    same_counts _ _ (omega (arith, t)) (omega (arith, s)) (omega (arith, r)) (omega (arith, d))

-- one more of a method fits if one more of the sum does
pub one_more_fits : (es : List (ℕ × Counts)) (k : ℕ) (what : What) → count_named what (sums_of es) + 1 < 2 ^ 64 → count_named what (counts_in es k) + 1 < 2 ^ 64
one_more_fits es k Took fits = omega (arith, in-le-sum (λ c. c.took) refl es k)
one_more_fits es k Sent fits = omega (arith, in-le-sum (λ c. c.sent) refl es k)
one_more_fits es k Refused fits = omega (arith, in-le-sum (λ c. c.refused) refl es k)
one_more_fits es k Standing fits = omega (arith, in-le-sum (λ c. c.standing) refl es k)

pub one_more_small : (counts : Counts) (what : What) → AreIn64Bits counts → count_named what counts + 1 < 2 ^ 64 → AreIn64Bits (one_more what counts)
one_more_small counts Took small fits = record { took = fits; sent = small.sent; refused = small.refused; standing = small.standing }
one_more_small counts Sent small fits = record { took = small.took; sent = fits; refused = small.refused; standing = small.standing }
one_more_small counts Refused small fits = record { took = small.took; sent = small.sent; refused = fits; standing = small.standing }
one_more_small counts Standing small fits = record { took = small.took; sent = small.sent; refused = small.refused; standing = fits }

-- sums of counts, in any order
abbrev pub sum_counts : List Counts → Counts
sum_counts counts = record {
  took = sum_by (λ c. c.took) counts;
  sent = sum_by (λ c. c.sent) counts;
  refused = sum_by (λ c. c.refused) counts;
  standing = sum_by (λ c. c.standing) counts;
}

pub plus-none : (a : Counts) → plus a no_counts ≡ a
plus-none a = same_counts (plus a no_counts) a (omega arith) (omega arith) (omega arith) (omega arith)

pub plus-assoc : (a b c : Counts) → plus (plus a b) c ≡ plus a (plus b c)
plus-assoc a b c = same_counts (plus (plus a b) c) (plus a (plus b c)) (omega arith) (omega arith) (omega arith) (omega arith)

pub sum_counts-cons : (c : Counts) (cs : List Counts) → sum_counts (c ∷ cs) ≡ plus c (sum_counts cs)
sum_counts-cons c cs = same_counts _ _ (sum_by-cons (λ s. s.took) c cs) (sum_by-cons (λ s. s.sent) c cs) (sum_by-cons (λ s. s.refused) c cs) (sum_by-cons (λ s. s.standing) c cs)

-- no later entry has the key
pub lookup-below : (k : ℕ) (es : List (ℕ × Counts)) → AllByRecursion (λ y. nat_cmp k y ≡ Less) (keys_of es) → lookup (is_at (nat_cmp k)) es ≡ None
lookup-below k [] below = refl
lookup-below k (e ∷ es) below = rw below.0 (lookup-below k es below.1)

pub counts-below : (k : ℕ) (c : Counts) (es : List (ℕ × Counts)) → IsStrictlySortedBy nat_cmp (keys_of ((k, c) ∷ es)) → counts_in es k ≡ no_counts
unfolding IsStrictlySortedBy
counts-below k c es sorted = ap (λ o. unwrap_or o no_counts) (lookup-below k es sorted.0)

pub sorted-tail : (e : ℕ × Counts) (es : List (ℕ × Counts)) → IsStrictlySortedBy nat_cmp (keys_of (e ∷ es)) → IsStrictlySortedBy nat_cmp (keys_of es)
unfolding IsStrictlySortedBy
sorted-tail e es sorted = sorted.1
