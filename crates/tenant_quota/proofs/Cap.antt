-- If tickets are each drawn once, at most the cap of them are below it.
use Rattle.std.proofs.Common.{◌≡◌, ℕ, zero, suc, ◌+◌, ◌-◌, ◌<◌, ◌≤◌, ◌⊎◌, inl, inr, Bool, List, length, true, false, cond, ap, arith}
use Rattle.std.specs.Prelude.{nat_lt}
use Rattle.std.specs.List.{range_with_len}
use Rattle.std.proofs.lemmas.Bool.Decides.{nat_tests}
use Rattle.std.proofs.lemmas.List.Sums.{sum_by-cons}
use Rattle.std.proofs.lemmas.List.Sorted.{sum_by-IsPermutation}
use Rattle.tenant_quota.specs.Drawing.{IsPermutationOfRange, allowed_by_cap}

below_or_not : (a cap : ℕ) → (a < cap) ⊎ (cap ≤ a)
below_or_not a cap = grind arith

abbrev ones_of : Bool → ℕ
ones_of b = cond b 1 0

abbrev ones : ℕ → ℕ → ℕ
ones a cap = ones_of (nat_lt a cap)

one_counts : (a cap : ℕ) → ones a cap + (cap - (a + 1)) ≤ cap - a
one_counts a cap =
    elim (below_or_not a cap) [
      | inl less ↦
          let test : nat_lt a cap ≡ true = grind (arith, nat_tests) in
          let is : ones a cap ≡ ones_of true = ap ones_of test in
          omega (arith, is, less)
      | inr most ↦
          let test : nat_lt a cap ≡ false = grind (arith, nat_tests) in
          let is : ones a cap ≡ ones_of false = ap ones_of test in
          omega (arith, is, most)
    ]

allowed_from : (a n cap : ℕ) → allowed_by_cap cap (range_with_len a n) ≤ cap - a
allowed_from a zero cap = omega arith
allowed_from a (suc n) cap =
    let head = sum_by-cons (λ t. cond (nat_lt t cap) 1 0) a (range_with_len (a + 1) n) in
    let rest = allowed_from (a + 1) n cap in
    let here : ones a cap + (cap - (a + 1)) ≤ cap - a = one_counts a cap in
    omega (arith, head, rest, here)

pub cap_kept : (cap : ℕ) (tickets : List ℕ) → IsPermutationOfRange tickets → allowed_by_cap cap tickets ≤ cap
cap_kept cap tickets once =
    let same = sum_by-IsPermutation (λ t. cond (nat_lt t cap) 1 0) (range_with_len 0 (length tickets)) tickets once in
    let most = allowed_from 0 (length tickets) cap in
    omega (arith, same, most)
