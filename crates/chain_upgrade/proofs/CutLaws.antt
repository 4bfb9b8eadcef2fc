-- Properties of cuts and of the positions that they give.
use Rattle.std.proofs.Common.{◌≡◌, ◌≢◌, ℕ, ◌+◌, ◌-◌, ◌<◌, ◌≤◌, zero, suc, max, min, inl, inr, List, [], ◌∷◌, ◌++◌, length, get_or, refl, arith}
use Rattle.std.proofs.lemmas.Bool.{cases_lt}
use Rattle.std.proofs.lemmas.Bool.Decides.{nat_tests}
use Rattle.chain_upgrade.specs.Cuts.{position_at, cut_at, IsFalling, IsShort, zeroed, closed_up, raised_at, taken_out, lowered}

-- ---- positions

over : (k c : ℕ) (cs : List ℕ) → k < c → position_at k (c ∷ cs) ≡ position_at k cs + 1
over k c cs above = grind (arith, nat_tests)

under : (k c : ℕ) (cs : List ℕ) → c ≤ k → position_at k (c ∷ cs) ≡ 0
under k c cs below = grind (arith, nat_tests)

pub bottom : (k top : ℕ) (cs : List ℕ) → IsFalling top cs → top ≤ k → position_at k cs ≡ 0
bottom k top [] falls past = refl
bottom k top (c ∷ cs) falls past = under k c cs (omega (arith, falls.0))

pub position-short : (k n : ℕ) (cs : List ℕ) → IsShort n cs → position_at k cs ≤ n
position-short k n [] short = omega arith
position-short k zero (c ∷ cs) short = omega (arith, under k c cs (omega (arith, short.0)))
position-short k (suc n) (c ∷ cs) short = elim (cases_lt k c) [
  | inl above ↦ omega (arith, over k c cs above, position-short k n cs short)
  | inr below ↦ omega (arith, under k c cs below)
]

pub position-falls : (j k : ℕ) (cs : List ℕ) → j ≤ k → position_at k cs ≤ position_at j cs
position-falls j k [] le = omega arith
position-falls j k (c ∷ cs) le = elim (cases_lt k c) [
  | inl above ↦ omega (arith, over k c cs above, over j c cs (omega arith), position-falls j k cs le)
  | inr below ↦ omega (arith, under k c cs below)
]

pub cut-low : (top p : ℕ) (cs : List ℕ) → IsFalling top cs → cut_at top cs p ≤ top
cut-low top zero cs falls = omega arith
cut-low top (suc p) [] falls = omega arith
cut-low top (suc zero) (c ∷ cs) falls = falls.0
cut-low top (suc (suc p)) (c ∷ cs) falls = omega (arith, falls.0, cut-low c (suc p) cs falls.1)

cut-next : (top p c : ℕ) (cs : List ℕ) → cut_at top (c ∷ cs) (suc p) ≡ cut_at c cs p
cut-next top zero c cs = refl
cut-next top (suc p) c cs = refl

-- an index below the cut of the next position is that of a call past the position
pub position-over : (k top p : ℕ) (cs : List ℕ) → IsFalling top cs → k < get_or cs p 0 → p < position_at k cs
position-over k top p [] falls below = absurd (omega arith)
position-over k top zero (c ∷ cs) falls below = omega (arith, over k c cs below)
position-over k top (suc p) (c ∷ cs) falls below =
    let low = cut-low c (suc p) cs falls.1 in
    omega (arith, falls.0, over k c cs (omega arith), position-over k c p cs falls.1 below)

-- an index at or above it is that of a call at the position or an earlier one
pub position-under : (k p : ℕ) (cs : List ℕ) → get_or cs p 0 ≤ k → position_at k cs ≤ p
position-under k p [] past = omega arith
position-under k zero (c ∷ cs) past = omega (arith, under k c cs past)
position-under k (suc p) (c ∷ cs) past = elim (cases_lt k c) [
  | inl above ↦ omega (arith, over k c cs above, position-under k p cs past)
  | inr below ↦ omega (arith, under k c cs below)
]

-- an index between the cut of the next position and its own is that of a call at the position
pub position-between : (k top p : ℕ) (cs : List ℕ) → IsFalling top cs → get_or cs p 0 ≤ k → k < cut_at top cs p → position_at k cs ≡ p
position-between k top zero cs falls past below = omega (arith, position-under k zero cs past)
position-between k top (suc p) cs falls past below = omega (arith, position-under k (suc p) cs past, position-over k top p cs falls below)

-- ---- positions after a move

pub position-zeroed : (k p : ℕ) (cs : List ℕ) → position_at k (zeroed p cs) ≡ min (position_at k cs) p
position-zeroed k p [] = omega arith
position-zeroed k zero (c ∷ cs) = omega (arith, under k 0 (zeroed zero cs) (omega arith))
position-zeroed k (suc p) (c ∷ cs) = elim (cases_lt k c) [
  | inl above ↦ omega (arith, over k c cs above, over k c (zeroed p cs) above, position-zeroed k p cs)
  | inr below ↦ omega (arith, under k c cs below, under k c (zeroed p cs) below)
]

position-end : (k : ℕ) (cs : List ℕ) → position_at k (cs ++ 0 ∷ []) ≡ position_at k cs
position-end k [] = under k 0 [] (omega arith)
position-end k (c ∷ cs) = elim (cases_lt k c) [
  | inl above ↦ omega (arith, over k c cs above, over k c (cs ++ 0 ∷ []) above, position-end k cs)
  | inr below ↦ omega (arith, under k c cs below, under k c (cs ++ 0 ∷ []) below)
]

pub position-behind : (k top p : ℕ) (cs : List ℕ) → IsFalling top cs → p < position_at k cs → position_at k (closed_up p cs) + 1 ≡ position_at k cs
position-behind k top p [] falls behind = absurd (omega arith)
position-behind k top zero (c ∷ cs) falls behind = elim (cases_lt k c) [
  | inl above ↦ omega (arith, over k c cs above, position-end k cs)
  | inr below ↦ absurd (omega (arith, under k c cs below))
]
position-behind k top (suc p) (c ∷ cs) falls behind = elim (cases_lt k c) [
  | inl above ↦
      let there = over k c cs above in
      omega (arith, over k c (closed_up p cs) above, position-behind k c p cs falls.1 (omega arith))
  | inr below ↦ absurd (omega (arith, under k c cs below))
]

pub position-before : (k top p : ℕ) (cs : List ℕ) → IsFalling top cs → position_at k cs ≤ p → position_at k (closed_up p cs) ≡ position_at k cs
position-before k top p [] falls before = refl
position-before k top zero (c ∷ cs) falls before = elim (cases_lt k c) [
  | inl above ↦ absurd (omega (arith, over k c cs above))
  | inr below ↦ omega (arith, under k c cs below, position-end k cs, bottom k c cs falls.1 below)
]
position-before k top (suc p) (c ∷ cs) falls before = elim (cases_lt k c) [
  | inl above ↦
      let there = over k c cs above in
      omega (arith, over k c (closed_up p cs) above, position-before k c p cs falls.1 (omega arith))
  | inr below ↦ omega (arith, under k c cs below, under k c (closed_up p cs) below)
]

pub position-raised : (k top p : ℕ) (cs : List ℕ) → IsFalling top cs → p < length cs → k ≡ get_or cs p 0 → k < cut_at top cs p → position_at k (raised_at p cs) ≡ p + 1
position-raised k top p [] falls within is below = absurd (omega arith)
position-raised k top zero (c ∷ cs) falls within is below = omega (arith, over k (c + 1) cs (omega arith), bottom k c cs falls.1 (omega arith))
position-raised k top (suc p) (c ∷ cs) falls within is below =
    let next = cut-next top p c cs in
    let low = cut-low c p cs falls.1 in
    omega (arith, over k c (raised_at p cs) (omega arith), position-raised k c p cs falls.1 (omega arith) is (omega arith))

pub position-unraised : (k p : ℕ) (cs : List ℕ) → k ≢ get_or cs p 0 → position_at k (raised_at p cs) ≡ position_at k cs
position-unraised k p [] other = refl
position-unraised k zero (c ∷ cs) other = elim (cases_lt k c) [
  | inl above ↦ omega (arith, over k c cs above, over k (c + 1) cs (omega arith))
  | inr below ↦ omega (arith, under k c cs below, under k (c + 1) cs (omega arith))
]
position-unraised k (suc p) (c ∷ cs) other = elim (cases_lt k c) [
  | inl above ↦ omega (arith, over k c cs above, over k c (raised_at p cs) above, position-unraised k p cs other)
  | inr below ↦ omega (arith, under k c cs below, under k c (raised_at p cs) below)
]

pub position-front : (k j : ℕ) (cs : List ℕ) → k < j → position_at k (taken_out j cs) ≡ position_at k cs
position-front k j [] before = refl
position-front k j (c ∷ cs) before = elim (cases_lt k c) [
  | inl above ↦ omega (arith, over k c cs above, over k (max (min c j) (c - 1)) (taken_out j cs) (omega arith), position-front k j cs before)
  | inr below ↦ omega (arith, under k c cs below, under k (max (min c j) (c - 1)) (taken_out j cs) (omega arith))
]

pub position-back : (k j : ℕ) (cs : List ℕ) → j ≤ k → position_at k (taken_out j cs) ≡ position_at (k + 1) cs
position-back k j [] behind = refl
position-back k j (c ∷ cs) behind = elim (cases_lt (k + 1) c) [
  | inl above ↦ omega (arith, over (k + 1) c cs above, over k (max (min c j) (c - 1)) (taken_out j cs) (omega arith), position-back k j cs behind)
  | inr below ↦ omega (arith, under (k + 1) c cs below, under k (max (min c j) (c - 1)) (taken_out j cs) (omega arith))
]

pub position-kept : (k j : ℕ) (cs : List ℕ) → k < j → position_at k (lowered j cs) ≡ position_at k cs
position-kept k j [] before = refl
position-kept k j (c ∷ cs) before = elim (cases_lt k c) [
  | inl above ↦ omega (arith, over k c cs above, over k (min c j) (lowered j cs) (omega arith), position-kept k j cs before)
  | inr below ↦ omega (arith, under k c cs below, under k (min c j) (lowered j cs) (omega arith))
]

pub position-lowered : (k j : ℕ) (cs : List ℕ) → j ≤ k → position_at k (lowered j cs) ≡ 0
position-lowered k j [] behind = refl
position-lowered k j (c ∷ cs) behind = under k (min c j) (lowered j cs) (omega arith)
