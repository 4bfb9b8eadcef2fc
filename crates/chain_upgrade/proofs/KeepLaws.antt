-- Moves preserve the invariant of cuts.
use Rattle.std.proofs.Common.{◌≡◌, ℕ, ◌+◌, ◌-◌, ◌<◌, ◌≤◌, zero, suc, max, min, inl, inr, List, [], ◌∷◌, ◌++◌, map, get_or, refl, arith}
use Rattle.std.proofs.lemmas.Bool.{cases_lt}
use Rattle.chain_upgrade.specs.Cuts.{cut_at, IsFalling, IsShort, zeroed, closed_up, raised_at, taken_out, lowered}

pub falls-more : (low top : ℕ) (cs : List ℕ) → low ≤ top → IsFalling low cs → IsFalling top cs
falls-more low top [] le falls = tt
falls-more low top (c ∷ cs) le falls = (omega (arith, falls.0), falls.1)

pub falls-zero : (top : ℕ) (cs : List ℕ) → IsFalling top (zeroed 0 cs)
falls-zero top [] = tt
falls-zero top (c ∷ cs) = (omega arith, falls-zero 0 cs)

pub falls-zeroed : (top p : ℕ) (cs : List ℕ) → IsFalling top cs → IsFalling top (zeroed p cs)
falls-zeroed top p [] falls = tt
falls-zeroed top zero (c ∷ cs) falls = (omega arith, falls-zero 0 cs)
falls-zeroed top (suc p) (c ∷ cs) falls = (falls.0, falls-zeroed c p cs falls.1)

falls-end : (top : ℕ) (cs : List ℕ) → IsFalling top cs → IsFalling top (cs ++ 0 ∷ [])
falls-end top [] falls = (omega arith, tt)
falls-end top (c ∷ cs) falls = (falls.0, falls-end c cs falls.1)

pub falls-closed : (top p : ℕ) (cs : List ℕ) → IsFalling top cs → IsFalling top (closed_up p cs)
falls-closed top p [] falls = tt
falls-closed top zero (c ∷ cs) falls = falls-end top cs (falls-more c top cs falls.0 falls.1)
falls-closed top (suc p) (c ∷ cs) falls = (falls.0, falls-closed c p cs falls.1)

pub falls-raised : (top p : ℕ) (cs : List ℕ) → IsFalling top cs → get_or cs p 0 < cut_at top cs p → IsFalling top (raised_at p cs)
falls-raised top p [] falls below = tt
falls-raised top zero (c ∷ cs) falls below = (omega arith, falls-more c (c + 1) cs (omega arith) falls.1)
falls-raised top (suc zero) (c ∷ cs) falls below = (falls.0, falls-raised c zero cs falls.1 below)
falls-raised top (suc (suc p)) (c ∷ cs) falls below = (falls.0, falls-raised c (suc p) cs falls.1 below)

one-out : (j c : ℕ) → j < c → (max (min c j) (c - 1)) ≡ c - 1
one-out j c less = omega arith

none-out : (j c : ℕ) → c ≤ j → (max (min c j) (c - 1)) ≡ c
none-out j c more = omega arith

falls-same : (top j : ℕ) (cs : List ℕ) → top ≤ j → IsFalling top cs → IsFalling top (taken_out j cs)
falls-same top j [] le falls = tt
falls-same top j (c ∷ cs) le falls =
    let same = none-out j c (omega (arith, falls.0)) in
    (omega (arith, falls.0), falls-more c (max (min c j) (c - 1)) (taken_out j cs) (omega arith) (falls-same c j cs (omega (arith, falls.0)) falls.1))

pub falls-out : (top less j : ℕ) (cs : List ℕ) → top ≡ less + 1 → j ≤ less → IsFalling top cs → IsFalling less (taken_out j cs)
falls-out top less j [] is le falls = tt
falls-out top less j (c ∷ cs) is le falls = elim (cases_lt j c) [
  | inl above ↦
      let fewer = one-out j c above in
      (omega (arith, falls.0), falls-more (c - 1) (max (min c j) (c - 1)) (taken_out j cs) (omega arith) (falls-out c (c - 1) j cs (omega arith) (omega arith) falls.1))
  | inr below ↦
      let same = none-out j c below in
      (omega (arith, falls.0), falls-more c (max (min c j) (c - 1)) (taken_out j cs) (omega arith) (falls-same c j cs below falls.1))
]

falls-min : (top j : ℕ) (cs : List ℕ) → IsFalling top cs → IsFalling (min top j) (lowered j cs)
falls-min top j [] falls = tt
falls-min top j (c ∷ cs) falls = (omega (arith, falls.0), falls-min c j cs falls.1)

pub falls-lowered : (top j : ℕ) (cs : List ℕ) → IsFalling top cs → IsFalling top (lowered j cs)
falls-lowered top j cs falls = falls-more (min top j) top (lowered j cs) (omega arith) (falls-min top j cs falls)

pub falls-none : (top : ℕ) (cs : List ℕ) → IsFalling top cs → IsFalling 0 (lowered 0 cs)
falls-none top cs falls = falls-more (min top 0) 0 (lowered 0 cs) (omega arith) (falls-min top 0 cs falls)

pub short-more : (p n : ℕ) (cs : List ℕ) → p ≤ n → IsShort p cs → IsShort n cs
short-more p n [] le short = tt
short-more zero zero (c ∷ cs) le short = short
short-more zero (suc n) (c ∷ cs) le short = short-more zero n cs (omega arith) short.1
short-more (suc p) zero (c ∷ cs) le short = absurd (omega arith)
short-more (suc p) (suc n) (c ∷ cs) le short = short-more p n cs (omega arith) short

pub short-zeroed : (p : ℕ) (cs : List ℕ) → IsShort p (zeroed p cs)
short-zeroed p [] = tt
short-zeroed zero (c ∷ cs) = (refl, short-zeroed zero cs)
short-zeroed (suc p) (c ∷ cs) = short-zeroed p cs

short-end : (n : ℕ) (cs : List ℕ) → IsShort n cs → IsShort n (cs ++ 0 ∷ [])
short-end zero [] short = (refl, tt)
short-end (suc n) [] short = tt
short-end zero (c ∷ cs) short = (short.0, short-end zero cs short.1)
short-end (suc n) (c ∷ cs) short = short-end n cs short

pub short-closed : (n p : ℕ) (cs : List ℕ) → p ≤ n → IsShort (suc n) cs → IsShort n (closed_up p cs)
short-closed n p [] le short = tt
short-closed n zero (c ∷ cs) le short = short-end n cs short
short-closed zero (suc p) (c ∷ cs) le short = absurd (omega arith)
short-closed (suc n) (suc p) (c ∷ cs) le short = short-closed n p cs (omega arith) short

pub short-raised : (n p : ℕ) (cs : List ℕ) → p < n → IsShort n cs → IsShort n (raised_at p cs)
short-raised n p [] less short = tt
short-raised zero p (c ∷ cs) less short = absurd (omega arith)
short-raised (suc n) zero (c ∷ cs) less short = short
short-raised (suc n) (suc p) (c ∷ cs) less short = short-raised n p cs (omega arith) short

short-map : (f : ℕ → ℕ) (n : ℕ) (cs : List ℕ) → f 0 ≡ 0 → IsShort n cs → IsShort n (map f cs)
short-map f n [] is short = tt
short-map f zero (c ∷ cs) is short = (let none = short.0 in cc, short-map f zero cs is short.1)
short-map f (suc n) (c ∷ cs) is short = short-map f n cs is short

pub short-out : (n j : ℕ) (cs : List ℕ) → IsShort n cs → IsShort n (taken_out j cs)
short-out n j cs short = short-map (λ cut. max (min cut j) (cut - 1)) n cs (none-out j 0 (omega arith)) short

pub short-lowered : (n j : ℕ) (cs : List ℕ) → IsShort n cs → IsShort n (lowered j cs)
short-lowered n j cs short = short-map (λ cut. min cut j) n cs (omega arith) short
