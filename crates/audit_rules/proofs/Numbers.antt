-- Numbers that ascend.
use Rattle.std.proofs.Common.{◌≡◌, ◌≢◌, ℕ, ◌+◌, ◌<◌, ◌≤◌, zero, suc, inl, inr, List, [], ◌∷◌, length, get_or, slice_get, sym, ◌∙◌, subst, arith}
use Rattle.std.specs.Prelude.{Contains, Some}
use Rattle.std.proofs.lemmas.Bool.{cases_order}
use Rattle.audit_rules.specs.Asking.{IsRising}

pub above : (below top : ℕ) (ns : List ℕ) (j : ℕ) → IsRising below top ns → j < length ns → below < get_or ns j 0
above below top [] j rising inside = absurd (omega arith)
above below top (n ∷ ns) zero rising inside = rising.0
above below top (n ∷ ns) (suc j) rising inside = omega (arith, above n top ns j rising.2 (omega arith), rising.0)

pub sorted : (below top : ℕ) (ns : List ℕ) (i j : ℕ) → IsRising below top ns → i < j → j < length ns → get_or ns i 0 < get_or ns j 0
sorted below top [] i j rising less inside = absurd (omega arith)
sorted below top (n ∷ ns) i zero rising less inside = absurd (omega arith)
sorted below top (n ∷ ns) zero (suc j) rising less inside = above n top ns j rising.2 (omega arith)
sorted below top (n ∷ ns) (suc i) (suc j) rising less inside = sorted n top ns i j rising.2 (omega arith) (omega arith)

pub read : (ns : List ℕ) (i x : ℕ) → slice_get ns i ≡ Some x → get_or ns i 0 ≡ x
read [] i x is = absurd cc
read (n ∷ ns) zero x is = cc
read (n ∷ ns) (suc i) x is = read ns i x is

pub within : {X : Type 0} (xs : List X) (i : ℕ) (x : X) → slice_get xs i ≡ Some x → i < length xs
within [] i x is = absurd cc
within (y ∷ ys) zero x is = omega arith
within (y ∷ ys) (suc i) x is = omega (arith, within ys i x is)

contained : (ns : List ℕ) (k x : ℕ) → k < length ns → get_or ns k x ≡ x → get_or ns k 0 ≡ x
contained [] k x inside is = absurd (omega arith)
contained (n ∷ ns) zero x inside is = is
contained (n ∷ ns) (suc k) x inside is = contained ns k x (omega arith) is

up-to : (below top : ℕ) (ns : List ℕ) (k m : ℕ) → IsRising below top ns → k ≤ m → m < length ns → get_or ns k 0 ≤ get_or ns m 0
up-to below top ns k m rising upto inside = elim (cases_order k m) [
  | inl same ↦ subst (λ (i : ℕ). get_or ns i 0 ≤ get_or ns m 0) (sym same) (omega arith)
  | inr apart ↦ elim apart [ inl less ↦ omega (arith, sorted below top ns k m rising less inside) | inr more ↦ absurd (omega arith) ]
]

pub less-before : (below top : ℕ) (ns : List ℕ) (m x seq : ℕ) → IsRising below top ns → slice_get ns m ≡ Some x → x < seq
    → (k : ℕ) → k < m + 1 → get_or ns k 0 < seq
less-before below top ns m x seq rising is less k upto =
    omega (arith, read ns m x is, up-to below top ns k m rising (omega arith) (within ns m x is))

pub more-behind : (below top : ℕ) (ns : List ℕ) (m x seq : ℕ) → IsRising below top ns → slice_get ns m ≡ Some x → seq ≤ x
    → (k : ℕ) → m ≤ k → k < length ns → seq ≤ get_or ns k 0
more-behind below top ns m x seq rising is more k from inside =
    omega (arith, read ns m x is, up-to below top ns m k rising from inside)

pub not-there : (ns : List ℕ) (low x seq : ℕ) → slice_get ns low ≡ Some x → x ≢ seq → get_or ns low 0 ≢ seq
not-there ns low x seq is apart same = apart (sym (read ns low x is) ∙ same)

-- a search that has reached an index: numbers before it are smaller, and numbers from it on aren't
pub none-there : (below top : ℕ) (ns : List ℕ) (low seq : ℕ) → IsRising below top ns → ((k : ℕ) → k < low → get_or ns k 0 < seq)
    → ((k : ℕ) → low ≤ k → k < length ns → seq ≤ get_or ns k 0) → (low < length ns → get_or ns low 0 ≢ seq) → Contains ns seq → ⊥
none-there below top ns low seq rising before behind apart (k, inside, is) =
    let here : get_or ns k 0 ≡ seq = contained ns k seq inside is in
    elim (cases_order k low) [
      | inl same ↦ apart (omega arith) (subst (λ (i : ℕ). get_or ns i 0 ≡ seq) same here)
      | inr other ↦ elim other [
        | inl less ↦ omega (arith, before k less)
        | inr more ↦ (let at_low : low < length ns = omega arith in omega (arith, here, behind low (omega arith) at_low, apart at_low, sorted below top ns low k rising more inside))
      ]
    ]
