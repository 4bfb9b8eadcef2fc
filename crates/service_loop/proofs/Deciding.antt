-- Whether an operation is due.
use Rattle.std.proofs.Common.{◌≡◌, ℕ, ◌<◌, ◌≤◌, zero, suc, Bool, true, false, List, [], ◌∷◌, length, refl, arith}
use Rattle.std.specs.Prelude.{Some, leb, slice_get}
use Rattle.std.specs.Bool.{OnTrue}
use Rattle.std.proofs.lemmas.Bool.{leb-true}

on-true : (b : Bool) (P : Type 0) → (b ≡ true → P) → OnTrue b P
on-true true P p = p refl
on-true false P p = tt

pub on-so : (b : Bool) (P : Type 0) → P → OnTrue b P
on-so b P p = on-true b P (λ is. p)

pub on-within : (m n : ℕ) (P : Type 0) → (m ≤ n → P) → OnTrue (leb m n) P
on-within m n P p = on-true (leb m n) P (λ is. p (leb-true m n is))

pub there : {X : Type 0} (xs : List X) (i : ℕ) → i < length xs → (x : X) × (slice_get xs i ≡ Some x)
there [] i within = absurd (omega (arith, within))
there (x ∷ xs) zero within = (x, refl)
there (x ∷ xs) (suc i) within = there xs i (omega (arith, within))
