-- A list that is split at a separator.
use Rattle.std.proofs.Common.{◌≡◌, ℕ, zero, suc, ◌+◌, ◌<◌, ◌==◌, Bool, true, false, cond, List, [], ◌∷◌, length, get_or, take, drop, refl, ap, arith}
use Rattle.std.specs.List.{slice_split, onto_first}

pub cut_at : (sep : ℕ) (text : List ℕ) (i : ℕ) → i < length text → ((k : ℕ) → k < i → (get_or text k 0 == sep) ≡ false) → (get_or text i 0 == sep) ≡ true
    → slice_split (λ c. c == sep) text ≡ take i text ∷ slice_split (λ c. c == sep) (drop (i + 1) text)
cut_at sep [] i within before here = absurd (omega arith)
cut_at sep (x ∷ xs) zero within before here = let h : (x == sep) ≡ true = here in rw h refl
cut_at sep (x ∷ xs) (suc i) within before here =
    let h : (x == sep) ≡ false = before 0 (omega arith) in
    let rest = cut_at sep xs i (omega arith) (λ k lt. before (suc k) (omega arith)) here in
    let e : suc i + 1 ≡ suc (i + 1) = omega arith in
    rw (h, rest, e) refl

pub cut_none : (sep : ℕ) (text : List ℕ) → ((k : ℕ) → k < length text → (get_or text k 0 == sep) ≡ false) → slice_split (λ c. c == sep) text ≡ text ∷ []
cut_none sep [] none = refl
cut_none sep (x ∷ xs) none =
    let h : (x == sep) ≡ false = none 0 (omega arith) in
    let rest = cut_none sep xs (λ k lt. none (suc k) (omega arith)) in
    rw (h, rest) refl

-- a list has at least one part
pub has_part : (sep : ℕ) (text : List ℕ) → (part : List ℕ) × (parts : List (List ℕ)) × (slice_split (λ c. c == sep) text ≡ part ∷ parts)
has_part sep [] = ([], [], refl)
has_part sep (x ∷ xs) =
    let rest = has_part sep xs in
    elim (x == sep) as (λ (b : Bool). (part : List ℕ) × (parts : List (List ℕ))
    × (cond b ([] ∷ slice_split (λ c. c == sep) xs) (onto_first x (slice_split (λ c. c == sep) xs)) ≡ part
    ∷ parts)) [
      | true ↦ ([], slice_split (λ c. c == sep) xs, refl)
      | false ↦ (x ∷ rest.0, rest.1, ap (onto_first x) rest.2)
    ]
