-- The bytes of a word, in its low ones.
use Rattle.std.proofs.Common.{◌≡◌, ℕ, zero, suc, ◌+◌, ◌-◌, ◌*◌, ◌<◌, ◌≤◌, ◌^◌, List, [], ◌∷◌, ◌++◌, length, take}
use Rattle.std.proofs.Common.{drop, get_or, refl, ap, ◌∙◌, arith, length-append, append-nil}
use Rattle.std.specs.Int.{w64, from_le_bytes}
use Rattle.std.specs.List.{AllByRecursion}
use Rattle.std.proofs.Math.Seq.{take-append-add}
use Rattle.std.proofs.lemmas.Nat.{le_bytes_8}
use Rattle.graph_form.specs.Roles.{word_bytes}
use Rattle.graph_place.specs.Laid.{HasBytes}

abbrev pub AreBytes : List ℕ → Type 0
AreBytes bs = AllByRecursion (λ b. b < 256) bs

pub are_bytes : (bs : List ℕ) → ((i : ℕ) → get_or bs i 0 < 256) → AreBytes bs
are_bytes [] h = tt
are_bytes (b ∷ bs) h = (h 0, are_bytes bs (λ i. h (suc i)))

-- a number of zeros
abbrev pub zeros : ℕ → List ℕ
zeros zero = []
zeros (suc n) = 0 ∷ zeros n

pub drop_zeros : (n m : ℕ) → n ≤ m → drop n (zeros m) ≡ zeros (m - n)
drop_zeros zero m h = let same : m ≡ m - 0 = omega arith in ap zeros same
drop_zeros (suc n) zero h = absurd (omega (arith, h))
drop_zeros (suc n) (suc m) h = let same : m - n ≡ suc m - suc n = omega arith in drop_zeros n m (omega (arith, h)) ∙ ap zeros same

length_zeros : (n : ℕ) → length (zeros n) ≡ n
length_zeros zero = refl
length_zeros (suc n) = let rest = length_zeros n in omega (arith, rest)

bytes_zeros : (n i : ℕ) → get_or (zeros n) i 0 < 256
bytes_zeros zero i = omega arith
bytes_zeros (suc n) zero = omega arith
bytes_zeros (suc n) (suc i) = bytes_zeros n i

bytes_padded : (bs : List ℕ) (n : ℕ) → AreBytes bs → (i : ℕ) → get_or (bs ++ zeros n) i 0 < 256
bytes_padded [] n h i = bytes_zeros n i
bytes_padded (b ∷ bs) n h zero = h.0
bytes_padded (b ∷ bs) n h (suc i) = bytes_padded bs n h.1 i

front : (bs ys : List ℕ) → take (length bs) (bs ++ ys) ≡ bs
front bs ys = let e : length bs ≡ length bs + 0 = omega arith in ap (λ n. take n (bs ++ ys)) e ∙ take-append-add bs ys 0 ∙ append-nil bs

-- fewer than eight bytes make a small number
short : (bs : List ℕ) (v : ℕ) → length bs < 8 → AreBytes bs → v ≡ from_le_bytes w64 (bs ++ zeros (8 - length bs)) → v < 2 ^ (8 * length bs)
short [] v few h is = omega (arith, is)
short (a ∷ []) v few h is = omega (arith, is, h.0)
short (a ∷ b ∷ []) v few h is = omega (arith, is, h.0, h.1.0)
short (a ∷ b ∷ c ∷ []) v few h is = omega (arith, is, h.0, h.1.0, h.1.1.0)
short (a ∷ b ∷ c ∷ d ∷ []) v few h is = omega (arith, is, h.0, h.1.0, h.1.1.0, h.1.1.1.0)
short (a ∷ b ∷ c ∷ d ∷ e ∷ []) v few h is = omega (arith, is, h.0, h.1.0, h.1.1.0, h.1.1.1.0, h.1.1.1.1.0)
short (a ∷ b ∷ c ∷ d ∷ e ∷ f ∷ []) v few h is = omega (arith, is, h.0, h.1.0, h.1.1.0, h.1.1.1.0, h.1.1.1.1.0, h.1.1.1.1.1.0)
short (a ∷ b ∷ c ∷ d ∷ e ∷ f ∷ g ∷ []) v few h is = omega (arith, is, h.0, h.1.0, h.1.1.0, h.1.1.1.0, h.1.1.1.1.0, h.1.1.1.1.1.0, h.1.1.1.1.1.1.0)
short (a ∷ b ∷ c ∷ d ∷ e ∷ f ∷ g ∷ x ∷ bs) v few h is = absurd (omega (arith, few))

pub padded : (bs : List ℕ) (v : ℕ) → length bs ≤ 8 → AreBytes bs → v < 2 ^ 64 → v ≡ from_le_bytes w64 (bs ++ zeros (8 - length bs)) → HasBytes v bs
padded bs v few h small is =
    let whole : length (bs ++ zeros (8 - length bs)) ≡ 8 = omega (arith, length-append bs (zeros (8 - length bs)), length_zeros (8 - length bs), few) in
    let bytes : word_bytes v ≡ bs ++ zeros (8 - length bs) = le_bytes_8 (bs ++ zeros (8 - length bs)) v whole (bytes_padded bs (8 - length bs) h) is in
    record {
      low = ap (take (length bs)) bytes ∙ front bs (zeros (8 - length bs));
      spare = λ less. short bs v less h is;
      small = small;
    }
