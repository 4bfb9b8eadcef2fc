-- A text that is split at the first line feed, which a search for that byte found.
use Rattle.std.proofs.Common.{◌≡◌, ℕ, zero, suc, ◌+◌, ◌<◌, ◌==◌, Bool, true, false, List, [], ◌∷◌, length, get_or, take, drop, Some, None, refl, arith}
use Rattle.memchr.specs.Find.{IsFirstByte, is_byte}
use Rattle.mrpc_table.specs.Lines.{pieces_of}

isnt : (b : Bool) → (b ≡ true → ⊥) → b ≡ false
isnt true none = absurd (none refl)
isnt false none = refl

cut_at : (text : List ℕ) (i : ℕ) → i < length text → ((k : ℕ) → k < i → (get_or text k 0 == 10) ≡ true → ⊥) → (get_or text i 0 == 10) ≡ true
    → pieces_of text ≡ take i text ∷ pieces_of (drop (i + 1) text)
cut_at [] i within before here = absurd (omega arith)
cut_at (x ∷ xs) zero within before here = let h : (x == 10) ≡ true = here in rw h refl
cut_at (x ∷ xs) (suc i) within before here =
    let h : (x == 10) ≡ false = isnt (x == 10) (before 0 (omega arith)) in
    let rest = cut_at xs i (omega arith) (λ k lt. before (suc k) (omega arith)) here in
    let e : suc i + 1 ≡ suc (i + 1) = omega arith in
    rw (h, rest, e) refl

uncut : (text : List ℕ) → ((k : ℕ) → k < length text → (get_or text k 0 == 10) ≡ true → ⊥) → pieces_of text ≡ text ∷ []
uncut [] none = refl
uncut (x ∷ xs) none =
    let h : (x == 10) ≡ false = isnt (x == 10) (none 0 (omega arith)) in
    let rest = uncut xs (λ k lt. none (suc k) (omega arith)) in
    rw (h, rest) refl

pub found : (text : List ℕ) (i : ℕ) → IsFirstByte (is_byte 10) text (Some i) → pieces_of text ≡ take i text ∷ pieces_of (drop (i + 1) text)
found text i h = cut_at text i h.0.high (λ k lt. h.0.before k (omega arith) lt) h.1

pub nowhere : (text : List ℕ) → IsFirstByte (is_byte 10) text None → pieces_of text ≡ text ∷ []
nowhere text h = uncut text (λ k lt. h k (omega arith) lt)
