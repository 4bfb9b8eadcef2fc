-- The value of digits, up to a cap.
use Rattle.std.proofs.Common.{◌≡◌, ℕ, ◌+◌, ◌*◌, ◌<◌, ◌≤◌, min, List, length, get_or, take, refl, arith, inl, inr}
use Rattle.std.proofs.Math.Nat.{mul-le-mul_left}
use Rattle.std.specs.Char.{digit_value}
use Rattle.std.specs.Str.Parse.{digits_value}
use Rattle.std.proofs.lemmas.Int.Digits.{digits_value_more}
use Rattle.std.proofs.lemmas.Bool.{cases_lt}

scaled_ge : (cap n base : ℕ) → 0 < base → cap ≤ n → cap ≤ n * base
scaled_ge cap n base positive h =
    let a : n * 1 ≤ n * base = mul-le-mul_left n (omega arith) in
    omega arith

capped_step : (v n d base cap : ℕ) → 0 < base → n ≡ min v cap → min (n * base + d) cap ≡ min (v * base + d) cap
capped_step v n d base cap positive e = elim (cases_lt v cap) [
  | inl h ↦ let same : n ≡ v = omega arith in rw same refl
  | inr h ↦
      let a : cap ≤ n * base = scaled_ge cap n base positive (omega arith) in
      let b : cap ≤ v * base = scaled_ge cap v base positive h in
      omega arith
]

pub capped_more : (base : ℕ) (ds : List ℕ) (i n cap : ℕ) → i < length ds → 0 < base
    → n ≡ min (digits_value base (take i ds)) cap
    → min (n * base + digit_value (get_or ds i 0)) cap ≡ min (digits_value base (take (i + 1) ds)) cap
capped_more base ds i n cap within positive so_far =
    rw (digits_value_more base ds i within) (capped_step (digits_value base (take i ds)) n (digit_value (get_or ds i 0)) base cap positive so_far)
