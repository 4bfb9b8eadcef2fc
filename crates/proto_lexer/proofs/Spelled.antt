-- At most eight digits spell a number of 32 bits.
use Rattle.std.proofs.Common.{◌≡◌, ℕ, zero, suc, ◌+◌, ◌<◌, ◌≤◌, ◌^◌, List, [], ◌∷◌, length, take, refl, arith, inl, inr}
use Rattle.std.specs.List.{prefix_len}
use Rattle.std.specs.Char.{is_digit}
use Rattle.std.specs.Str.Parse.{AllDigits}
use Rattle.std.proofs.lemmas.Int.Digits.{digits_value-lt}
use Rattle.std.proofs.lemmas.List.{length-take}
use Rattle.std.proofs.lemmas.Bool.{cases_Bool, ltb-true}
use Rattle.std.proofs.Math.Nat.{pow-le-pow_left, pow-le-pow_right}
use Rattle.proto_lexer.specs.Strings.{leading_digit_count, leading_number}

front_digits : (base : ℕ) (bytes : List ℕ) (n : ℕ) → n ≤ prefix_len (λ c. is_digit c base) bytes → AllDigits base (take n bytes)
front_digits base [] zero h = tt
front_digits base [] (suc n) h = absurd (omega arith)
front_digits base (c ∷ cs) zero h = tt
front_digits base (c ∷ cs) (suc n) h = elim (cases_Bool (is_digit c base)) [
  | inl e ↦
      let m : prefix_len (λ d. is_digit d base) (c ∷ cs) ≡ 1 + prefix_len (λ d. is_digit d base) cs = rw e refl in
      (ltb-true _ _ e, front_digits base cs n (omega (arith, m)))
  | inr e ↦ absurd (let m : ◌≡◌ {A = ℕ} (prefix_len (λ d. is_digit d base) (c ∷ cs)) 0 = rw e refl in omega (arith, m))
]

pub spelled_small : (base most : ℕ) (bytes : List ℕ) → 0 < base → base ≤ 16 → most ≤ 8 → leading_number base most bytes < 2 ^ 32
spelled_small base most bytes positive small few_digits =
    let n = leading_digit_count base most bytes in
    let all = front_digits base bytes n (omega arith) in
    let lt : leading_number base most bytes < base ^ length (take n bytes) = digits_value-lt base (take n bytes) all in
    let long : length (take n bytes) ≤ 8 = omega (arith, length-take n bytes) in
    let up : base ^ length (take n bytes) ≤ base ^ 8 = pow-le-pow_right positive long in
    let top : base ^ 8 ≤ 16 ^ 8 = pow-le-pow_left small 8 in
    omega arith
