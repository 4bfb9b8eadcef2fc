-- The remainder of all shares after some halvings.
use Rattle.std.proofs.Common.{◌≡◌, ℕ, zero, suc, ◌+◌, ◌*◌, ◌/◌, ◌^◌, ◌<◌, ◌≤◌, ap, ◌∙◌, arith}
use Rattle.std.proofs.Math.Nat.{pow-suc, mul-le-mul_right}
use Rattle.std.proofs.Math.Pow.{pow_mono}
use Rattle.tenant_quota.specs.Drawing.{IsShareAfter}

twice_more : (a p : ℕ) → a * (p * 2) ≡ (a * 2) * p
twice_more a p = grind arith

pub once_more : (times share kept : ℕ) → IsShareAfter times share → kept + share / 2 ≡ share → IsShareAfter (times + 1) kept
once_more times share kept was half =
    let more : share ≤ kept * 2 = omega (arith, half) in
    let grown : share * 2 ^ times ≤ (kept * 2) * 2 ^ times = mul-le-mul_right (2 ^ times) more in
    let one_more : times + 1 ≡ suc times = omega arith in
    let next : 2 ^ (times + 1) ≡ 2 ^ times * 2 = ap (λ k. 2 ^ k) one_more ∙ pow-suc 2 times in
    let same : kept * 2 ^ (times + 1) ≡ (kept * 2) * 2 ^ times = ap (λ p. kept * p) next ∙ twice_more kept (2 ^ times) in
    omega (arith, was, grown, same)

pub enough : (times share : ℕ) → IsShareAfter times share → times < 64 → 2 ≤ share
enough times zero was few = absurd (omega (arith, was))
enough times (suc zero) was few =
    let most : 2 ^ times ≤ 2 ^ 63 = pow_mono {i = times} {j = 63} (omega (arith, few)) in
    absurd (omega (arith, was, most))
enough times (suc (suc share)) was few = omega arith
