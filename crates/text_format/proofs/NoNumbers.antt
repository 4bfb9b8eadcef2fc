-- The bits above those of an infinite float are NaNs.
use Rattle.std.proofs.Common.{◌≡◌, ◌≢◌, ℕ, ◌<◌, ◌/◌, ◌%◌, Bool, true, false, not, ◌&&◌, eqb, refl, arith}
use borrow.Author.Tests.{eq-eqb, ne_eqb}
use lib.Ieee.{nan_bits, binary32, binary64}

one_alone : (a b : Bool) → a ≡ true → b ≡ false → (a && not b) ≡ true
one_alone true false p q = refl
one_alone true true p q = absurd (cc)
one_alone false b p q = absurd (cc)

pub beyond_float : (b : ℕ) → 0x7f80_0000 < b % 0x8000_0000 → nan_bits binary32 b ≡ true
unfolding nan_bits
beyond_float b h =
    let full : b % 0x8000_0000 / 0x80_0000 ≡ 255 = omega arith in
    let some : b % 0x80_0000 ≢ 0 = λ e. omega (arith, e, full, h) in
    one_alone (eqb (b % 0x8000_0000 / 0x80_0000) 255) (eqb (b % 0x80_0000) 0) (eq-eqb _ _ full) (ne_eqb _ _ some)

pub beyond_double : (b : ℕ) → 0x7ff0_0000_0000_0000 < b % 0x8000_0000_0000_0000 → nan_bits binary64 b ≡ true
unfolding nan_bits
beyond_double b h =
    let full : b % 0x8000_0000_0000_0000 / 0x10_0000_0000_0000 ≡ 2047 = omega arith in
    let some : b % 0x10_0000_0000_0000 ≢ 0 = λ e. omega (arith, e, full, h) in
    one_alone (eqb (b % 0x8000_0000_0000_0000 / 0x10_0000_0000_0000) 2047) (eqb (b % 0x10_0000_0000_0000) 0) (eq-eqb _ _ full) (ne_eqb _ _ some)
