-- The values of digits.
use Rattle.std.proofs.Common.{◌≡◌, ℕ, zero, suc, ◌<◌, ◌==◌, ◌&&◌, ◌||◌, nat_le, Bool, true, false, refl, ap, ◌∙◌, arith, inl, inr}
use Rattle.std.specs.Prelude.{slice_index}
use Rattle.std.proofs.lemmas.Bool.Decides.{eqb_tells, nat_tests}
use Rattle.hex.specs.Hex.{lower_digits}
use Rattle.audit_text.specs.declared.hexadecimal.TheConstants.{VALUES}

-- a test holds for each number below a bound
abbrev all_below : (ℕ → Bool) → ℕ → Bool
all_below test zero = true
all_below test (suc n) = test n && all_below test n

both : (a b : Bool) → (a && b) ≡ true → (a ≡ true) × (b ≡ true)
both true b e = (refl, e)
both false b e = absurd cc

below : (test : ℕ → Bool) (n d : ℕ) → all_below test n ≡ true → d < n → test d ≡ true
below test zero d all less = absurd (omega (arith, less))
below test (suc n) d all less =
    let parts = both (test n) (all_below test n) all in
    elim (eqb_tells d n) [
      | inl same ↦ ap test same.1 ∙ parts.0
      | inr other ↦ below test n d parts.1 (omega (arith, less, other.1))
    ]

-- a byte has no value, or is the digit of its value
abbrev is_digit : ℕ → Bool
is_digit d = nat_le 16 (slice_index VALUES d) || d == slice_index lower_digits (slice_index VALUES d)

abbrev has_value : ℕ → Bool
has_value value = slice_index VALUES (slice_index lower_digits value) == value

pub digit-of : (d : ℕ) → d < 256 → slice_index VALUES d < 16 → d ≡ slice_index lower_digits (slice_index VALUES d)
digit-of d less small =
    let test : is_digit d ≡ true = below is_digit 256 d refl less in
    grind (arith, nat_tests)

pub value-of : (value : ℕ) → value < 16 → slice_index VALUES (slice_index lower_digits value) ≡ value
value-of value less =
    let test : has_value value ≡ true = below has_value 16 value refl less in
    grind (arith, nat_tests)
