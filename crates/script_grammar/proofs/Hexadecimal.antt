-- Hexadecimal digits, and the number that they spell.
use Rattle.std.proofs.Common.{◌≡◌, ℕ, zero, suc, Bool, ◌+◌, ◌*◌, ◌^◌, ◌<◌, ◌≤◌, true, List, [], ◌∷◌}
use Rattle.std.proofs.Common.{length, get_or, take, refl, sym, arith}
use Rattle.std.specs.List.{list_all}
use Rattle.std.specs.Char.{digit_value}
use Rattle.std.specs.Str.Parse.{AllDigits, digits_value}
use Rattle.std.proofs.Math.Nat.{pow-le-pow_right}
use Rattle.std.proofs.lemmas.Bool.{and_from, and_parts}
use Rattle.std.proofs.lemmas.Grind.{common_steps}
use Rattle.std.proofs.lemmas.Int.Digits.{digits_value-lt, digits_value_more}
use Rattle.std.proofs.lemmas.List.{length-take}
use Rattle.script_grammar.specs.Values.{is_hexadecimal}

pub digit_small : (c : ℕ) → is_hexadecimal c ≡ true → digit_value c < 16
digit_small c e = grind (arith, common_steps)

all_small : (ds : List ℕ) → list_all is_hexadecimal ds ≡ true → AllDigits 16 ds
all_small [] all = tt
all_small (c ∷ cs) all = let parts = and_parts (is_hexadecimal c) (list_all is_hexadecimal cs) all in (digit_small c parts.0, all_small cs parts.1)

-- fifteen digits leave room for one more
pub fifteen_digits : (ds : List ℕ) (i : ℕ) → list_all is_hexadecimal (take i ds) ≡ true → i ≤ 15 → digits_value 16 (take i ds) < 2 ^ 60
fifteen_digits ds i all few =
    let value = digits_value-lt 16 (take i ds) (all_small (take i ds) all) in
    let long : length (take i ds) ≤ 15 = omega (arith, length-take i ds, few) in
    let power : 16 ^ length (take i ds) ≤ 16 ^ 15 = pow-le-pow_right (omega arith) long in
    let is : 16 ^ 15 ≡ 2 ^ 60 = refl in
    omega (arith, value, power, is)

pub word_more : (digits : List ℕ) (i word value : ℕ) → i < length digits → word ≡ digits_value 16 (take i digits)
    → value ≡ digit_value (get_or digits i 0) → word * 16 + value ≡ digits_value 16 (take (i + 1) digits)
word_more digits i word value within so_far here = rw (so_far, here) (sym (digits_value_more 16 digits i within))

-- a property of the bytes so far and of one more
pub all_more : (p : ℕ → Bool) (xs : List ℕ) (i : ℕ) → i < length xs → list_all p (take i xs) ≡ true → p (get_or xs i 0) ≡ true → list_all p (take (i + 1) xs) ≡ true
all_more p [] i within so_far here = absurd (omega arith)
all_more p (x ∷ xs) zero within so_far here = and_from (p x) true here refl
all_more p (x ∷ xs) (suc i) within so_far here =
    let parts = and_parts (p x) (list_all p (take i xs)) so_far in
    let e : suc i + 1 ≡ suc (i + 1) = omega arith in
    rw e (and_from (p x) (list_all p (take (i + 1) xs)) parts.0 (all_more p xs i (omega arith) parts.1 here))
