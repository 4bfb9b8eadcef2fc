-- Decimal digits, few enough for 64 bits, and the words of a text that starts with them.
use Rattle.std.proofs.Common.{◌≡◌, ℕ, suc, ◌+◌, ◌-◌, ◌*◌, ◌^◌, ◌<◌, ◌≤◌, ◌==◌, ◌&&◌, true, false, nat_le, Bool, All}
use Rattle.std.proofs.Common.{List, [], ◌∷◌, Option, length, take, get_or, Some, ap, sym, ◌∙◌, refl, arith, leb-true}
use Rattle.std.proofs.Common.{le-ltb, lt-ltb, append-nil}
use Rattle.std.specs.Char.{digit_value, is_ascii_digit}
use Rattle.std.specs.List.{list_all, AllByRecursion}
use Rattle.std.specs.Str.Parse.{digits_value}
use Rattle.std.proofs.Math.Nat.{pow-le-pow_right, pow-suc}
use Rattle.std.proofs.lemmas.Bool.{ne_eqb}
use Rattle.std.proofs.lemmas.Int.Digits.{digits_value_more}
use Rattle.std.proofs.lemmas.List.Elements.{All-from_recursion}
use Rattle.std.proofs.lemmas.List.Folds.{list_all_more}
use Rattle.std.proofs.lemmas.List.Splits.{slice_split_at, slice_split_none}
use Rattle.mrpc_table.specs.Lines.{words_of, is_decimal, number_of}
use Rattle.audit_text.specs.Lines.{WordList}
use Rattle.audit_text.specs.Numbers.{IsNumberBefore}
use Rattle.audit_text.specs.Reading.{number_from, read_number}
use Rattle.audit_text.proofs.WordsOfLines.{below-some}

both : (a b : Bool) → (a && b) ≡ true → (a ≡ true) × (b ≡ true)
both true b e = (refl, e)
both false b e = absurd cc

pub digit_is : (c : ℕ) → is_ascii_digit c ≡ true → (48 ≤ c) × (c ≤ 57) × (digit_value c ≡ c - 48)
digit_is c e =
    let tests = both (nat_le 48 c) (nat_le c 57) e in
    let low : 48 ≤ c = leb-true 48 c tests.0 in
    let high : c ≤ 57 = leb-true c 57 tests.1 in
    (low, high, rw (le-ltb c 48 low, lt-ltb c 58 (omega arith)) refl)

pub less_by_a_digit : (n i d : ℕ) → n < 10 ^ i → d ≤ 9 → n * 10 + d < 10 ^ (i + 1)
less_by_a_digit n i d less digit =
    let next : i + 1 ≡ suc i = omega arith in
    let power : 10 ^ suc i ≡ 10 ^ i * 10 = pow-suc 10 i in
    rw (next, power) (omega (arith, less, digit))

pub fits_by_a_digit : (n i d : ℕ) → n < 10 ^ i → i < 19 → d ≤ 9 → n * 10 + d < 18446744073709551616
fits_by_a_digit n i d less few digit =
    let positive : 0 < 10 = omega arith in
    let at_most : i ≤ 18 = omega (arith, few) in
    let most : 10 ^ i ≤ 10 ^ 18 = pow-le-pow_right positive at_most in
    omega (arith, less, most, digit)

pub digits_more : (word : List ℕ) (i : ℕ) → i < length word → list_all is_ascii_digit (take i word) ≡ true → is_ascii_digit (get_or word i 0) ≡ true
    → list_all is_ascii_digit (take (i + 1) word) ≡ true
digits_more word i within before here = list_all_more is_ascii_digit word i 0 within ∙ (rw (before, here) refl)

pub value_more : (word : List ℕ) (i n d : ℕ) → i < length word → is_ascii_digit (get_or word i 0) ≡ true → n ≡ digits_value 10 (take i word) → d ≡ get_or word i 0 - 48
    → n * 10 + d ≡ digits_value 10 (take (i + 1) word)
value_more word i n d within here so_far digit =
    let value : digit_value (get_or word i 0) ≡ get_or word i 0 - 48 = (digit_is (get_or word i 0) here).2 in
    sym (digits_value_more 10 word i within ∙ rw (value, sym so_far, sym digit) refl)

pub fits : (n i : ℕ) → n < 10 ^ i → i ≤ 19 → n < 18446744073709551616
fits n i less few =
    let positive : 0 < 10 = omega arith in
    let most : 10 ^ i ≤ 10 ^ 19 = pow-le-pow_right positive few in
    omega (arith, less, most)

pub spells : (word : List ℕ) (n : ℕ) → is_decimal word ≡ true → n ≡ digits_value 10 word → number_of word ≡ Some n
spells word n decimal value = rw decimal (ap Some (sym value))

-- ---- words

no_space : (c : ℕ) → is_ascii_digit c ≡ true → (c == 32) ≡ false
no_space c e =
    let low = (digit_is c e).0 in
    ne_eqb c 32 (λ same. omega (arith, low, same))

each_no_space : (digits : List ℕ) → list_all is_ascii_digit digits ≡ true → AllByRecursion (λ c. (c == 32) ≡ false) digits
each_no_space [] e = tt
each_no_space (c ∷ cs) e =
    let parts = both (is_ascii_digit c) (list_all is_ascii_digit cs) e in
    (no_space c parts.0, each_no_space cs parts.1)

no_spaces : (digits : List ℕ) → list_all is_ascii_digit digits ≡ true → All (λ c. (c == 32) ≡ false) digits
no_spaces digits e = All-from_recursion (λ c. (c == 32) ≡ false) digits (each_no_space digits e)

word_before : {text rest : List ℕ} {n : ℕ} → (w : IsNumberBefore text n (32 ∷ rest)) → words_of text ≡ w.digits ∷ words_of rest
word_before {text} {rest} w = ap words_of w.parts ∙ slice_split_at (λ c. c == 32) w.digits 32 rest (no_spaces w.digits w.are_digits) refl

last_word : {text : List ℕ} {n : ℕ} → (w : IsNumberBefore text n []) → words_of text ≡ w.digits ∷ []
last_word w = ap words_of (w.parts ∙ append-nil w.digits) ∙ slice_split_none (λ c. c == 32) w.digits (no_spaces w.digits w.are_digits)

-- digits that spell a number, as the first of some words
said : (digits : List ℕ) (n : ℕ) (words : WordList) → number_of digits ≡ Some n → n < 2 ^ 64 → read_number (2 ^ 64) (digits ∷ words) ≡ Some (n, words)
unfolding read_number
said digits n words spells small = ap (λ (found : Option ℕ). number_from (2 ^ 64) found words) spells ∙ below-some (2 ^ 64) n words small

pub number_before : (text rest : List ℕ) (n : ℕ) → IsNumberBefore text n (32 ∷ rest) → read_number (2 ^ 64) (words_of text) ≡ Some (n, words_of rest)
number_before text rest n w = ap (λ (words : WordList). read_number (2 ^ 64) words) (word_before w) ∙ said w.digits n (words_of rest) w.spells w.small

pub last_number : (text : List ℕ) (n : ℕ) → IsNumberBefore text n [] → read_number (2 ^ 64) (words_of text) ≡ Some (n, [])
last_number text n w = ap (λ (words : WordList). read_number (2 ^ 64) words) (last_word w) ∙ said w.digits n [] w.spells w.small
