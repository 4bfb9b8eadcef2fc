-- The decimal digits of a number of any size, and their reader.
use Rattle.std.proofs.Common.{◌≡◌, ◌≢◌, ℕ, zero, suc, ◌+◌, ◌*◌, ◌/◌, ◌%◌, ◌^◌, ◌<◌, ◌≤◌, ◌==◌, ◌&&◌, ◌||◌, not, Bool}
use Rattle.std.proofs.Common.{true, false, cond, List, [], ◌∷◌, ◌++◌, length, get_or, take, map, Some, None, inl, inr}
use Rattle.std.proofs.Common.{refl, ap, sym, subst, ◌∙◌, arith}
use Rattle.std.specs.List.{list_all, AllByRecursion}
use Rattle.std.specs.Char.{is_ascii_digit, digit_value}
use Rattle.std.specs.Fmt.{decimal}
use Rattle.std.specs.Str.Parse.{digits_value}
use Rattle.std.specs.Int.Digits.{digits_of, number_from_digits, AllBelowBase}
use Rattle.std.proofs.lemmas.Bool.{cases_lt, eq-eqb, eqb-true, ne_eqb}
use Rattle.std.proofs.lemmas.Fmt.{decimal-digits_of, decimal_digit}
use Rattle.std.proofs.lemmas.Grind.{common_steps}
use Rattle.std.proofs.lemmas.Int.Digits.{digits_value_is, digits_of_step, all_below_base_digits_of, first_digits_of, number_digits_of, number_more}
use Rattle.std.proofs.lemmas.List.{take_more, take_all}
use Rattle.mrpc_table.specs.Lines.{is_decimal, number_of}
use Rattle.proto_set.specs.Bundle.{decimal_word}

-- ---- tests

both_left : (a b : Bool) → (a && b) ≡ true → a ≡ true
both_left true b e = refl
both_left false b e = e

both_right : (a b : Bool) → (a && b) ≡ true → b ≡ true
both_right true b e = e
both_right false b e = absurd cc

if_some : (b : Bool) (x y : ℕ) → cond b (Some x) None ≡ Some y → (b ≡ true) × (x ≡ y)
if_some true x y e = (refl, cc)
if_some false x y e = absurd cc

-- ---- digits and their values

value_of-glyph : (d : ℕ) → d < 10 → digit_value (48 + d) ≡ d
value_of-glyph d small = grind (arith, common_steps)

glyph_of-digit : (c : ℕ) → is_ascii_digit c ≡ true → (48 + digit_value c ≡ c) × (digit_value c < 10)
glyph_of-digit c digit = (grind (arith, common_steps), grind (arith, common_steps))

is_glyph : (d : ℕ) → d < 10 → is_ascii_digit (48 + d) ≡ true
is_glyph d small = grind (arith, common_steps)

values_of-glyphs : (ds : List ℕ) → AllBelowBase 10 ds → map digit_value (map (λ d. 48 + d) ds) ≡ ds
values_of-glyphs [] h = refl
values_of-glyphs (d ∷ ds) h = let e = value_of-glyph d h.0 in let es = values_of-glyphs ds h.1 in rw (e, es) refl

glyphs_of-values : (cs : List ℕ) → list_all is_ascii_digit cs ≡ true → (map (λ d. 48 + d) (map digit_value cs) ≡ cs) × AllBelowBase 10 (map digit_value cs)
glyphs_of-values [] h = (refl, tt)
glyphs_of-values (c ∷ cs) h =
    let first = glyph_of-digit c (both_left (is_ascii_digit c) (list_all is_ascii_digit cs) h) in
    let rest = glyphs_of-values cs (both_right (is_ascii_digit c) (list_all is_ascii_digit cs) h) in
    let same = first.0 in
    let others = rest.0 in
    (rw (same, others) refl, (first.1, rest.1))

are_glyphs : (ds : List ℕ) → AllBelowBase 10 ds → list_all is_ascii_digit (map (λ d. 48 + d) ds) ≡ true
are_glyphs [] h = refl
are_glyphs (d ∷ ds) h = let e = is_glyph d h.0 in let es = are_glyphs ds h.1 in rw (e, es) refl

-- ---- from a number to its digits, and back

step : (v d : ℕ) → d < 10 → 0 < v * 10 + d → digits_of 10 (v * 10 + d) ≡ digits_of 10 v ++ d ∷ []
step v d small some =
    let front : (v * 10 + d) / 10 ≡ v = omega arith in
    let last : (v * 10 + d) % 10 ≡ d = omega arith in
    digits_of_step 10 (v * 10 + d) (omega arith) some ∙ (λ i. digits_of 10 (front i) ++ last i ∷ [])

below_at : (ds : List ℕ) (i : ℕ) → AllBelowBase 10 ds → i < length ds → get_or ds i 0 < 10
below_at [] i h within = absurd (omega arith)
below_at (d ∷ ds) zero h within = h.0
below_at (d ∷ ds) (suc i) h within = below_at ds i h.1 (omega arith)

back : (ds : List ℕ) (i : ℕ) → AllBelowBase 10 ds → 0 < get_or ds 0 0 → i ≤ length ds
    → (digits_of 10 (number_from_digits 10 (take i ds)) ≡ take i ds) × (0 < i → 0 < number_from_digits 10 (take i ds))
back ds zero h first within = (refl, λ some. absurd (omega arith))
back ds (suc i) h first within =
    let so_far = back ds i h first (omega arith) in
    let v = number_from_digits 10 (take i ds) in
    let d = get_or ds i 0 in
    let small : d < 10 = below_at ds i h (omega arith) in
    let value : number_from_digits 10 (take (i + 1) ds) ≡ v * 10 + d = number_more 10 ds i (omega arith) in
    let some : 0 < v * 10 + d =
    elim (cases_lt 0 i) [
      | inl later ↦ omega (arith, so_far.1 later)
      | inr start ↦ let zero_i : i ≡ 0 =
          omega arith in let here : 0 < d = subst (λ (k : ℕ). 0 < get_or ds k 0) (sym zero_i) first in omega arith
    ] in
    let next : suc i ≡ i + 1 = omega arith in
    let goal : (digits_of 10 (number_from_digits 10 (take (i + 1) ds)) ≡ take (i + 1) ds) × (0 < i + 1 → 0 < number_from_digits 10 (take (i + 1) ds)) = (
      ap (digits_of 10) value ∙ step v d small some ∙ ap (λ (t : List ℕ). t ++ d ∷ []) so_far.0 ∙ sym (take_more ds i 0 (omega arith)),
      λ _. omega (arith, value),
    ) in
    subst (λ (k : ℕ). (digits_of 10 (number_from_digits 10 (take k ds)) ≡ take k ds) × (0 < k → 0 < number_from_digits 10 (take k ds))) (sym next) goal

digits_of-number : (ds : List ℕ) → AllBelowBase 10 ds → 0 < get_or ds 0 0 → (digits_of 10 (number_from_digits 10 ds) ≡ ds) × (0 < number_from_digits 10 ds)
digits_of-number [] h first = absurd (omega arith)
digits_of-number (d ∷ ds) h first =
    let all : take (length (d ∷ ds)) (d ∷ ds) ≡ d ∷ ds = take_all (length (d ∷ ds)) (d ∷ ds) (omega arith) in
    let b = back (d ∷ ds) (length (d ∷ ds)) h first (omega arith) in
    let some : 0 < number_from_digits 10 (take (length (d ∷ ds)) (d ∷ ds)) = b.1 (omega arith) in (
      ap (λ (t : List ℕ). digits_of 10 (number_from_digits 10 t)) (sym all) ∙ b.0 ∙ all,
      subst (λ (t : List ℕ). 0 < number_from_digits 10 t) all some,
    )

-- ---- the word of a number

decimal_word-some : (n : ℕ) → 0 < n → decimal_word n ≡ map (λ d. 48 + d) (digits_of 10 n)
decimal_word-some n some = let e : (n == 0) ≡ false = ne_eqb n 0 (λ none. omega (arith, none)) in rw e refl

form_of-glyphs : (ds : List ℕ) → AllBelowBase 10 ds → 0 < get_or ds 0 0 → is_decimal (map (λ d. 48 + d) ds) ≡ true
form_of-glyphs [] h first = absurd (omega arith)
form_of-glyphs (d ∷ ds) h first =
    let all : list_all is_ascii_digit (map (λ d. 48 + d) (d ∷ ds)) ≡ true = are_glyphs (d ∷ ds) h in
    let apart : (48 + d == 48) ≡ false = ne_eqb (48 + d) 48 (λ e. omega (arith, e)) in
    rw (all, apart) refl

value_of-glyphs : (ds : List ℕ) → AllBelowBase 10 ds → digits_value 10 (map (λ d. 48 + d) ds) ≡ number_from_digits 10 ds
value_of-glyphs ds h = digits_value_is 10 (map (λ d. 48 + d) ds) ∙ ap (number_from_digits 10) (values_of-glyphs ds h)

-- the digits of a number are read as that number
pub number_of-decimal_word : (n : ℕ) → number_of (decimal_word n) ≡ Some n
number_of-decimal_word n = elim (cases_lt 0 n) [
  | inl some ↦
      let ds = digits_of 10 n in
      let below : AllBelowBase 10 ds = all_below_base_digits_of 10 n (omega arith) in
      let form : is_decimal (map (λ d. 48 + d) ds) ≡ true = form_of-glyphs ds below (first_digits_of 10 n (omega arith) some) in
      let value : digits_value 10 (map (λ d. 48 + d) ds) ≡ n = value_of-glyphs ds below ∙ number_digits_of 10 n (omega arith) in
      let read : number_of (map (λ d. 48 + d) ds) ≡ Some n = rw (form, value) refl in
      ap number_of (decimal_word-some n some) ∙ read
  | inr none ↦ let e : n ≡ 0 = omega arith in subst (λ (k : ℕ). number_of (decimal_word k) ≡ Some k) (sym e) refl
]

word_from : (c : ℕ) (cs : List ℕ) (b : Bool) → (c == 48) ≡ b → list_all is_ascii_digit (c ∷ cs) ≡ true
    → (not b || length cs == 0) ≡ true → c ∷ cs ≡ decimal_word (digits_value 10 (c ∷ cs))
word_from c [] true is all first = let e : c ≡ 48 = eqb-true c 48 is in subst (λ (k : ℕ). k ∷ [] ≡ decimal_word (digits_value 10 (k ∷ []))) (sym e) refl
word_from c (d ∷ ds) true is all first = let none : length (d ∷ ds) ≡ 0 = eqb-true (length (d ∷ ds)) 0 first in absurd (omega arith)
word_from c cs false is all first =
    let shown = glyphs_of-values (c ∷ cs) all in
    let other : c ≢ 48 = λ e. let t : (c == 48) ≡ true = eq-eqb c 48 e in cc in
    let here = glyph_of-digit c (both_left (is_ascii_digit c) (list_all is_ascii_digit cs) all) in
    let above : 0 < digit_value c = elim (cases_lt 0 (digit_value c)) [ inl some ↦ some | inr none ↦ absurd (other (omega (arith, here.0))) ] in
    let number = digits_of-number (map digit_value (c ∷ cs)) shown.1 above in
    let value : digits_value 10 (c ∷ cs) ≡ number_from_digits 10 (map digit_value (c ∷ cs)) = digits_value_is 10 (c ∷ cs) in
    sym (ap decimal_word value ∙ decimal_word-some (number_from_digits 10 (map digit_value (c ∷ cs))) number.1 ∙ ap (map (λ d. 48 + d)) number.0 ∙ shown.0)

-- what is read as a number are its digits
pub decimal_word-from : (word : List ℕ) (n : ℕ) → number_of word ≡ Some n → word ≡ decimal_word n
decimal_word-from [] n e = absurd cc
decimal_word-from (c ∷ cs) n e =
    let h = if_some (is_decimal (c ∷ cs)) (digits_value 10 (c ∷ cs)) n e in
    let digits = both_left (list_all is_ascii_digit (c ∷ cs)) (not (c == 48) || length cs == 0) h.0 in
    let first = both_right (list_all is_ascii_digit (c ∷ cs)) (not (c == 48) || length cs == 0) h.0 in
    word_from c cs (c == 48) refl digits first ∙ ap decimal_word h.1

-- two numbers with the same digits are equal
pub decimal_word-once : (m n : ℕ) → decimal_word m ≡ decimal_word n → m ≡ n
decimal_word-once m n e = let same : Some m ≡ Some n = sym (number_of-decimal_word m) ∙ ap number_of e ∙ number_of-decimal_word n in cc

-- the digits of a number of 64 bits are those of `decimal`
pub decimal_word-printed : (n : ℕ) → n < 2 ^ 64 → decimal_word n ≡ decimal n
decimal_word-printed n small = elim (cases_lt 0 n) [
  | inl some ↦ decimal_word-some n some ∙ sym (decimal-digits_of n some small)
  | inr none ↦ let e : n ≡ 0 = omega arith in subst (λ (k : ℕ). decimal_word k ≡ decimal k) (sym e) (sym (decimal_digit 0 (omega arith)))
]

decimal_of-some : (word : List ℕ) (n : ℕ) → number_of word ≡ Some n → list_all is_ascii_digit word ≡ true
decimal_of-some [] n e = absurd cc
decimal_of-some (c ∷ cs) n e =
    both_left (list_all is_ascii_digit (c ∷ cs)) (not (c == 48) || length cs == 0) (if_some (is_decimal (c ∷ cs)) (digits_value 10 (c ∷ cs)) n e).0

lacks_of-digits : (c : ℕ) (ds : List ℕ) → is_ascii_digit c ≡ false → list_all is_ascii_digit ds ≡ true → AllByRecursion (λ d. d ≢ c) ds
lacks_of-digits c [] none all = tt
lacks_of-digits c (d ∷ ds) none all =
    let first : is_ascii_digit d ≡ true = both_left (is_ascii_digit d) (list_all is_ascii_digit ds) all in
    (λ same. let here : is_ascii_digit c ≡ true = ap is_ascii_digit (sym same) ∙ first in cc, lacks_of-digits c ds none (both_right (is_ascii_digit d) (list_all is_ascii_digit ds) all))

-- the digits of a number contain no byte that isn't a digit
pub decimal_word-lacks : (c n : ℕ) → is_ascii_digit c ≡ false → AllByRecursion (λ d. d ≢ c) (decimal_word n)
decimal_word-lacks c n none = lacks_of-digits c (decimal_word n) none (decimal_of-some (decimal_word n) n (number_of-decimal_word n))
