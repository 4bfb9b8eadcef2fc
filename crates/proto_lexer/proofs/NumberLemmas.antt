-- Numbers: the bytes start with a number exactly if the scanner reads one.
use Rattle.std.proofs.Common.{subst, ◌≡◌, ◌⊎◌, inl, inr, ℕ, ◌+◌, ◌<◌, ◌≤◌, ◌==◌, Bool, true, false, not, ◌&&◌, ◌||◌}
use Rattle.std.proofs.Common.{List, [], ◌∷◌, ◌++◌, length, take, drop, refl, arith, sym, ◌∙◌, ap, length-append}
use Rattle.std.specs.Prelude.{Option, Some, None}
use Rattle.std.specs.List.{list_all, prefix_len}
use Rattle.std.specs.Char.{is_ascii_digit}
use Rattle.std.specs.Str.Parse.{digits_value}
use Rattle.std.proofs.lemmas.List.{append_assoc, take_at, drop_at}
use Rattle.std.proofs.lemmas.Bool.{eq-eqb, ne_eqb, eqb-true, cases_Bool, cases_eq, and_parts, and_from, and_left}
use Rattle.std.proofs.lemmas.Bool.{and_right, or_cases, or_from, or_left, or_right, not-true, not_from_false, le-leb}
use Rattle.std.proofs.lemmas.Bool.Decides.{nat_tests}
use Rattle.mrpc_table.specs.Lines.{is_decimal, in_64_bits}
use Rattle.proto_lexer.specs.Gaps.{first_satisfies}
use Rattle.proto_lexer.specs.Literals.{is_decimal_digit, is_octal_digit, is_hexadecimal_digit, is_nonempty, IsInteger}
use Rattle.proto_lexer.specs.Literals.{decimal, octal, hexadecimal, is_exponent_letter, is_sign, IsExponent}
use Rattle.proto_lexer.specs.Literals.{unsigned, signed, IsNumber, point, fraction, exponent, continues_number}
use Rattle.proto_lexer.specs.Scanning.{integer_of, hexadecimal_after_prefix, octal_after_zero, fraction_len, unless_none}
use Rattle.proto_lexer.specs.Scanning.{exponent_len, decimal_token_of, decimal_at, is_hexadecimal_prefix, unchecked_number_at}
use Rattle.proto_lexer.specs.Scanning.{if_split, number_token_at}
use Rattle.proto_lexer.specs.declared.token.TokenKind.{TokenKind}
use Rattle.proto_lexer.specs.declared.token.TokenKind.TheVariants.{Integer, Number}
use Rattle.proto_lexer.specs.declared.scan.ScannedToken.{ScannedToken}
use Rattle.proto_lexer.proofs.Runs.{run_len, Run, run_of, list_all_weaker, begins_weaker}

-- ---- bytes

-- a decimal digit lies from 48 to 57
pub digit_range : (c : ℕ) → is_decimal_digit c ≡ true → (48 ≤ c) × (c ≤ 57)
digit_range c h = (grind (arith, nat_tests), grind (arith, nat_tests))

pub ascii_digit : (c : ℕ) → is_ascii_digit c ≡ true → is_decimal_digit c ≡ true
ascii_digit c h = grind (arith, nat_tests)

pub digit_ascii : (c : ℕ) → is_decimal_digit c ≡ true → is_ascii_digit c ≡ true
digit_ascii c h = grind (arith, nat_tests)

pub digit_glue : (c : ℕ) → is_decimal_digit c ≡ true → continues_number c ≡ true
digit_glue c h =
    let r = digit_range c h in
    or_left _ _ (or_right _ _ (and_from _ _ (le-leb 48 c r.0) (le-leb c 57 r.1)))

pub hexadecimal_glue : (c : ℕ) → is_hexadecimal_digit c ≡ true → continues_number c ≡ true
hexadecimal_glue c h = grind (arith, nat_tests)

octal_digit : (c : ℕ) → is_octal_digit c ≡ true → is_decimal_digit c ≡ true
octal_digit c h = grind (arith, nat_tests)

octal_glue : (c : ℕ) → is_octal_digit c ≡ true → continues_number c ≡ true
octal_glue c h = digit_glue c (octal_digit c h)

-- the letter between `0` and hexadecimal digits
abbrev is_x : ℕ → Bool
is_x c = c == 120 || c == 88

x_cases : (c : ℕ) → is_x c ≡ true → (c ≡ 120) ⊎ (c ≡ 88)
x_cases c h = elim (or_cases (c == 120) (c == 88) h) [ inl e ↦ inl (eqb-true c 120 e) | inr e ↦ inr (eqb-true c 88 e) ]

x_glue : (c : ℕ) → is_x c ≡ true → continues_number c ≡ true
x_glue c h = elim (x_cases c h) [ inl e ↦ rw e refl | inr e ↦ rw e refl ]

letter_cases : (c : ℕ) → is_exponent_letter c ≡ true → (c ≡ 101) ⊎ (c ≡ 69)
letter_cases c h = elim (or_cases (c == 101) (c == 69) h) [ inl e ↦ inl (eqb-true c 101 e) | inr e ↦ inr (eqb-true c 69 e) ]

letter_glue : (c : ℕ) → is_exponent_letter c ≡ true → continues_number c ≡ true
letter_glue c h = elim (letter_cases c h) [ inl e ↦ rw e refl | inr e ↦ rw e refl ]

letter_no_digit : (c : ℕ) → is_exponent_letter c ≡ true → is_decimal_digit c ≡ false
letter_no_digit c h = elim (letter_cases c h) [ inl e ↦ rw e refl | inr e ↦ rw e refl ]

letter_no_point : (c : ℕ) → is_exponent_letter c ≡ true → (c == 46) ≡ false
letter_no_point c h = elim (letter_cases c h) [ inl e ↦ rw e refl | inr e ↦ rw e refl ]

letter_no_x : (c : ℕ) → is_exponent_letter c ≡ true → is_x c ≡ false
letter_no_x c h = elim (letter_cases c h) [ inl e ↦ rw e refl | inr e ↦ rw e refl ]

point_glue : (c : ℕ) → (c == 46) ≡ true → continues_number c ≡ true
point_glue c h = rw (eqb-true c 46 h) refl

digit_no_sign : (c : ℕ) → is_decimal_digit c ≡ true → is_sign c ≡ false
digit_no_sign c h = let r = digit_range c h in or_from _ _ (ne_eqb c 43 (λ e. omega arith)) (ne_eqb c 45 (λ e. omega arith))

digit_no_x : (c : ℕ) → is_decimal_digit c ≡ true → is_x c ≡ false
digit_no_x c h = let r = digit_range c h in or_from _ _ (ne_eqb c 120 (λ e. omega arith)) (ne_eqb c 88 (λ e. omega arith))

-- ---- exponents

unless_some : (k n : ℕ) → 0 < n → unless_none k n ≡ n + k
unless_some k n h = let e : (n == 0) ≡ false = ne_eqb n 0 (λ z. omega arith) in rw e refl

some_long : (ds : List ℕ) → is_nonempty ds ≡ true → 0 < length ds
some_long [] h = absurd (let t : false ≡ true = h in cc)
some_long (d ∷ ds) h = omega arith

long_some : (ds : List ℕ) → 0 < length ds → is_nonempty ds ≡ true
long_some [] h = absurd (omega arith)
long_some (d ∷ ds) h = refl

exponent_none : (rest : List ℕ) → first_satisfies is_exponent_letter rest ≡ false → exponent_len rest ≡ 0
exponent_none [] h = refl
exponent_none (c ∷ []) h = refl
exponent_none (c ∷ d ∷ ds) h = rw h refl

exponent_unsigned : (e : ℕ) (ds rest : List ℕ) → is_exponent_letter e ≡ true → is_nonempty ds ≡ true
    → list_all is_decimal_digit ds ≡ true → first_satisfies is_decimal_digit rest ≡ false
    → exponent_len (e ∷ ds ++ rest) ≡ length (e ∷ ds)
exponent_unsigned e [] rest h some all stops = absurd (let t : false ≡ true = some in cc)
exponent_unsigned e (d ∷ ds) rest h some all stops =
    let first = (and_parts (is_decimal_digit d) (list_all is_decimal_digit ds) all).0 in
    let run = run_len is_decimal_digit (d ∷ ds) rest all stops in
    let n : length (d ∷ ds) + 1 ≡ length (e ∷ d ∷ ds) = omega arith in
    rw (h, digit_no_sign d first) (ap (unless_none 1) run ∙ unless_some 1 (length (d ∷ ds)) (omega arith) ∙ n)

exponent_signed : (e s : ℕ) (ds rest : List ℕ) → is_exponent_letter e ≡ true → is_sign s ≡ true → is_nonempty ds ≡ true
    → list_all is_decimal_digit ds ≡ true → first_satisfies is_decimal_digit rest ≡ false
    → exponent_len (e ∷ s ∷ ds ++ rest) ≡ length (e ∷ s ∷ ds)
exponent_signed e s ds rest h sign some all stops =
    let run = run_len is_decimal_digit ds rest all stops in
    let n : length ds + 2 ≡ length (e ∷ s ∷ ds) = omega arith in
    rw (h, sign) (ap (unless_none 2) run ∙ unless_some 2 (length ds) (some_long ds some) ∙ n)

-- properties of an exponent, or of none, before bytes that may follow a number
record Power (power rest : List ℕ) : Type 0 where
  pub long : exponent_len (power ++ rest) ≡ length power
  pub no_digit : first_satisfies is_decimal_digit (power ++ rest) ≡ false
  pub no_point : first_satisfies (λ c. c == 46) (power ++ rest) ≡ false
  pub no_x : first_satisfies is_x (power ++ rest) ≡ false

no_power : (rest : List ℕ) → first_satisfies continues_number rest ≡ false → Power [] rest
no_power rest stops = record {
  long = exponent_none rest (begins_weaker is_exponent_letter continues_number letter_glue rest stops);
  no_digit = begins_weaker is_decimal_digit continues_number digit_glue rest stops;
  no_point = begins_weaker (λ c. c == 46) continues_number point_glue rest stops;
  no_x = begins_weaker is_x continues_number x_glue rest stops;
}

power_unsigned : (e : ℕ) (ds rest : List ℕ) → is_exponent_letter e ≡ true → is_nonempty ds ≡ true
    → list_all is_decimal_digit ds ≡ true → first_satisfies continues_number rest ≡ false → Power (e ∷ ds) rest
power_unsigned e ds rest h some all stops = record {
  long = exponent_unsigned e ds rest h some all (begins_weaker is_decimal_digit continues_number digit_glue rest stops);
  no_digit = letter_no_digit e h;
  no_point = letter_no_point e h;
  no_x = letter_no_x e h;
}

power_signed : (e s : ℕ) (ds rest : List ℕ) → is_exponent_letter e ≡ true → is_sign s ≡ true → is_nonempty ds ≡ true
    → list_all is_decimal_digit ds ≡ true → first_satisfies continues_number rest ≡ false → Power (e ∷ s ∷ ds) rest
power_signed e s ds rest h sign some all stops = record {
  long = exponent_signed e s ds rest h sign some all (begins_weaker is_decimal_digit continues_number digit_glue rest stops);
  no_digit = letter_no_digit e h;
  no_point = letter_no_point e h;
  no_x = letter_no_x e h;
}

some_power : {power : List ℕ} (rest : List ℕ) → IsExponent power → first_satisfies continues_number rest ≡ false → Power power rest
some_power rest (unsigned e ds is h some all) stops = rw is (power_unsigned e ds rest h some all stops)
some_power rest (signed e s ds is h sign some all) stops = rw is (power_signed e s ds rest h sign some all stops)

a_power : {power : List ℕ} (rest : List ℕ) → (power ≡ []) ⊎ IsExponent power → first_satisfies continues_number rest ≡ false → Power power rest
a_power rest (inl e) stops = rw e (no_power rest stops)
a_power rest (inr h) stops = some_power rest h stops

-- ---- decimal numbers, by their parts

decimal_at_parts : (whole part tail : List ℕ) (p : ℕ) → list_all is_decimal_digit whole ≡ true
    → first_satisfies is_decimal_digit (part ++ tail) ≡ false → fraction_len (part ++ tail) ≡ length part
    → exponent_len tail ≡ p
    → decimal_at (whole ++ (part ++ tail)) ≡ decimal_token_of (whole ++ (part ++ tail)) (length whole) (length part) p
decimal_at_parts whole part tail p all stops f e =
    let run = run_len is_decimal_digit whole (part ++ tail) all stops in
    let d1 = drop_at whole (part ++ tail) (length whole) refl in
    let d2 = drop_at part tail (length part) refl in
    rw (run, d1, f, d2, e) refl

pub decimal_digits : (whole : List ℕ) → is_decimal whole ≡ true → list_all is_decimal_digit whole ≡ true
decimal_digits [] h = refl
decimal_digits (c ∷ cs) h = list_all_weaker is_ascii_digit is_decimal_digit ascii_digit (c ∷ cs) (and_parts (list_all is_ascii_digit (c ∷ cs)) (not (c == 48) || length cs == 0) h).0

-- a number that starts with decimal digits, without a leading zero, is read as a decimal one
unsplit_decimal : (whole tail : List ℕ) → is_decimal whole ≡ true → first_satisfies is_decimal_digit tail ≡ false
    → first_satisfies is_x tail ≡ false → unchecked_number_at (whole ++ tail) ≡ Some (decimal_at (whole ++ tail))
unsplit_decimal [] tail h digit x = absurd (let t : false ≡ true = h in cc)
unsplit_decimal (c ∷ []) [] h digit x = refl
unsplit_decimal (c ∷ []) (t ∷ ts) h digit x =
    let a : is_hexadecimal_prefix c t ≡ false = and_right (c == 48) (is_x t) x in
    let b : (c == 48 && is_decimal_digit t) ≡ false = and_right (c == 48) (is_decimal_digit t) digit in
    rw (a, b) refl
unsplit_decimal (c ∷ d ∷ ds) tail h digit x =
    let lead = (and_parts (list_all is_ascii_digit (c ∷ d ∷ ds)) (not (c == 48) || length (d ∷ ds) == 0) h).1 in
    let z : (c == 48) ≡ false = elim (or_cases (not (c == 48)) (length (d ∷ ds) == 0) lead) [
      | inl e ↦ not-true (c == 48) e
      | inr e ↦ absurd (let n : length (d ∷ ds) ≡ 0 = eqb-true (length (d ∷ ds)) 0 e in omega arith)
    ] in
    let a : is_hexadecimal_prefix c d ≡ false = and_left (c == 48) (is_x d) z in
    let b : (c == 48 && is_decimal_digit d) ≡ false = and_left (c == 48) (is_decimal_digit d) z in
    rw (a, b) refl

-- a number is read if nothing is glued to it
split_ok : (literal rest : List ℕ) (w : ScannedToken) → unchecked_number_at (literal ++ rest) ≡ Some w → w.len ≡ length literal
    → first_satisfies continues_number rest ≡ false → number_token_at (literal ++ rest) ≡ Some w
unfolding number_token_at
split_ok literal rest w e long stops =
    let d : drop w.len (literal ++ rest) ≡ rest = drop_at literal rest w.len (sym long) in
    rw (e, d, stops) refl

word_is : (kind : TokenKind) (m n : ℕ) → m ≡ n → ◌≡◌ {A = Option ScannedToken} (Some (record { kind = kind; len = m })) (Some (record { kind = kind; len = n }))
word_is kind m n e = ap (λ (k : ℕ). Some (record { kind = kind; len = k })) e

number_of_parts : (bytes : List ℕ) (whole part power : ℕ) → 0 < part + power → decimal_token_of bytes whole part power ≡ record { kind = Number; len = (whole + part) + power }
number_of_parts bytes whole part power h = elim (cases_eq part 0) [
  | inl e ↦ let b : (part == 0 && power == 0) ≡ false = and_right _ _ (ne_eqb power 0 (λ z. omega arith)) in rw b refl
  | inr n ↦ let b : (part == 0 && power == 0) ≡ false = and_left _ _ (ne_eqb part 0 n) in rw b refl
]

no_fraction : (rest : List ℕ) → first_satisfies (λ c. c == 46) rest ≡ false → fraction_len rest ≡ 0
no_fraction [] h = refl
no_fraction (c ∷ cs) h = rw h refl

-- ---- integers are read

read_decimal : (literal rest : List ℕ) → is_decimal literal ≡ true → first_satisfies continues_number rest ≡ false
    → number_token_at (literal ++ rest) ≡ Some (record {
      kind = Integer (in_64_bits (digits_value 10 literal));
      len = length literal;
    })
read_decimal literal rest h stops =
    let p = no_power rest stops in
    let f : fraction_len rest ≡ 0 = no_fraction rest p.no_point in
    let at : decimal_at (literal ++ rest) ≡ decimal_token_of (literal ++ rest) (length literal) 0 0 = decimal_at_parts literal [] rest 0 (decimal_digits literal h) p.no_digit f p.long in
    let t : take (length literal) (literal ++ rest) ≡ literal = take_at literal rest (length literal) refl in
    split_ok literal rest _ (unsplit_decimal literal rest h p.no_digit p.no_x ∙ ap Some at ∙ rw t refl) refl stops

integer_of_run : (base : ℕ) (ds rest : List ℕ) (before n : ℕ) → n ≡ length ds → is_nonempty ds ≡ true
    → integer_of base (ds ++ rest) before n ≡ Some (record {
      kind = Integer (in_64_bits (digits_value base ds));
      len = length ds + before;
    })
integer_of_run base ds rest before n e some =
    let z : (length ds == 0) ≡ false = ne_eqb (length ds) 0 (λ q. let l = some_long ds some in omega arith) in
    let t : take (length ds) (ds ++ rest) ≡ ds = take_at ds rest (length ds) refl in
    rw (e, z, t) refl

read_hexadecimal : (x : ℕ) (ds rest : List ℕ) → is_x x ≡ true → is_nonempty ds ≡ true
    → list_all is_hexadecimal_digit ds ≡ true → first_satisfies continues_number rest ≡ false
    → number_token_at (48 ∷ x ∷ ds ++ rest) ≡ Some (record {
      kind = Integer (in_64_bits (digits_value 16 ds));
      len = length (48 ∷ x ∷ ds);
    })
read_hexadecimal x ds rest h some all stops =
    let run = run_len is_hexadecimal_digit ds rest all (begins_weaker is_hexadecimal_digit continues_number hexadecimal_glue rest stops) in
    let n : length ds + 2 ≡ length (48 ∷ x ∷ ds) = omega arith in
    split_ok (48 ∷ x ∷ ds) rest _ (rw h (integer_of_run 16 ds rest 2 (prefix_len is_hexadecimal_digit (ds ++ rest)) run some ∙ word_is _ _ _ n)) refl stops

read_octal : (ds rest : List ℕ) → is_nonempty ds ≡ true → list_all is_octal_digit ds ≡ true → first_satisfies continues_number rest ≡ false
    → number_token_at (48 ∷ ds ++ rest) ≡ Some (record {
      kind = Integer (in_64_bits (digits_value 8 ds));
      len = length (48 ∷ ds);
    })
read_octal [] rest some all stops = absurd (let t : false ≡ true = some in cc)
read_octal (d ∷ ds) rest some all stops =
    let digit = octal_digit d (and_parts (is_octal_digit d) (list_all is_octal_digit ds) all).0 in
    let run = run_len is_octal_digit (d ∷ ds) rest all (begins_weaker is_octal_digit continues_number octal_glue rest stops) in
    let n : length (d ∷ ds) + 1 ≡ length (48 ∷ d ∷ ds) = omega arith in
    split_ok (48 ∷ d ∷ ds) rest _
    (rw (digit_no_x d digit, digit)
    (integer_of_run 8 (d ∷ ds) rest 1 (prefix_len is_octal_digit (d ∷ ds ++ rest)) run some ∙ word_is _ _ _ n))
    refl stops

pub read_integer : {literal : List ℕ} {value : ℕ} (rest : List ℕ) → IsInteger literal value
    → first_satisfies continues_number rest ≡ false
    → number_token_at (literal ++ rest) ≡ Some (record { kind = Integer (in_64_bits value); len = length literal })
read_integer rest (decimal h v) stops = rw v (read_decimal _ rest h stops)
read_integer rest (octal ds is some all v) stops = rw (is, v) (read_octal ds rest some all stops)
read_integer rest (hexadecimal x ds is x_is some all v) stops =
    let h : is_x x ≡ true = elim x_is [ inl e ↦ rw e refl | inr e ↦ rw e refl ] in
    rw (is, v) (read_hexadecimal x ds rest h some all stops)

-- ---- numbers with a point or an exponent are read

assoc_parts : (whole part power rest : List ℕ) → whole ++ (part ++ power) ++ rest ≡ whole ++ (part ++ (power ++ rest))
assoc_parts whole part power rest = append_assoc whole (part ++ power) rest ∙ ap (λ (r : List ℕ). whole ++ r) (append_assoc part power rest)

length_parts : (whole part power : List ℕ) → (length whole + length part) + length power ≡ length (whole ++ (part ++ power))
length_parts whole part power = omega (arith, length-append whole (part ++ power), length-append part power)

point_len : (part tail : List ℕ) → list_all is_decimal_digit part ≡ true → first_satisfies is_decimal_digit tail ≡ false → fraction_len (46 ∷ part ++ tail) ≡ length (46 ∷ part)
point_len part tail all stops =
    let run = run_len is_decimal_digit part tail all stops in
    let n : length part + 1 ≡ length (46 ∷ part) = omega arith in
    ap (λ k. k + 1) run ∙ n

read_parts : (whole part power rest : List ℕ) → unchecked_number_at (whole ++ (part ++ (power ++ rest)))
    ≡ Some (decimal_at (whole ++ (part ++ (power ++ rest)))) → list_all is_decimal_digit whole ≡ true
    → first_satisfies is_decimal_digit (part ++ (power ++ rest)) ≡ false → fraction_len (part ++ (power ++ rest)) ≡ length part
    → exponent_len (power ++ rest) ≡ length power → 0 < length part + length power → first_satisfies continues_number rest ≡ false
    → number_token_at (whole ++ (part ++ power) ++ rest) ≡ Some (record { kind = Number; len = length (whole ++ (part ++ power)) })
read_parts whole part power rest shape all stops f e some glue =
    let at = decimal_at_parts whole part (power ++ rest) (length power) all stops f e in
    let is = number_of_parts (whole ++ (part ++ (power ++ rest))) (length whole) (length part) (length power) some in
    let same = assoc_parts whole part power rest in
    split_ok (whole ++ (part ++ power)) rest _ (ap unchecked_number_at same ∙ shape ∙ ap Some (at ∙ is) ∙ word_is _ _ _ (length_parts whole part power)) refl glue

read_point : (whole part power rest : List ℕ) → is_decimal whole ≡ true → list_all is_decimal_digit part ≡ true → Power power rest → first_satisfies continues_number rest ≡ false
    → number_token_at (whole ++ (46 ∷ part ++ power) ++ rest) ≡ Some (record { kind = Number; len = length (whole ++ (46 ∷ part ++ power)) })
read_point whole part power rest h all p stops =
    read_parts whole (46 ∷ part) power rest (unsplit_decimal whole (46 ∷ part ++ (power ++ rest)) h refl refl)
    (decimal_digits whole h) refl (point_len part (power ++ rest) all p.no_digit) p.long (omega arith) stops

fraction_shape : (part tail : List ℕ) → is_nonempty part ≡ true → unchecked_number_at (46 ∷ part ++ tail) ≡ Some (decimal_at (46 ∷ part ++ tail))
fraction_shape [] tail some = absurd (let t : false ≡ true = some in cc)
fraction_shape (d ∷ ds) tail some = refl

read_fraction : (part power rest : List ℕ) → is_nonempty part ≡ true → list_all is_decimal_digit part ≡ true → Power power rest → first_satisfies continues_number rest ≡ false
    → number_token_at ((46 ∷ part ++ power) ++ rest) ≡ Some (record { kind = Number; len = length (46 ∷ part ++ power) })
read_fraction part power rest some all p stops =
    read_parts [] (46 ∷ part) power rest (fraction_shape part (power ++ rest) some) refl refl (point_len part (power ++ rest) all p.no_digit) p.long (omega arith) stops

read_exponent : (whole power rest : List ℕ) → is_decimal whole ≡ true → 0 < length power → Power power rest → first_satisfies continues_number rest ≡ false
    → number_token_at (whole ++ power ++ rest) ≡ Some (record { kind = Number; len = length (whole ++ power) })
read_exponent whole power rest h some p stops =
    read_parts whole [] power rest (unsplit_decimal whole (power ++ rest) h p.no_digit p.no_x)
    (decimal_digits whole h) p.no_digit (no_fraction (power ++ rest) p.no_point) p.long (omega arith) stops

exponent_long : {power : List ℕ} → IsExponent power → 0 < length power
exponent_long (unsigned e ds is h some all) = omega (arith, ap length is)
exponent_long (signed e s ds is h sign some all) = omega (arith, ap length is)

pub read_number : {literal : List ℕ} (rest : List ℕ) → IsNumber literal → first_satisfies continues_number rest ≡ false
    → number_token_at (literal ++ rest) ≡ Some (record { kind = Number; len = length literal })
read_number rest (point whole part power is h all p) stops = rw is (read_point whole part power rest h all (a_power rest p stops) stops)
read_number rest (fraction part power is some all p) stops = rw is (read_fraction part power rest some all (a_power rest p stops) stops)
read_number rest (exponent whole power is h p) stops = rw is (read_exponent whole power rest h (exponent_long p) (some_power rest p stops) stops)

-- ---- what the scanner reads is a number

pub record Front (bytes : List ℕ) (w : ScannedToken) : Type 0 where
  pub literal : List ℕ
  pub rest : List ℕ
  pub is : bytes ≡ literal ++ rest
  pub long : w.len ≡ length literal
  pub what : ((value : ℕ) × (w.kind ≡ Integer (in_64_bits value)) × IsInteger literal value) ⊎ ((w.kind ≡ Number) × IsNumber literal)

none_some : {X : Type 0} (x : X) (o : Option X) → o ≡ None → o ≡ Some x → ⊥
none_some x o a b = cc

-- leading digits of a base, after other bytes
integer_front : (base : ℕ) (p : ℕ → Bool) (bytes : List ℕ) (before : ℕ) (w : ScannedToken) → integer_of base bytes before (prefix_len p bytes) ≡ Some w
    → (digits rest : List ℕ) × (bytes ≡ digits ++ rest) × (w.len ≡ length digits + before)
    × (w.kind ≡ Integer (in_64_bits (digits_value base digits))) × (is_nonempty digits ≡ true)
    × (list_all p digits ≡ true)
integer_front base p bytes before w e =
    let r = run_of p bytes in
    let t : take (length r.front) bytes ≡ r.front = ap (λ (x : List ℕ). take (length r.front) x) r.is ∙ take_at r.front r.rest (length r.front) refl in
    elim (cases_eq (length r.front) 0) [
      | inl z ↦ absurd (none_some w _ (let n : (prefix_len p bytes == 0) ≡ true = eq-eqb _ _ (sym r.long ∙ z) in rw n refl) e)
      | inr n ↦
          let b : (length r.front == 0) ≡ false = ne_eqb _ _ n in
          let is : ◌≡◌ {A = Option ScannedToken}
          (Some (record {
            kind = Integer (in_64_bits (digits_value base r.front));
            len = length r.front + before;
          })) (Some w) = sym (rw (← r.long, b, t) refl) ∙ e in
          (r.front, r.rest, r.is, cc, cc, long_some r.front (omega arith), r.all)
    ]

record Power_front (bytes : List ℕ) : Type 0 where
  pub power : List ℕ
  pub rest : List ℕ
  pub is : bytes ≡ power ++ rest
  pub long : exponent_len bytes ≡ length power
  pub what : (power ≡ []) ⊎ IsExponent power

no_front : (bytes : List ℕ) → exponent_len bytes ≡ 0 → Power_front bytes
no_front bytes e = record { power = []; rest = bytes; is = refl; long = e; what = inl refl }

signed_front : (e s : ℕ) (cs : List ℕ) → is_exponent_letter e ≡ true → is_sign s ≡ true → Power_front (e ∷ s ∷ cs)
signed_front e s cs letter sign =
    let r = run_of is_decimal_digit cs in
    let len : exponent_len (e ∷ s ∷ cs) ≡ unless_none 2 (length r.front) = rw (letter, sign, ← r.long) refl in
    elim (cases_eq (length r.front) 0) [
      | inl z ↦ no_front (e ∷ s ∷ cs) (len ∙ ap (unless_none 2) z)
      | inr n ↦
          let m : length r.front + 2 ≡ length (e ∷ s ∷ r.front) = omega arith in
          record {
            power = e ∷ s ∷ r.front;
            rest = r.rest;
            is = ap (λ (x : List ℕ). e ∷ s ∷ x) r.is;
            long = len ∙ unless_some 2 (length r.front) (omega arith) ∙ m;
            what = inr (signed e s r.front refl letter sign (long_some r.front (omega arith)) r.all);
          }
    ]

unsigned_front : (e d : ℕ) (cs : List ℕ) → is_exponent_letter e ≡ true → is_sign d ≡ false → Power_front (e ∷ d ∷ cs)
unsigned_front e d cs letter sign =
    let r = run_of is_decimal_digit (d ∷ cs) in
    let len : exponent_len (e ∷ d ∷ cs) ≡ unless_none 1 (length r.front) = rw (letter, sign) (ap (unless_none 1) (sym r.long)) in
    elim (cases_eq (length r.front) 0) [
      | inl z ↦ no_front (e ∷ d ∷ cs) (len ∙ ap (unless_none 1) z)
      | inr n ↦
          let m : length r.front + 1 ≡ length (e ∷ r.front) = omega arith in
          record {
            power = e ∷ r.front;
            rest = r.rest;
            is = ap (λ (x : List ℕ). e ∷ x) r.is;
            long = len ∙ unless_some 1 (length r.front) (omega arith) ∙ m;
            what = inr (unsigned e r.front refl letter (long_some r.front (omega arith)) r.all);
          }
    ]

power_front : (bytes : List ℕ) → Power_front bytes
power_front [] = no_front [] refl
power_front (e ∷ []) = no_front (e ∷ []) refl
power_front (e ∷ d ∷ cs) = elim (cases_Bool (is_exponent_letter e)) [
  | inl letter ↦ elim (cases_Bool (is_sign d)) [ inl sign ↦ signed_front e d cs letter sign | inr sign ↦ unsigned_front e d cs letter sign ]
  | inr letter ↦ no_front (e ∷ d ∷ cs) (rw letter refl)
]

record Fraction_front (bytes : List ℕ) : Type 0 where
  pub part : List ℕ
  pub rest : List ℕ
  pub is : bytes ≡ part ++ rest
  pub long : fraction_len bytes ≡ length part
  pub what : (part ≡ []) ⊎ ((digits : List ℕ) × (part ≡ 46 ∷ digits) × (list_all is_decimal_digit digits ≡ true))
  -- if a digit follows the point, the part has a digit
  pub some : (cs : List ℕ) → bytes ≡ 46 ∷ cs → first_satisfies is_decimal_digit cs ≡ true
      → (digits : List ℕ) × (part ≡ 46 ∷ digits) × (list_all is_decimal_digit digits ≡ true) × (is_nonempty digits ≡ true)

run_some : (p : ℕ → Bool) (cs : List ℕ) → first_satisfies p cs ≡ true → (r : Run p cs) → is_nonempty r.front ≡ true
run_some p [] b r = absurd (let t : false ≡ true = b in cc)
run_some p (c ∷ cs) b r =
    let n : prefix_len p (c ∷ cs) ≡ 1 + prefix_len p cs = rw b refl in
    long_some r.front (omega (arith, r.long, n))

point_front : (cs : List ℕ) → Fraction_front (46 ∷ cs)
point_front cs =
    let r = run_of is_decimal_digit cs in
    let n : prefix_len is_decimal_digit cs + 1 ≡ length (46 ∷ r.front) = omega (arith, r.long) in
    record {
      part = 46 ∷ r.front;
      rest = r.rest;
      is = ap (λ (x : List ℕ). 46 ∷ x) r.is;
      long = n;
      what = inr (r.front, refl, r.all);
      some = λ ds e b. (r.front, refl, r.all, run_some is_decimal_digit cs (let same : cs ≡ ds = cc in rw same b) r);
    }

no_point_front : (bytes : List ℕ) → first_satisfies (λ c. c == 46) bytes ≡ false → Fraction_front bytes
no_point_front bytes h = record {
  part = [];
  rest = bytes;
  is = refl;
  long = no_fraction bytes h;
  what = inl refl;
  some = λ cs e b. absurd (let t : true ≡ false = ap (first_satisfies (λ c. c == 46)) (sym e) ∙ h in cc);
}

fraction_front : (bytes : List ℕ) → Fraction_front bytes
fraction_front [] = no_point_front [] refl
fraction_front (c ∷ cs) = elim (cases_Bool (c == 46)) [
  | inl e ↦ rw (eqb-true c 46 e) (point_front cs)
  | inr e ↦ no_point_front (c ∷ cs) e
]

-- ---- decimal numbers

-- the first byte is a digit, but no `0` before a digit, or a point before a digit
abbrev pub Leads : ℕ → List ℕ → Type 0
Leads c cs = ((is_decimal_digit c ≡ true) × (c ≡ 48 → first_satisfies is_decimal_digit cs ≡ false)) ⊎ ((c ≡ 46) × (first_satisfies is_decimal_digit cs ≡ true))

whole_decimal : (c : ℕ) (ws tail : List ℕ) → list_all is_decimal_digit (c ∷ ws) ≡ true
    → (c ≡ 48 → first_satisfies is_decimal_digit (ws ++ tail) ≡ false) → is_decimal (c ∷ ws) ≡ true
whole_decimal c [] tail all zero = and_from _ _ (list_all_weaker is_decimal_digit is_ascii_digit digit_ascii (c ∷ []) all) (or_right _ _ refl)
whole_decimal c (d ∷ ds) tail all zero =
    let lead : (c == 48) ≡ false = elim (cases_eq c 48) [
      | inl e ↦ absurd (let t : true ≡ false =
          sym (and_parts (is_decimal_digit d) (list_all is_decimal_digit ds)
          (and_parts (is_decimal_digit c) (list_all is_decimal_digit (d ∷ ds)) all).1).0 ∙ zero e in cc)
      | inr n ↦ ne_eqb c 48 n
    ] in
    and_from _ _ (list_all_weaker is_decimal_digit is_ascii_digit digit_ascii (c ∷ d ∷ ds) all) (or_left _ _ (not_from_false _ lead))

-- the parts of a leading decimal number
record Parts (bytes : List ℕ) : Type 0 where
  pub whole : List ℕ
  pub part : List ℕ
  pub power : List ℕ
  pub rest : List ℕ
  pub is : bytes ≡ whole ++ (part ++ (power ++ rest))
  pub at : decimal_at bytes ≡ decimal_token_of bytes (length whole) (length part) (length power)
  pub part_is : (part ≡ []) ⊎ ((digits : List ℕ) × (part ≡ 46 ∷ digits) × (list_all is_decimal_digit digits ≡ true))
  pub power_is : (power ≡ []) ⊎ IsExponent power
  pub whole_is : (is_decimal whole ≡ true)
      ⊎ ((whole ≡ []) × ((digits : List ℕ) × (part ≡ 46 ∷ digits) × (list_all is_decimal_digit digits ≡ true)
      × (is_nonempty digits ≡ true)))

whole_part : (c : ℕ) (cs : List ℕ) → Leads c cs → (r : Run is_decimal_digit (c ∷ cs)) (f : Fraction_front r.rest)
    → (is_decimal r.front ≡ true)
    ⊎ ((r.front ≡ []) × ((digits : List ℕ) × (f.part ≡ 46 ∷ digits) × (list_all is_decimal_digit digits ≡ true)
    × (is_nonempty digits ≡ true)))
whole_part c cs (inl (digit, zero)) r f =
    let n : prefix_len is_decimal_digit (c ∷ cs) ≡ 1 + prefix_len is_decimal_digit cs = rw digit refl in
    elim r.front as (λ w. w ≡ r.front
    → (is_decimal w ≡ true)
    ⊎ ((w ≡ []) × ((digits : List ℕ) × (f.part ≡ 46 ∷ digits) × (list_all is_decimal_digit digits ≡ true)
    × (is_nonempty digits ≡ true)))) [
      | [] ↦ λ e. absurd (omega (arith, n, r.long, ap length e))
      | d ∷ ds ↦ λ e.
          let is : c ∷ cs ≡ d ∷ ds ++ r.rest = r.is ∙ ap (λ (x : List ℕ). x ++ r.rest) (sym e) in
          let same : c ≡ d = cc in
          let behind : cs ≡ ds ++ r.rest = cc in
          inl (whole_decimal d ds r.rest (ap (list_all is_decimal_digit) e ∙ r.all) (λ z. sym (ap (first_satisfies is_decimal_digit) behind) ∙ zero (same ∙ z)))
    ] refl
whole_part c cs (inr (point_is, some)) r f =
    let n : prefix_len is_decimal_digit (c ∷ cs) ≡ 0 = rw point_is refl in
    elim r.front as (λ w. w ≡ r.front
    → (is_decimal w ≡ true)
    ⊎ ((w ≡ []) × ((digits : List ℕ) × (f.part ≡ 46 ∷ digits) × (list_all is_decimal_digit digits ≡ true)
    × (is_nonempty digits ≡ true)))) [
      | [] ↦ λ e. inr (refl, f.some cs (sym (r.is ∙ ap (λ (x : List ℕ). x ++ r.rest) (sym e)) ∙ ap (λ (d : ℕ). d ∷ cs) point_is) some)
      | d ∷ ds ↦ λ e. absurd (omega (arith, n, r.long, ap length e))
    ] refl

parts_of : (c : ℕ) (cs : List ℕ) → Leads c cs → Parts (c ∷ cs)
parts_of c cs leads =
    let r = run_of is_decimal_digit (c ∷ cs) in
    let f = fraction_front r.rest in
    let p = power_front f.rest in
    let tail : r.rest ≡ f.part ++ (p.power ++ p.rest) = f.is ∙ ap (λ (x : List ℕ). f.part ++ x) p.is in
    let is : c ∷ cs ≡ r.front ++ (f.part ++ (p.power ++ p.rest)) = r.is ∙ ap (λ (x : List ℕ). r.front ++ x) tail in
    let stops : first_satisfies is_decimal_digit (f.part ++ (p.power ++ p.rest)) ≡ false = sym (ap (first_satisfies is_decimal_digit) tail) ∙ r.stops in
    let len : fraction_len (f.part ++ (p.power ++ p.rest)) ≡ length f.part = sym (ap fraction_len tail) ∙ f.long in
    let up : exponent_len (p.power ++ p.rest) ≡ length p.power = sym (ap exponent_len p.is) ∙ p.long in
    record {
      whole = r.front;
      part = f.part;
      power = p.power;
      rest = p.rest;
      is = is;
      at = ap decimal_at is ∙ decimal_at_parts r.front f.part (p.power ++ p.rest) (length p.power) r.all stops len up
          ∙ sym (ap (λ (x : List ℕ). decimal_token_of x (length r.front) (length f.part) (length p.power)) is);
      part_is = f.what;
      power_is = p.what;
      whole_is = whole_part c cs leads r f;
    }

-- ---- a decimal number at the start

number_parts : (whole part power : List ℕ)
    → (part ≡ []) ⊎ ((digits : List ℕ) × (part ≡ 46 ∷ digits) × (list_all is_decimal_digit digits ≡ true))
    → (power ≡ []) ⊎ IsExponent power
    → (is_decimal whole ≡ true) ⊎ ((whole ≡ []) × ((digits : List ℕ) × (part ≡ 46 ∷ digits) × (list_all is_decimal_digit digits ≡ true) × (is_nonempty digits ≡ true)))
    → ((part ≡ []) × (power ≡ []) × (is_decimal whole ≡ true)) ⊎ ((0 < length part + length power) × IsNumber (whole ++ (part ++ power)))
number_parts whole part power f p (inr (none, (digits, is, all, some))) =
    inr (omega (arith, ap length is), fraction digits power (rw (none, is) refl) some all p)
number_parts whole part power (inl part_none) (inl power_none) (inl w) = inl (part_none, power_none, w)
number_parts whole part power (inl part_none) (inr e) (inl w) = inr (omega (arith, exponent_long e), exponent whole power (rw part_none refl) w e)
number_parts whole part power (inr (digits, is, all)) p (inl w) = inr (omega (arith, ap length is), point whole digits power (rw is refl) w all p)

decimal_front : (c : ℕ) (cs : List ℕ) → Leads c cs → Front (c ∷ cs) (decimal_at (c ∷ cs))
decimal_front c cs leads =
    let p = parts_of c cs leads in
    elim (number_parts p.whole p.part p.power p.part_is p.power_is p.whole_is) [
      | inl (part_none, power_none, w) ↦
          let is : c ∷ cs ≡ p.whole ++ p.rest = p.is ∙ rw (part_none, power_none) refl in
          let at : decimal_at (c ∷ cs) ≡ decimal_token_of (c ∷ cs) (length p.whole) 0 0 = p.at ∙ rw (part_none, power_none) refl in
          let t : take (length p.whole) (c ∷ cs) ≡ p.whole = ap (λ (x : List ℕ). take (length p.whole) x) is ∙ take_at p.whole p.rest (length p.whole) refl in
          record {
            literal = p.whole;
            rest = p.rest;
            is = is;
            long = ap (λ (u : ScannedToken). u.len) at;
            what = inl (digits_value 10 p.whole, ap (λ (u : ScannedToken). u.kind) at ∙ ap (λ (x : List ℕ). Integer (in_64_bits (digits_value 10 x))) t, decimal w refl);
          }
      | inr (some, n) ↦
          let at : decimal_at (c ∷ cs) ≡ record {
            kind = Number;
            len = (length p.whole + length p.part) + length p.power;
          } =
          p.at ∙ number_of_parts (c ∷ cs) (length p.whole) (length p.part) (length p.power) some in
          record {
            literal = p.whole ++ (p.part ++ p.power);
            rest = p.rest;
            is = p.is ∙ sym (assoc_parts p.whole p.part p.power p.rest);
            long = ap (λ (u : ScannedToken). u.len) at ∙ length_parts p.whole p.part p.power;
            what = inr (ap (λ (u : ScannedToken). u.kind) at, n);
          }
    ]

some_same : {X : Type 0} (x y : X) → Some x ≡ Some y → x ≡ y
some_same x y e = cc

hexadecimal_front : (a b : ℕ) (cs : List ℕ) (w : ScannedToken) → is_hexadecimal_prefix a b ≡ true → hexadecimal_after_prefix cs ≡ Some w → Front (a ∷ b ∷ cs) w
hexadecimal_front a b cs w h e =
    let parts = and_parts (a == 48) (is_x b) h in
    let zero : a ≡ 48 = eqb-true a 48 parts.0 in
    let f = integer_front 16 is_hexadecimal_digit cs 2 w e in
    let digits = f.0 in
    let rest = f.1 in
    let n : length digits + 2 ≡ length (48 ∷ b ∷ digits) = omega arith in
    record {
      literal = 48 ∷ b ∷ digits;
      rest = rest;
      is = rw zero (ap (λ (x : List ℕ). 48 ∷ b ∷ x) f.2);
      long = f.3 ∙ n;
      what = inl (digits_value 16 digits, f.4, hexadecimal b digits refl (x_cases b parts.1) f.5 f.6 refl);
    }

octal_front : (a : ℕ) (cs : List ℕ) (w : ScannedToken) → a ≡ 48 → octal_after_zero cs ≡ Some w → Front (a ∷ cs) w
octal_front a cs w zero e =
    let f = integer_front 8 is_octal_digit cs 1 w e in
    let digits = f.0 in
    let rest = f.1 in
    let n : length digits + 1 ≡ length (48 ∷ digits) = omega arith in
    record {
      literal = 48 ∷ digits;
      rest = rest;
      is = rw zero (ap (λ (x : List ℕ). 48 ∷ x) f.2);
      long = f.3 ∙ n;
      what = inl (digits_value 8 digits, f.4, octal digits refl f.5 f.6 refl);
    }

-- the first byte of a number
abbrev pub Begins : ℕ → List ℕ → Type 0
Begins c cs = (is_decimal_digit c ≡ true) ⊎ ((c ≡ 46) × (first_satisfies is_decimal_digit cs ≡ true))

leads_alone : (c : ℕ) → Begins c [] → Leads c []
leads_alone c (inl h) = inl (h, λ _. refl)
leads_alone c (inr (e, h)) = inr (e, h)

leads_other : (a b : ℕ) (cs : List ℕ) → (a == 48 && is_decimal_digit b) ≡ false → Begins a (b ∷ cs) → Leads a (b ∷ cs)
leads_other a b cs n (inl h) = inl (
  h,
  λ z. elim (cases_Bool (is_decimal_digit b)) [
    | inl d ↦ absurd (let t : true ≡ false = sym (and_from _ _ (eq-eqb a 48 z) d) ∙ n in cc)
    | inr d ↦ d
  ],
)
leads_other a b cs n (inr (e, h)) = inr (e, h)

unsplit_front : (c : ℕ) (cs : List ℕ) (w : ScannedToken) → Begins c cs → unchecked_number_at (c ∷ cs) ≡ Some w → Front (c ∷ cs) w
unsplit_front c [] w b e = rw (some_same _ _ e) at (decimal_front c [] (leads_alone c b))
unsplit_front a (b ∷ cs) w beginning e = elim (cases_Bool (is_hexadecimal_prefix a b)) [
  | inl h ↦ hexadecimal_front a b cs w h (rw h at e)
  | inr no_x ↦ elim (cases_Bool (a == 48 && is_decimal_digit b)) [
    | inl o ↦ octal_front a (b ∷ cs) w (eqb-true a 48 (and_parts _ _ o).0) (rw (no_x, o) at e)
    | inr no_zero ↦
        let same : decimal_at (a ∷ b ∷ cs) ≡ w = some_same _ _ (rw (no_x, no_zero) at e) in
        subst (λ (u : ScannedToken). Front (a ∷ b ∷ cs) u) same (decimal_front a (b ∷ cs) (leads_other a b cs no_zero beginning))
  ]
]

split_front : (bytes : List ℕ) (o : Option ScannedToken) (w : ScannedToken) → if_split bytes o ≡ Some w → (o ≡ Some w) × (first_satisfies continues_number (drop w.len bytes) ≡ false)
split_front bytes None w e = absurd (none_some w None refl e)
split_front bytes (Some u) w e = elim (cases_Bool (first_satisfies continues_number (drop u.len bytes))) [
  | inl g ↦ absurd (none_some w _ refl (rw g at e))
  | inr g ↦
      let same : u ≡ w = some_same _ _ (rw g at e) in
      (ap Some same, ap (λ (v : ScannedToken). first_satisfies continues_number (drop v.len bytes)) (sym same) ∙ g)
]

-- the bytes start with the number that the scanner reads, and nothing is glued to it
pub number_front : (c : ℕ) (cs : List ℕ) (w : ScannedToken) → Begins c cs → number_token_at (c ∷ cs) ≡ Some w → (f : Front (c ∷ cs) w) × (first_satisfies continues_number f.rest ≡ false)
unfolding number_token_at
number_front c cs w b e =
    let s = split_front (c ∷ cs) (unchecked_number_at (c ∷ cs)) w e in
    let f = unsplit_front c cs w b s.0 in
    let d : drop w.len (c ∷ cs) ≡ f.rest = ap (λ (x : List ℕ). drop w.len x) f.is ∙ drop_at f.literal f.rest w.len (sym f.long) in
    (f, sym (ap (first_satisfies continues_number) d) ∙ s.1)
