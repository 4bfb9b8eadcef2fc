-- Line feeds: a token contains none, and those before an offset are counted piece by piece.
use Rattle.std.proofs.Common.{◌≡◌, ◌⊎◌, inl, inr, ℕ, ◌+◌, ◌-◌, ◌≤◌, ◌==◌, Bool, true, false, not, cond, ◌&&◌}
use Rattle.std.proofs.Common.{List, [], ◌∷◌, ◌++◌, codes, take, drop, refl, arith, sym, ◌∙◌, ap}
use Rattle.std.specs.Prelude.{count_by}
use Rattle.std.specs.List.{list_all}
use Rattle.std.proofs.lemmas.List.{take-append-drop, take-take, drop-take}
use Rattle.std.proofs.lemmas.List.Sums.{sum_by-append, sum_by-cons}
use Rattle.std.proofs.lemmas.Bool.{and_parts, and_from, not-true}
use Rattle.std.proofs.lemmas.Bool.Decides.{nat_tests}
use Rattle.mrpc_table.specs.Names.{is_name_start, is_name_byte, is_name_form}
use Rattle.proto_lexer.specs.Gaps.{has_no_line_feed}
use Rattle.proto_lexer.specs.Literals.{is_decimal_digit, is_octal_digit, is_hexadecimal_digit, IsInteger, decimal}
use Rattle.proto_lexer.specs.Literals.{octal, hexadecimal, is_exponent_letter, is_sign, IsExponent, unsigned, signed}
use Rattle.proto_lexer.specs.Literals.{IsNumber, point, fraction, exponent, is_quote, is_simple_escape, is_literal_byte}
use Rattle.proto_lexer.specs.Literals.{IsBody, no_bytes, plain, simple_escape, octal_escape, hexadecimal_escape}
use Rattle.proto_lexer.specs.Literals.{unicode_escape, wide_escape, is_punctuator_byte}
use Rattle.proto_lexer.specs.Tokens.{IsToken, identifier, integer, number, string, mark, line_of_offset}
use Rattle.proto_lexer.specs.declared.token.TokenKind.{TokenKind}
use Rattle.proto_lexer.proofs.Runs.{list_all_weaker, list_all_append, one_of}
use Rattle.proto_lexer.proofs.NumberLemmas.{decimal_digits}

abbrev pub is_feed : ℕ → Bool
is_feed c = c == 10

-- ---- a token contains no line feed

digit_feed : (c : ℕ) → is_decimal_digit c ≡ true → not (c == 10) ≡ true
digit_feed c h = grind (arith, nat_tests)

octal_feed : (c : ℕ) → is_octal_digit c ≡ true → not (c == 10) ≡ true
octal_feed c h = grind (arith, nat_tests)

hexadecimal_feed : (c : ℕ) → is_hexadecimal_digit c ≡ true → not (c == 10) ≡ true
hexadecimal_feed c h = grind (arith, nat_tests)

name_feed : (c : ℕ) → is_name_byte c ≡ true → not (c == 10) ≡ true
name_feed c h = grind (arith, nat_tests)

start_feed : (c : ℕ) → is_name_start c ≡ true → not (c == 10) ≡ true
start_feed c h = grind (arith, nat_tests)

letter_feed : (c : ℕ) → is_exponent_letter c ≡ true → not (c == 10) ≡ true
letter_feed c h = grind (arith, nat_tests)

sign_feed : (c : ℕ) → is_sign c ≡ true → not (c == 10) ≡ true
sign_feed c h = grind (arith, nat_tests)

quote_feed : (c : ℕ) → is_quote c ≡ true → not (c == 10) ≡ true
quote_feed c h = grind (arith, nat_tests)

simple_feed : (c : ℕ) → is_simple_escape c ≡ true → not (c == 10) ≡ true
simple_feed c h = one_of (λ d. not (d == 10)) c (codes "abfnrtv\\?'\"") refl h

mark_feed : (c : ℕ) → is_punctuator_byte c ≡ true → not (c == 10) ≡ true
mark_feed c h = one_of (λ d. not (d == 10)) c (codes "=;{}()<>[],.-+:/") refl h

name_clean : (name : List ℕ) → is_name_form name ≡ true → has_no_line_feed name ≡ true
name_clean [] h = refl
name_clean (c ∷ cs) h =
    let parts = and_parts (is_name_start c) (list_all is_name_byte cs) h in
    and_from _ _ (start_feed c parts.0) (list_all_weaker is_name_byte (λ d. not (d == 10)) name_feed cs parts.1)

digits_clean : (ds : List ℕ) → list_all is_decimal_digit ds ≡ true → has_no_line_feed ds ≡ true
digits_clean ds h = list_all_weaker is_decimal_digit (λ d. not (d == 10)) digit_feed ds h

integer_clean : {literal : List ℕ} {value : ℕ} → IsInteger literal value → has_no_line_feed literal ≡ true
integer_clean {literal = l} (decimal h v) = digits_clean l (decimal_digits l h)
integer_clean (octal ds is some all v) = rw is (list_all_weaker is_octal_digit (λ d. not (d == 10)) octal_feed ds all)
integer_clean (hexadecimal x ds is x_is some all v) =
    let rest = list_all_weaker is_hexadecimal_digit (λ d. not (d == 10)) hexadecimal_feed ds all in
    rw is (elim x_is [ inl e ↦ rw e rest | inr e ↦ rw e rest ])

exponent_clean : {power : List ℕ} → IsExponent power → has_no_line_feed power ≡ true
exponent_clean (unsigned e ds is h some all) = rw is (and_from _ _ (letter_feed e h) (digits_clean ds all))
exponent_clean (signed e s ds is h sign some all) = rw is (and_from _ _ (letter_feed e h) (and_from _ _ (sign_feed s sign) (digits_clean ds all)))

power_clean : {power : List ℕ} → (power ≡ []) ⊎ IsExponent power → has_no_line_feed power ≡ true
power_clean (inl e) = rw e refl
power_clean (inr h) = exponent_clean h

append_clean : (xs ys : List ℕ) → has_no_line_feed xs ≡ true → has_no_line_feed ys ≡ true → has_no_line_feed (xs ++ ys) ≡ true
append_clean xs ys a b = list_all_append (λ d. not (d == 10)) xs ys a b

number_clean : {literal : List ℕ} → IsNumber literal → has_no_line_feed literal ≡ true
number_clean (point whole part power is h all p) =
    rw is (append_clean whole (46 ∷ part ++ power) (digits_clean whole (decimal_digits whole h))
    (append_clean part power (digits_clean part all) (power_clean p)))
number_clean (fraction part power is some all p) = rw is (append_clean part power (digits_clean part all) (power_clean p))
number_clean (exponent whole power is h p) = rw is (append_clean whole power (digits_clean whole (decimal_digits whole h)) (exponent_clean p))

plain_feed : (quote c : ℕ) → is_literal_byte quote c ≡ true → not (c == 10) ≡ true
plain_feed quote c h = (and_parts (not (c == 10)) (not (c == 0)) (and_parts (not (c == quote) && not (c == 92)) (not (c == 10) && not (c == 0)) h).1).0

body_clean : {quote : ℕ} {body : List ℕ} → IsBody quote body → has_no_line_feed body ≡ true
body_clean (no_bytes e) = rw e refl
body_clean {quote = q} (plain c more e p b) = rw e (and_from _ _ (plain_feed q c p) (body_clean b))
body_clean (simple_escape c more e p b) = rw e (and_from _ _ (simple_feed c p) (body_clean b))
body_clean (octal_escape c more e p b) = rw e (and_from _ _ (octal_feed c p) (body_clean b))
body_clean (hexadecimal_escape more e p b) = rw e (body_clean b)
body_clean (unicode_escape more e p b) = rw e (body_clean b)
body_clean (wide_escape more e p b) = rw e (body_clean b)

pub stands_clean : {kind : TokenKind} {literal rest : List ℕ} → IsToken kind literal rest → has_no_line_feed literal ≡ true
stands_clean {literal = l} (identifier k h stops) = name_clean l h
stands_clean (integer value k h stops) = integer_clean h
stands_clean (number k h stops) = number_clean h
stands_clean (string quote body k h is b) =
    let ends : has_no_line_feed (quote ∷ []) ≡ true = and_from _ _ (quote_feed quote h) refl in
    rw is (and_from _ _ (quote_feed quote h) (append_clean body (quote ∷ []) (body_clean b) ends))
stands_clean (mark c k is h stops) = rw is (and_from _ _ (mark_feed c h) refl)

-- ---- counts

clean_count : (xs : List ℕ) → has_no_line_feed xs ≡ true → count_by is_feed xs ≡ 0
clean_count [] h = refl
clean_count (x ∷ xs) h =
    let parts = and_parts (not (x == 10)) (has_no_line_feed xs) h in
    let e : (x == 10) ≡ false = not-true _ parts.0 in
    let n : ◌≡◌ {A = ℕ} (cond (x == 10) 1 0) 0 = rw e refl in
    sum_by-cons (λ c. cond (is_feed c) 1 0) x xs ∙ omega (arith, n, clean_count xs parts.1)

-- a prefix in two pieces
front_pieces : (text : List ℕ) (n m : ℕ) → take (n + m) text ≡ take n text ++ take m (drop n text)
front_pieces text n m =
    sym (take-append-drop n (take (n + m) text)) ∙ ap (λ (x : List ℕ). x ++ drop n (take (n + m) text))
    (take-take n (n + m) text (omega arith)) ∙ ap (λ (x : List ℕ). take n text ++ x) (drop-take n m text)

pub line_on : (text : List ℕ) (place start line : ℕ) → place ≤ start → line ≡ line_of_offset text place
    → line + count_by is_feed (take (start - place) (drop place text)) ≡ line_of_offset text start
line_on text place start line h e =
    let n : place + (start - place) ≡ start = omega arith in
    let split = front_pieces text place (start - place) in
    let whole = ap (λ (k : ℕ). count_by is_feed (take k text)) n in
    let count = ap (count_by is_feed) split ∙ sum_by-append (λ c. cond (is_feed c) 1 0) (take place text) (take (start - place) (drop place text)) in
    omega (arith, whole, count, e)

pub line_same : (text : List ℕ) (start end : ℕ) → start ≤ end → has_no_line_feed (take (end - start) (drop start text)) ≡ true → line_of_offset text end ≡ line_of_offset text start
line_same text start end h clean = omega (arith, line_on text start end (line_of_offset text start) h refl, clean_count (take (end - start) (drop start text)) clean)
