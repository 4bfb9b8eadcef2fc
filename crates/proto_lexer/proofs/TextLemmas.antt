-- Strings: the bytes up to the closing quote are the body of a string.
use Rattle.std.proofs.Common.{◌≡◌, ◌≢◌, ◌⊎◌, inl, inr, ℕ, ◌+◌, ◌≤◌, ◌==◌, Bool, true, false, not, ◌&&◌, ◌||◌, List}
use Rattle.std.proofs.Common.{[], ◌∷◌, ◌++◌, length, refl, arith, sym, ◌∙◌, ap, nat_le}
use Rattle.std.specs.Prelude.{Option, Some, None, option_map}
use Rattle.std.specs.List.{prefix_len}
use Rattle.std.proofs.lemmas.Bool.{eq-eqb, ne_eqb, eqb-true, eqb-false, cases_eq, cases_Bool, and_parts, and_from}
use Rattle.std.proofs.lemmas.Bool.{or_parts, or_cases, or_from, or_left, or_right, not-true, not_from_false, leb-true}
use Rattle.std.proofs.lemmas.Bool.{le-leb}
use Rattle.proto_lexer.specs.Literals.{is_quote, is_literal_byte, is_simple_escape, is_octal_digit, is_hexadecimal_digit}
use Rattle.proto_lexer.specs.Literals.{has_digits, is_wide, IsBody, no_bytes, plain, simple_escape, octal_escape}
use Rattle.proto_lexer.specs.Literals.{hexadecimal_escape, unicode_escape, wide_escape}
use Rattle.proto_lexer.specs.Scanning.{is_escape, quoted_len}
use Rattle.proto_lexer.proofs.Closing.{front_quote, front_last, front_escape, front_no_escape, front_break, front_on}

-- ---- digits after an escape belong to the body

prefix_len_more : (p : ℕ → Bool) (xs ys : List ℕ) → prefix_len p xs ≤ prefix_len p (xs ++ ys)
prefix_len_more p [] ys = omega arith
prefix_len_more p (x ∷ xs) ys = elim (cases_Bool (p x)) [
  | inl e ↦ let h = prefix_len_more p xs ys in rw e (omega arith)
  | inr e ↦ rw e (omega arith)
]

prefix_len_quote : (p : ℕ → Bool) (xs ys : List ℕ) (q : ℕ) → p q ≡ false → prefix_len p (xs ++ q ∷ ys) ≡ prefix_len p xs
prefix_len_quote p [] ys q e = rw e refl
prefix_len_quote p (x ∷ xs) ys q e = rw (prefix_len_quote p xs ys q e) refl

has_digits_more : (n : ℕ) (xs ys : List ℕ) → has_digits n xs ≡ true → has_digits n (xs ++ ys) ≡ true
has_digits_more n xs ys h = le-leb n _ (omega (arith, leb-true n (prefix_len is_hexadecimal_digit xs) h, prefix_len_more is_hexadecimal_digit xs ys))

has_digits_quote : (n : ℕ) (xs ys : List ℕ) (q : ℕ) → is_hexadecimal_digit q ≡ false → has_digits n (xs ++ q ∷ ys) ≡ has_digits n xs
has_digits_quote n xs ys q e = ap (nat_le n) (prefix_len_quote is_hexadecimal_digit xs ys q e)

is_wide_more : (xs ys : List ℕ) → is_wide xs ≡ true → is_wide (xs ++ ys) ≡ true
is_wide_more [] ys h = absurd (let t : false ≡ true = h in cc)
is_wide_more (a ∷ []) ys h = absurd (let t : false ≡ true = h in cc)
is_wide_more (a ∷ b ∷ []) ys h = absurd (let t : false ≡ true = h in cc)
is_wide_more (a ∷ b ∷ c ∷ xs) ys h =
    let parts = and_parts (a == 48 && b == 48) ((c == 48 || c == 49) && has_digits 5 xs) h in
    let others = and_parts (c == 48 || c == 49) (has_digits 5 xs) parts.1 in
    and_from _ _ parts.0 (and_from _ _ others.0 (has_digits_more 5 xs ys others.1))

quote_cases : (q : ℕ) → is_quote q ≡ true → (q ≡ 34) ⊎ (q ≡ 39)
quote_cases q h = elim (or_cases (q == 34) (q == 39) h) [ inl e ↦ inl (eqb-true q 34 e) | inr e ↦ inr (eqb-true q 39 e) ]

-- what holds of both quotes holds of either
at_quote : (P : ℕ → Bool) (b : Bool) (q : ℕ) → is_quote q ≡ true → P 34 ≡ b → P 39 ≡ b → P q ≡ b
at_quote P b q h x y = elim (quote_cases q h) [ inl e ↦ rw e x | inr e ↦ rw e y ]

no_digit : (q : ℕ) → is_quote q ≡ true → is_hexadecimal_digit q ≡ false
no_digit q h = at_quote is_hexadecimal_digit false q h refl refl

no_backslash : (q : ℕ) → is_quote q ≡ true → (q == 92) ≡ false
no_backslash q h = at_quote (λ c. c == 92) false q h refl refl

no_zero : (q : ℕ) → is_quote q ≡ true → (q == 48) ≡ false
no_zero q h = at_quote (λ c. c == 48) false q h refl refl

no_one : (q : ℕ) → is_quote q ≡ true → (q == 49) ≡ false
no_one q h = at_quote (λ c. c == 49) false q h refl refl

and_false : (a : Bool) → (a && false) ≡ false
and_false true = refl
and_false false = refl

is_wide_quote : (xs ys : List ℕ) (q : ℕ) → is_quote q ≡ true → is_wide (xs ++ q ∷ ys) ≡ true → is_wide xs ≡ true
is_wide_quote [] [] q h w = w
is_wide_quote [] (y ∷ []) q h w = w
is_wide_quote [] (y ∷ z ∷ ys) q h w = absurd (let t : false ≡ true = rw (no_zero q h) at w in cc)
is_wide_quote (a ∷ []) [] q h w = w
is_wide_quote (a ∷ []) (y ∷ ys) q h w = absurd (let t : false ≡ true = rw (no_zero q h, and_false) at w in cc)
is_wide_quote (a ∷ b ∷ []) ys q h w = absurd (let t : false ≡ true = rw (no_zero q h, no_one q h, and_false) at w in cc)
is_wide_quote (a ∷ b ∷ c ∷ xs) ys q h w = rw (has_digits_quote 5 xs ys q (no_digit q h)) at w

-- ---- a body is read up to its quote

plain_parts : (quote c : ℕ) → is_literal_byte quote c ≡ true → (c ≢ quote) × (c ≢ 92) × ((c == 10 || c == 0) ≡ false)
plain_parts quote c h =
    let parts = and_parts (not (c == quote) && not (c == 92)) (not (c == 10) && not (c == 0)) h in
    let front = and_parts (not (c == quote)) (not (c == 92)) parts.0 in
    let back = and_parts (not (c == 10)) (not (c == 0)) parts.1 in
    (eqb-false _ _ (not-true _ front.0), eqb-false _ _ (not-true _ front.1), or_from _ _ (not-true _ back.0) (not-true _ back.1))

plus : (o : Option ℕ) (n k : ℕ) → o ≡ Some n → option_map (λ m. m + k) o ≡ Some (n + k)
plus o n k e = ap (option_map (λ m. m + k)) e

backslash : (quote : ℕ) → is_quote quote ≡ true → 92 ≢ quote
backslash quote h e = let t : true ≡ false = sym (eq-eqb quote 92 (sym e)) ∙ no_backslash quote h in cc

read_escape : (quote c : ℕ) (more rest : List ℕ) → is_quote quote ≡ true → is_escape c (more ++ quote ∷ rest) ≡ true
    → quoted_len quote (more ++ quote ∷ rest) ≡ Some (length more + 1)
    → quoted_len quote (92 ∷ c ∷ more ++ quote ∷ rest) ≡ Some (length (92 ∷ c ∷ more) + 1)
read_escape quote c more rest h e ih =
    let n : length more + 1 + 2 ≡ length (92 ∷ c ∷ more) + 1 = omega arith in
    front_escape quote 92 c (more ++ quote ∷ rest) (backslash quote h) refl e ∙ plus _ _ 2 ih ∙ ap Some n

pub closes_body : (quote : ℕ) {body : List ℕ} → is_quote quote ≡ true → IsBody quote body → (rest : List ℕ) → quoted_len quote (body ++ quote ∷ rest) ≡ Some (length body + 1)
closes_body quote h (no_bytes e) rest = rw e (front_quote quote quote rest refl)
closes_body quote h (plain c more e p b) rest =
    let parts = plain_parts quote c p in
    let n : length more + 1 + 1 ≡ length (c ∷ more) + 1 = omega arith in
    rw e (front_on quote c (more ++ quote ∷ rest) parts.0 parts.1 parts.2 ∙ plus _ _ 1 (closes_body quote h b rest) ∙ ap Some n)
closes_body quote h (simple_escape c more e p b) rest =
    rw e (read_escape quote c more rest h (or_left _ _ (or_left _ _ p)) (closes_body quote h b rest))
closes_body quote h (octal_escape c more e p b) rest =
    rw e (read_escape quote c more rest h (or_left _ _ (or_right _ _ p)) (closes_body quote h b rest))
closes_body quote h (hexadecimal_escape more e p b) rest =
    rw e (read_escape quote 120 more rest h (or_left _ _ (has_digits_more 1 more (quote ∷ rest) p)) (closes_body quote h b rest))
closes_body quote h (unicode_escape more e p b) rest =
    rw e (read_escape quote 117 more rest h (or_left _ _ (has_digits_more 4 more (quote ∷ rest) p)) (closes_body quote h b rest))
closes_body quote h (wide_escape more e p b) rest =
    rw e (read_escape quote 85 more rest h (is_wide_more more (quote ∷ rest) p) (closes_body quote h b rest))

-- ---- what the scanner reads is a body

pub record Body (quote : ℕ) (bytes : List ℕ) (n : ℕ) : Type 0 where
  pub body : List ℕ
  pub rest : List ℕ
  pub is : bytes ≡ body ++ quote ∷ rest
  pub long : n ≡ length body + 1
  pub reads : IsBody quote body

some_map : (o : Option ℕ) (k n : ℕ) → option_map (λ m. m + k) o ≡ Some n → (m : ℕ) × (o ≡ Some m) × (n ≡ m + k)
some_map None k n e = absurd cc
some_map (Some m) k n e = (m, refl, cc)

plain_from : (quote c : ℕ) → c ≢ quote → c ≢ 92 → (c == 10 || c == 0) ≡ false → is_literal_byte quote c ≡ true
plain_from quote c a b e =
    let parts = or_parts (c == 10) (c == 0) e in
    and_from _ _ (and_from _ _ (not_from_false _ (ne_eqb _ _ a)) (not_from_false _ (ne_eqb _ _ b))) (and_from _ _ (not_from_false _ parts.0) (not_from_false _ parts.1))

escape_body : (quote c : ℕ) (more rest : List ℕ) → is_quote quote ≡ true → is_escape c (more ++ quote ∷ rest) ≡ true → IsBody quote more → IsBody quote (92 ∷ c ∷ more)
escape_body quote c more rest h e b =
    elim (or_cases (is_simple_escape c || is_octal_digit c) ((c == 120 && has_digits 1 (more ++ quote ∷ rest))
    || ((c == 117 && has_digits 4 (more ++ quote ∷ rest)) || (c == 85 && is_wide (more ++ quote ∷ rest)))) e) [
      | inl f ↦ elim (or_cases (is_simple_escape c) (is_octal_digit c) f) [
        | inl g ↦ simple_escape c more refl g b
        | inr g ↦ octal_escape c more refl g b
      ]
      | inr f ↦ elim (or_cases (c == 120 && has_digits 1 (more ++ quote ∷ rest))
          ((c == 117 && has_digits 4 (more ++ quote ∷ rest)) || (c == 85 && is_wide (more ++ quote ∷ rest))) f) [
            | inl g ↦
                let parts = and_parts (c == 120) (has_digits 1 (more ++ quote ∷ rest)) g in
                hexadecimal_escape more (ap (λ (d : ℕ). 92 ∷ d ∷ more) (eqb-true c 120 parts.0)) (sym (has_digits_quote 1 more rest quote (no_digit quote h)) ∙ parts.1) b
            | inr g ↦ elim (or_cases (c == 117 && has_digits 4 (more ++ quote ∷ rest)) (c == 85 && is_wide (more ++ quote ∷ rest)) g) [
              | inl k ↦
                  let parts = and_parts (c == 117) (has_digits 4 (more ++ quote ∷ rest)) k in
                  unicode_escape more (ap (λ (d : ℕ). 92 ∷ d ∷ more) (eqb-true c 117 parts.0)) (sym (has_digits_quote 4 more rest quote (no_digit quote h)) ∙ parts.1) b
              | inr k ↦
                  let parts = and_parts (c == 85) (is_wide (more ++ quote ∷ rest)) k in
                  wide_escape more (ap (λ (d : ℕ). 92 ∷ d ∷ more) (eqb-true c 85 parts.0)) (is_wide_quote more rest quote h parts.1) b
            ]
          ]
    ]

body_on : (quote c : ℕ) (cs : List ℕ) (m n : ℕ) → n ≡ m + 1 → is_literal_byte quote c ≡ true → Body quote cs m → Body quote (c ∷ cs) n
body_on quote c cs m n e p r = record {
  body = c ∷ r.body;
  rest = r.rest;
  is = ap (λ (x : List ℕ). c ∷ x) r.is;
  long = omega (arith, r.long);
  reads = plain c r.body refl p r.reads;
}

body_escape : (quote c : ℕ) (cs : List ℕ) (m n : ℕ) → is_quote quote ≡ true → n ≡ m + 2 → is_escape c cs ≡ true → Body quote cs m → Body quote (92 ∷ c ∷ cs) n
body_escape quote c cs m n h e p r = record {
  body = 92 ∷ c ∷ r.body;
  rest = r.rest;
  is = ap (λ (x : List ℕ). 92 ∷ c ∷ x) r.is;
  long = omega (arith, r.long);
  reads = escape_body quote c r.body r.rest h (sym (ap (is_escape c) r.is) ∙ p) r.reads;
}

none_some : {X : Type 0} (x : X) → (o : Option X) → o ≡ None → o ≡ Some x → ⊥
none_some x o a b = cc

quoted : (quote c : ℕ) (cs : List ℕ) (n : ℕ) → c ≡ quote → quoted_len quote (c ∷ cs) ≡ Some n → Body quote (c ∷ cs) n
quoted quote c cs n same e =
    let one : n ≡ 1 = let t : Some 1 ≡ Some n = sym (front_quote quote c cs same) ∙ e in cc in
    record { body = []; rest = cs; is = ap (λ (d : ℕ). d ∷ cs) same; long = omega (arith, one); reads = no_bytes refl }

pub body_of : (quote : ℕ) → is_quote quote ≡ true → (bytes : List ℕ) (n : ℕ) → quoted_len quote bytes ≡ Some n → Body quote bytes n
unfolding quoted_len
body_of quote h [] n e = absurd (none_some n None refl e)
body_of quote h (c ∷ []) n e = elim (cases_eq c quote) [
  | inl same ↦ quoted quote c [] n same e
  | inr other ↦ absurd (none_some n _ (front_last quote c other) e)
]
body_of quote h (c ∷ d ∷ cs) n e = elim (cases_eq c quote) [
  | inl same ↦ quoted quote c (d ∷ cs) n same e
  | inr other ↦ elim (cases_eq c 92) [
    | inl slash ↦ elim (cases_Bool (is_escape d cs)) [
      | inl f ↦
          let m = some_map (quoted_len quote cs) 2 n (sym (front_escape quote c d cs other slash f) ∙ e) in
          rw slash (body_escape quote d cs m.0 n h m.2 f (body_of quote h cs m.0 m.1))
      | inr f ↦ absurd (none_some n _ (front_no_escape quote c d cs other slash f) e)
    ]
    | inr no_slash ↦ elim (cases_Bool (c == 10 || c == 0)) [
      | inl f ↦ absurd (none_some n _ (front_break quote c (d ∷ cs) other no_slash f) e)
      | inr f ↦
          let m = some_map (quoted_len quote (d ∷ cs)) 1 n (sym (front_on quote c (d ∷ cs) other no_slash f) ∙ e) in
          body_on quote c (d ∷ cs) m.0 n m.2 (plain_from quote c other no_slash f) (body_of quote h (d ∷ cs) m.0 m.1)
    ]
  ]
]
