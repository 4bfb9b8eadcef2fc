-- The bytes start with a token exactly if the scanner reads one.
use Rattle.std.proofs.Common.{◌≡◌, ◌⊎◌, inl, inr, ℕ, ◌+◌, ◌<◌, ◌==◌, Bool, true, false, not, ◌&&◌, ◌||◌, List, []}
use Rattle.std.proofs.Common.{◌∷◌, ◌++◌, codes, length, refl, arith, sym, ◌∙◌, ap, length-append}
use Rattle.std.specs.Prelude.{Option, Some, None}
use Rattle.std.specs.List.{list_all, prefix_len}
use Rattle.std.proofs.lemmas.List.{append_assoc}
use Rattle.std.proofs.lemmas.Bool.{eq-eqb, ne_eqb, eqb-true, cases_Bool, cases_eq, and_parts, and_from, or_parts, or_cases, or_from, or_left, or_right, not-true}
use Rattle.std.proofs.lemmas.Bool.Decides.{nat_tests}
use Rattle.mrpc_table.specs.Names.{is_name_start, is_name_byte, is_name_form}
use Rattle.mrpc_table.specs.Lines.{is_decimal}
use Rattle.proto_lexer.specs.Gaps.{is_blank, first_satisfies}
use Rattle.proto_lexer.specs.Literals.{is_decimal_digit, is_nonempty, IsInteger, decimal, octal, hexadecimal, IsNumber, point, fraction, exponent, is_quote, IsBody, is_punctuator_byte, starts_number_or_comment}
use Rattle.proto_lexer.specs.Scanning.{between, skip_gap, quoted_len, string_token_of, punctuator_at, name_token_of, is_number_start, number_token_at, leading_token}
use Rattle.proto_lexer.specs.Tokens.{IsToken, identifier, integer, number, string, mark}
use Rattle.proto_lexer.specs.declared.token.TokenKind.{TokenKind}
use Rattle.proto_lexer.specs.declared.token.TokenKind.TheVariants.{Text, Mark}
use Rattle.proto_lexer.specs.declared.scan.ScannedToken.{ScannedToken}
use Rattle.proto_lexer.proofs.Runs.{run_len, run_of, one_of}
use Rattle.proto_lexer.proofs.TextLemmas.{body_of, closes_body}
use Rattle.proto_lexer.proofs.NumberLemmas.{digit_range, Begins, number_front, read_integer, read_number, decimal_digits}

word_is : {j k : TokenKind} (m n : ℕ) → j ≡ k → m ≡ n → ◌≡◌ {A = Option ScannedToken} (Some (record { kind = j; len = m })) (Some (record { kind = k; len = n }))
word_is m n e f = cc

-- ---- the first byte of a number

record Starts (literal : List ℕ) : Type 0 where
  pub first : ℕ
  pub others : List ℕ
  pub is : literal ≡ first ∷ others
  pub what : Begins first others

starts_decimal : (whole tail : List ℕ) → is_decimal whole ≡ true → Starts (whole ++ tail)
starts_decimal [] tail h = absurd (let t : false ≡ true = h in cc)
starts_decimal (c ∷ cs) tail h = record {
  first = c;
  others = cs ++ tail;
  is = refl;
  what = inl (and_parts (is_decimal_digit c) (list_all is_decimal_digit cs) (decimal_digits (c ∷ cs) h)).0;
}

starts_alone : (whole : List ℕ) → is_decimal whole ≡ true → Starts whole
starts_alone [] h = absurd (let t : false ≡ true = h in cc)
starts_alone (c ∷ cs) h = record { first = c; others = cs; is = refl; what = inl (and_parts (is_decimal_digit c) (list_all is_decimal_digit cs) (decimal_digits (c ∷ cs) h)).0 }

starts_integer : {literal : List ℕ} {value : ℕ} → IsInteger literal value → Starts literal
starts_integer (decimal h v) = starts_alone _ h
starts_integer (octal ds is some all v) = record { first = 48; others = ds; is = is; what = inl refl }
starts_integer (hexadecimal x ds is x_is some all v) = record { first = 48; others = x ∷ ds; is = is; what = inl refl }

starts_fraction : (literal part power : List ℕ) → literal ≡ 46 ∷ part ++ power → is_nonempty part ≡ true → list_all is_decimal_digit part ≡ true → Starts literal
starts_fraction literal [] power is some all = absurd (let t : false ≡ true = some in cc)
starts_fraction literal (d ∷ ds) power is some all = record {
  first = 46;
  others = d ∷ ds ++ power;
  is = is;
  what = inr (refl, (and_parts (is_decimal_digit d) (list_all is_decimal_digit ds) all).0);
}

starts_number : {literal : List ℕ} → IsNumber literal → Starts literal
starts_number (point whole part power is h all p) = rw is (starts_decimal whole (46 ∷ part ++ power) h)
starts_number (fraction part power is some all p) = starts_fraction _ part power is some all
starts_number (exponent whole power is h p) = rw is (starts_decimal whole power h)

begins_more : (p : ℕ → Bool) (xs ys : List ℕ) → first_satisfies p xs ≡ true → first_satisfies p (xs ++ ys) ≡ true
begins_more p [] ys h = absurd (let t : false ≡ true = h in cc)
begins_more p (x ∷ xs) ys h = h

digit_no_name : (c : ℕ) → is_decimal_digit c ≡ true → is_name_start c ≡ false
digit_no_name c h = let r = digit_range c h in grind (arith, nat_tests, r)

begins_no_name : (c : ℕ) (cs : List ℕ) → Begins c cs → is_name_start c ≡ false
begins_no_name c cs (inl h) = digit_no_name c h
begins_no_name c cs (inr (e, h)) = rw e refl

begins_is : (c : ℕ) (cs : List ℕ) → Begins c cs → is_number_start c cs ≡ true
begins_is c cs (inl h) = or_left _ _ h
begins_is c cs (inr (e, h)) = or_right _ _ (and_from _ _ (eq-eqb c 46 e) h)

is_begins : (c : ℕ) (cs : List ℕ) → is_number_start c cs ≡ true → Begins c cs
is_begins c cs h = elim (or_cases (is_decimal_digit c) (c == 46 && first_satisfies is_decimal_digit cs) h) [
  | inl e ↦ inl e
  | inr e ↦ let parts = and_parts (c == 46) (first_satisfies is_decimal_digit cs) e in inr (eqb-true c 46 parts.0, parts.1)
]

begins_with : (c : ℕ) (cs rest : List ℕ) → Begins c cs → Begins c (cs ++ rest)
begins_with c cs rest (inl h) = inl h
begins_with c cs rest (inr (e, h)) = inr (e, begins_more is_decimal_digit cs rest h)

reads_number : (literal rest : List ℕ) → Starts literal → leading_token (literal ++ rest) ≡ number_token_at (literal ++ rest)
unfolding leading_token
reads_number literal rest s =
    let b = begins_with s.first s.others rest s.what in
    rw (s.is, begins_no_name s.first (s.others ++ rest) b, begins_is s.first (s.others ++ rest) b) refl

-- ---- a token is read

read_name : (literal rest : List ℕ) → is_name_form literal ≡ true → first_satisfies is_name_byte rest ≡ false → leading_token (literal ++ rest) ≡ Some (name_token_of (length literal))
unfolding leading_token
read_name [] rest h stops = absurd (let t : false ≡ true = h in cc)
read_name (c ∷ cs) rest h stops =
    let parts = and_parts (is_name_start c) (list_all is_name_byte cs) h in
    let run = run_len is_name_byte cs rest parts.1 stops in
    let n : 1 + prefix_len is_name_byte (cs ++ rest) ≡ length (c ∷ cs) = omega (arith, run) in
    rw parts.0 (ap (λ n. Some (name_token_of n)) n)

quote_is : (q : ℕ) → is_quote q ≡ true → (q ≡ 34) ⊎ (q ≡ 39)
quote_is q h = elim (or_cases (q == 34) (q == 39) h) [ inl e ↦ inl (eqb-true q 34 e) | inr e ↦ inr (eqb-true q 39 e) ]

word_quote : (q : ℕ) (cs : List ℕ) → is_quote q ≡ true → leading_token (q ∷ cs) ≡ string_token_of (quoted_len q cs)
unfolding leading_token
word_quote q cs h = elim (quote_is q h) [ inl e ↦ rw e refl | inr e ↦ rw e refl ]

read_text : (quote : ℕ) (body rest : List ℕ) → is_quote quote ≡ true → IsBody quote body
    → leading_token ((quote ∷ body ++ quote ∷ []) ++ rest)
    ≡ Some (record { kind = Text; len = length (quote ∷ body ++ quote ∷ []) })
read_text quote body rest h b =
    let same : (body ++ quote ∷ []) ++ rest ≡ body ++ quote ∷ rest = append_assoc body (quote ∷ []) rest in
    let n : (length body + 1) + 1 ≡ length (quote ∷ body ++ quote ∷ []) = omega (arith, length-append body (quote ∷ [])) in
    word_quote quote ((body ++ quote ∷ []) ++ rest) h ∙ ap (λ (x : List ℕ). string_token_of (quoted_len quote x)) same ∙ ap string_token_of (closes_body quote h b rest) ∙ word_is _ _ refl n

-- a byte that starts no name, number, string, blank or line feed
abbrev pub is_other : ℕ → Bool
is_other c = not (is_name_start c) && (not (is_decimal_digit c) && (not (is_quote c) && (not (is_blank c) && not (c == 10))))

mark_other : (c : ℕ) → is_punctuator_byte c ≡ true → is_other c ≡ true
mark_other c h = one_of is_other c (codes "=;{}()<>[],.-+:/") refl h

read_mark : (c : ℕ) (rest : List ℕ) → is_punctuator_byte c ≡ true → starts_number_or_comment c rest ≡ false → leading_token (c ∷ rest) ≡ Some (record { kind = Mark c; len = 1 })
unfolding leading_token
read_mark c rest h stops =
    let a = and_parts (not (is_name_start c)) _ (mark_other c h) in
    let b = and_parts (not (is_decimal_digit c)) _ a.1 in
    let d = and_parts (not (is_quote c)) _ b.1 in
    let no_point : (c == 46 && first_satisfies is_decimal_digit rest) ≡ false = (or_parts _ _ stops).0 in
    let no_number : is_number_start c rest ≡ false = or_from _ _ (not-true _ b.0) no_point in
    rw (not-true _ a.0, no_number, not-true _ d.0, h, stops) refl

pub stands_word : {kind : TokenKind} {literal rest : List ℕ} → IsToken kind literal rest → leading_token (literal ++ rest) ≡ Some (record { kind = kind; len = length literal })
stands_word (identifier k h stops) = read_name _ _ h stops ∙ word_is _ _ (sym k) refl
stands_word (integer value k h stops) = reads_number _ _ (starts_integer h) ∙ read_integer _ h stops ∙ word_is _ _ (sym k) refl
stands_word (number k h stops) = reads_number _ _ (starts_number h) ∙ read_number _ h stops ∙ word_is _ _ (sym k) refl
stands_word {rest = rest} (string quote body k h is b) = rw is (read_text quote body rest h b ∙ word_is _ _ (sym k) refl)
stands_word {rest = rest} (mark c k is h stops) = rw is (read_mark c rest h stops ∙ word_is _ _ (sym k) refl)

-- ---- what the scanner reads is a token

pub record Found (bytes : List ℕ) (w : ScannedToken) : Type 0 where
  pub literal : List ℕ
  pub rest : List ℕ
  pub is : bytes ≡ literal ++ rest
  pub long : w.len ≡ length literal
  pub stands : IsToken w.kind literal rest

found_name : (c : ℕ) (cs : List ℕ) (w : ScannedToken) → is_name_start c ≡ true → Some (name_token_of (1 + prefix_len is_name_byte cs)) ≡ Some w → Found (c ∷ cs) w
found_name c cs w start e =
    let r = run_of is_name_byte cs in
    let n : 1 + prefix_len is_name_byte cs ≡ length (c ∷ r.front) = omega (arith, r.long) in
    let same : name_token_of (1 + prefix_len is_name_byte cs) ≡ w = cc in
    record {
      literal = c ∷ r.front;
      rest = r.rest;
      is = ap (λ (x : List ℕ). c ∷ x) r.is;
      long = sym (ap (λ (u : ScannedToken). u.len) same) ∙ n;
      stands = identifier (sym (ap (λ (u : ScannedToken). u.kind) same)) (and_from _ _ start r.all) r.stops;
    }

found_number : (c : ℕ) (cs : List ℕ) (w : ScannedToken) → Begins c cs → number_token_at (c ∷ cs) ≡ Some w → Found (c ∷ cs) w
found_number c cs w b e =
    let f = number_front c cs w b e in
    let front = f.0 in
    elim front.what [
      | inl (value, kind, n) ↦ record { literal = front.literal; rest = front.rest; is = front.is; long = front.long; stands = integer value kind n f.1 }
      | inr (kind, n) ↦ record { literal = front.literal; rest = front.rest; is = front.is; long = front.long; stands = number kind n f.1 }
    ]

text_some : (o : Option ℕ) (w : ScannedToken) → string_token_of o ≡ Some w → (n : ℕ) × (o ≡ Some n) × (record { kind = Text; len = n + 1 } ≡ w)
text_some None w e = absurd cc
text_some (Some n) w e = (n, refl, cc)

found_text : (q : ℕ) (cs : List ℕ) (w : ScannedToken) → is_quote q ≡ true → string_token_of (quoted_len q cs) ≡ Some w → Found (q ∷ cs) w
found_text q cs w h e =
    let t = text_some (quoted_len q cs) w e in
    let b = body_of q h cs t.0 t.1 in
    let n : t.0 + 1 ≡ length (q ∷ b.body ++ q ∷ []) = omega (arith, b.long, length-append b.body (q ∷ [])) in
    record {
      literal = q ∷ b.body ++ q ∷ [];
      rest = b.rest;
      is = ap (λ (x : List ℕ). q ∷ x) (b.is ∙ sym (append_assoc b.body (q ∷ []) b.rest));
      long = sym (ap (λ (u : ScannedToken). u.len) t.2) ∙ n;
      stands = string q b.body (sym (ap (λ (u : ScannedToken). u.kind) t.2)) h refl b.reads;
    }

found_mark : (c : ℕ) (cs : List ℕ) (w : ScannedToken) → punctuator_at c cs ≡ Some w → Found (c ∷ cs) w
found_mark c cs w e = elim (cases_Bool (is_punctuator_byte c && not (starts_number_or_comment c cs))) [
  | inl h ↦
      let parts = and_parts (is_punctuator_byte c) (not (starts_number_or_comment c cs)) h in
      let same : record { kind = Mark c; len = 1 } ≡ w = (let t : ◌≡◌ {A = Option ScannedToken} (Some (record { kind = Mark c; len = 1 })) (Some w) = rw h at e in cc) in
      record {
        literal = c ∷ [];
        rest = cs;
        is = refl;
        long = sym (ap (λ (u : ScannedToken). u.len) same);
        stands = mark c (sym (ap (λ (u : ScannedToken). u.kind) same)) refl parts.0 (not-true _ parts.1);
      }
  | inr h ↦ absurd (let t : ◌≡◌ {A = Option ScannedToken} None (Some w) = rw h at e in cc)
]

pub word_stands : (bytes : List ℕ) (w : ScannedToken) → leading_token bytes ≡ Some w → Found bytes w
unfolding leading_token
word_stands [] w e = absurd (let t : ◌≡◌ {A = Option ScannedToken} None (Some w) = e in cc)
word_stands (c ∷ cs) w e = elim (cases_Bool (is_name_start c)) [
  | inl h ↦ found_name c cs w h (rw h at e)
  | inr no_name ↦ elim (cases_Bool (is_number_start c cs)) [
    | inl h ↦ found_number c cs w (is_begins c cs h) (rw (no_name, h) at e)
    | inr no_number ↦ elim (cases_Bool (is_quote c)) [
      | inl h ↦ found_text c cs w h (rw (no_name, no_number, h) at e)
      | inr no_quote ↦ found_mark c cs w (rw (no_name, no_number, no_quote) at e)
    ]
  ]
]

-- ---- the scanner of gaps stops before a token

still_byte : (c : ℕ) (cs : List ℕ) → is_blank c ≡ false → (c == 47) ≡ false → skip_gap between (c ∷ cs) ≡ c ∷ cs
unfolding skip_gap
still_byte c cs a b = rw (a, b) refl

still_slash : (cs : List ℕ) → first_satisfies (λ d. d == 47 || d == 42) cs ≡ false → skip_gap between (47 ∷ cs) ≡ 47 ∷ cs
unfolding skip_gap
still_slash [] h = refl
still_slash (d ∷ ds) h = let parts = or_parts (d == 47) (d == 42) h in rw (parts.0, parts.1) refl

name_no_blank : (c : ℕ) → is_name_start c ≡ true → (is_blank c ≡ false) × ((c == 47) ≡ false)
name_no_blank c h = (grind (arith, nat_tests), grind (arith, nat_tests))

digit_no_blank : (c : ℕ) → is_decimal_digit c ≡ true → (is_blank c ≡ false) × ((c == 47) ≡ false)
digit_no_blank c h = let r = digit_range c h in (grind (arith, nat_tests, r), ne_eqb c 47 (λ e. omega arith))

still_number : (literal rest : List ℕ) → Starts literal → skip_gap between (literal ++ rest) ≡ literal ++ rest
still_number literal rest s = elim s.what [
  | inl h ↦ let n = digit_no_blank s.first h in rw s.is (still_byte s.first (s.others ++ rest) n.0 n.1)
  | inr (e, h) ↦ rw (s.is, e) (still_byte 46 (s.others ++ rest) refl refl)
]

still_name : (literal rest : List ℕ) → is_name_form literal ≡ true → skip_gap between (literal ++ rest) ≡ literal ++ rest
still_name [] rest h = absurd (let t : false ≡ true = h in cc)
still_name (c ∷ cs) rest h = let n = name_no_blank c (and_parts (is_name_start c) (list_all is_name_byte cs) h).0 in still_byte c (cs ++ rest) n.0 n.1

still_quote : (q : ℕ) (cs : List ℕ) → is_quote q ≡ true → skip_gap between (q ∷ cs) ≡ q ∷ cs
still_quote q cs h = elim (quote_is q h) [ inl e ↦ rw e (still_byte 34 cs refl refl) | inr e ↦ rw e (still_byte 39 cs refl refl) ]

still_mark : (c : ℕ) (cs : List ℕ) → is_punctuator_byte c ≡ true → starts_number_or_comment c cs ≡ false → skip_gap between (c ∷ cs) ≡ c ∷ cs
still_mark c cs h stops = elim (cases_eq c 47) [
  | inl e ↦
      let both : starts_number_or_comment 47 cs ≡ false = rw e at stops in
      rw e (still_slash cs both)
  | inr n ↦
      let a = and_parts (not (is_name_start c)) _ (mark_other c h) in
      let b = and_parts (not (is_decimal_digit c)) _ a.1 in
      let d = and_parts (not (is_quote c)) _ b.1 in
      let f = and_parts (not (is_blank c)) _ d.1 in
      still_byte c cs (not-true _ f.0) (ne_eqb c 47 n)
]

pub stands_still : {kind : TokenKind} {literal rest : List ℕ} → IsToken kind literal rest → skip_gap between (literal ++ rest) ≡ literal ++ rest
stands_still {literal = l} {rest = r} (identifier k h stops) = still_name l r h
stands_still {literal = l} {rest = r} (integer value k h stops) = still_number l r (starts_integer h)
stands_still {literal = l} {rest = r} (number k h stops) = still_number l r (starts_number h)
stands_still {rest = rest} (string quote body k h is b) = rw is (still_quote quote ((body ++ quote ∷ []) ++ rest) h)
stands_still {rest = rest} (mark c k is h stops) = rw is (still_mark c rest h stops)

-- ---- a token has a byte

starts_long : {literal : List ℕ} → Starts literal → 0 < length literal
starts_long s = omega (arith, ap length s.is)

name_long : (literal : List ℕ) → is_name_form literal ≡ true → 0 < length literal
name_long [] h = absurd (let t : false ≡ true = h in cc)
name_long (c ∷ cs) h = omega arith

pub stands_long : {kind : TokenKind} {literal rest : List ℕ} → IsToken kind literal rest → 0 < length literal
stands_long {literal = l} (identifier k h stops) = name_long l h
stands_long (integer value k h stops) = starts_long (starts_integer h)
stands_long (number k h stops) = starts_long (starts_number h)
stands_long (string quote body k h is b) = omega (arith, ap length is)
stands_long (mark c k is h stops) = omega (arith, ap length is)
