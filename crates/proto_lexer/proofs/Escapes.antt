-- The values of strings, byte by byte.
use Rattle.std.proofs.Common.{◌≡◌, ◌≢◌, ℕ, zero, suc, ◌+◌, ◌-◌, ◌%◌, ◌<◌, ◌≤◌, ◌==◌, true, false, inl, inr, subst}
use Rattle.std.proofs.Common.{List, [], ◌∷◌, ◌++◌, length, get_or, drop, refl, arith, ap, sym, ◌∙◌}
use Rattle.std.specs.Char.{is_digit}
use Rattle.std.proofs.lemmas.List.{drop_more, drop_all, drop-drop, append_assoc, append-nil, length-drop}
use Rattle.std.proofs.lemmas.Bool.{ne_eqb, cases_Bool, cases_eq, cases_lt}
use Rattle.proto_lexer.specs.Literals.{is_octal_digit}
use Rattle.proto_lexer.specs.Strings.{leading_digit_count, leading_number, after_leading_digits, is_surrogate_pair, code_point, unicode_escape, simple_value, escape_of}
use Rattle.proto_lexer.specs.Strings.{HasStringValue, nothing, itself, escape, value_skipping, body_value}

front : (bytes : List ℕ) → 0 < length bytes → bytes ≡ get_or bytes 0 0 ∷ drop 1 bytes
front [] h = absurd (omega arith)
front (c ∷ cs) h = refl

-- ---- an escape, by its first byte

pub escape_none : (bytes : List ℕ) → length bytes ≡ 0 → escape_of bytes ≡ record { value = []; behind = [] }
unfolding escape_of
escape_none [] h = refl
escape_none (c ∷ cs) h = absurd (omega arith)

pub escape_octal : (bytes : List ℕ) → 0 < length bytes → is_digit (get_or bytes 0 0) 8 ≡ true
    → escape_of bytes ≡ record { value = leading_number 8 3 bytes % 256 ∷ []; behind = after_leading_digits 8 3 bytes }
unfolding escape_of
escape_octal [] h e = absurd (omega arith)
escape_octal (c ∷ cs) h e = rw e refl

pub escape_x : (bytes : List ℕ) → 0 < length bytes → get_or bytes 0 0 ≡ 120
    → escape_of bytes ≡ record { value = leading_number 16 2 (drop 1 bytes) % 256 ∷ []; behind = after_leading_digits 16 2 (drop 1 bytes) }
unfolding escape_of
escape_x [] h e = absurd (omega arith)
escape_x (c ∷ cs) h e = let same : c ≡ 120 = e in rw same refl

pub escape_u : (bytes : List ℕ) → 0 < length bytes → get_or bytes 0 0 ≡ 117 → escape_of bytes ≡ unicode_escape 4 (drop 1 bytes)
unfolding escape_of
escape_u [] h e = absurd (omega arith)
escape_u (c ∷ cs) h e = let same : c ≡ 117 = e in rw same refl

pub escape_wide : (bytes : List ℕ) → 0 < length bytes → get_or bytes 0 0 ≡ 85 → escape_of bytes ≡ unicode_escape 8 (drop 1 bytes)
unfolding escape_of
escape_wide [] h e = absurd (omega arith)
escape_wide (c ∷ cs) h e = let same : c ≡ 85 = e in rw same refl

pub escape_simple : (bytes : List ℕ) → 0 < length bytes → is_digit (get_or bytes 0 0) 8 ≡ false
    → get_or bytes 0 0 ≢ 120 → get_or bytes 0 0 ≢ 117 → get_or bytes 0 0 ≢ 85
    → escape_of bytes ≡ record { value = simple_value (get_or bytes 0 0) ∷ []; behind = drop 1 bytes }
unfolding escape_of
escape_simple [] h d x u w = absurd (omega arith)
escape_simple (c ∷ cs) h d x u w =
    let a : (c == 120) ≡ false = ne_eqb _ _ x in
    let b : (c == 117) ≡ false = ne_eqb _ _ u in
    let e : (c == 85) ≡ false = ne_eqb _ _ w in
    rw (d, a, b, e) refl

pub ruleset escapes = (escape_none, escape_octal, escape_x, escape_u, escape_wide, escape_simple)

-- ---- the bytes after an escape are a suffix

code_point_end : (n : ℕ) (behind : List ℕ) → (k : ℕ) × ((code_point n behind).behind ≡ drop k behind)
code_point_end n behind = elim (cases_Bool (is_surrogate_pair n behind)) [ inl e ↦ (6, rw e refl) | inr e ↦ (0, rw e refl) ]

unicode_end : (most : ℕ) (cs : List ℕ) → (k : ℕ) × ((unicode_escape most cs).behind ≡ drop k cs)
unicode_end most cs =
    let p = code_point_end (leading_number 16 most cs) (after_leading_digits 16 most cs) in
    (leading_digit_count 16 most cs + p.0, p.1 ∙ drop-drop p.0 (leading_digit_count 16 most cs) cs)

end_of_more : (c : ℕ) (cs behind : List ℕ) → (k : ℕ) × (behind ≡ drop k cs) → (k : ℕ) × (behind ≡ drop k (c ∷ cs))
end_of_more c cs behind p = (1 + p.0, p.1 ∙ drop-drop p.0 1 (c ∷ cs))

escape_end : (bytes : List ℕ) → (k : ℕ) × ((escape_of bytes).behind ≡ drop k bytes)
unfolding escape_of
escape_end [] = (0, refl)
escape_end (c ∷ cs) = elim (cases_Bool (is_octal_digit c)) [
  | inl e ↦ (leading_digit_count 8 3 (c ∷ cs), rw e refl)
  | inr e ↦ rw e (elim (cases_Bool (c == 120)) [
    | inl f ↦ rw f (end_of_more c cs _ (leading_digit_count 16 2 cs, refl))
    | inr f ↦ rw f (elim (cases_Bool (c == 117)) [
      | inl g ↦ rw g (end_of_more c cs _ (unicode_end 4 cs))
      | inr g ↦ rw g (elim (cases_Bool (c == 85)) [
        | inl k ↦ rw k (end_of_more c cs _ (unicode_end 8 cs))
        | inr k ↦ rw k (1, refl)
      ])
    ])
  ])
]

end_again : (k : ℕ) (bytes : List ℕ) → drop (length bytes - length (drop k bytes)) bytes ≡ drop k bytes
end_again k bytes = elim (cases_lt k (length bytes)) [
  | inl le ↦ ap (λ (n : ℕ). drop n bytes) (omega (arith, length-drop k bytes))
  | inr past ↦ drop_all _ bytes (omega (arith, length-drop k bytes)) ∙ sym (drop_all k bytes (omega arith))
]

behind_again : (bytes : List ℕ) → drop (length bytes - length (escape_of bytes).behind) bytes ≡ (escape_of bytes).behind
behind_again bytes = let p = escape_end bytes in rw p.1 (end_again p.0 bytes)

behind_le : (bytes : List ℕ) → length (escape_of bytes).behind ≤ length bytes
behind_le bytes = let p = escape_end bytes in omega (arith, ap length p.1, length-drop p.0 bytes)

-- ---- the relation and the function agree

value_skip : (n : ℕ) (bytes : List ℕ) → value_skipping n bytes ≡ body_value (drop n bytes)
unfolding value_skipping
value_skip zero bytes = refl
value_skip (suc n) [] = refl
value_skip (suc n) (c ∷ cs) = value_skip n cs

value_none : body_value [] ≡ []
unfolding value_skipping
value_none = refl

value_itself : (c : ℕ) (cs : List ℕ) → c ≢ 92 → body_value (c ∷ cs) ≡ c ∷ body_value cs
unfolding value_skipping
value_itself c cs h = let e : (c == 92) ≡ false = ne_eqb _ _ h in rw e refl

value_escape : (cs : List ℕ) → body_value (92 ∷ cs) ≡ (escape_of cs).value ++ body_value (escape_of cs).behind
unfolding value_skipping
value_escape cs = ap (λ (r : List ℕ). (escape_of cs).value ++ r) (value_skip _ cs ∙ ap body_value (behind_again cs))

pub one_value : (body value : List ℕ) → HasStringValue body value → value ≡ body_value body
one_value body value nothing = sym value_none
one_value body value (itself c rest said n s) = ap (λ (r : List ℕ). c ∷ r) (one_value rest said s) ∙ sym (value_itself c rest n)
one_value body value (escape rest said s) =
    ap (λ (r : List ℕ). (escape_of rest).value ++ r) (one_value (escape_of rest).behind said s) ∙ sym (value_escape rest)

stands_up_to : (n : ℕ) (body : List ℕ) → length body ≤ n → HasStringValue body (body_value body)
stands_up_to n [] h = rw value_none nothing
stands_up_to zero (c ∷ cs) h = absurd (omega arith)
stands_up_to (suc n) (c ∷ cs) h = elim (cases_eq c 92) [
  | inl e ↦ rw (e, value_escape cs) (escape cs _ (stands_up_to n (escape_of cs).behind (omega (arith, behind_le cs))))
  | inr e ↦ rw (value_itself c cs e) (itself c cs _ e (stands_up_to n cs (omega arith)))
]

pub some_value : (body : List ℕ) → HasStringValue body (body_value body)
some_value body = stands_up_to (length body) body (omega arith)

-- ---- bytes and escapes, one after another

-- the value of a body is the output so far followed by the value of its bytes from an offset on
abbrev pub GoesOn : List ℕ → List ℕ → ℕ → Type 0
GoesOn body out i = (value : List ℕ) → HasStringValue (drop i body) value → HasStringValue body (out ++ value)

pub string_plain : (body out : List ℕ) (i : ℕ) → i < length body → get_or body i 0 ≢ 92 → GoesOn body out i
    → GoesOn body (out ++ get_or body i 0 ∷ []) (i + 1)
string_plain body out i h n so_far value s =
    let c = get_or body i 0 in
    let here : HasStringValue (drop i body) (c ∷ value) = rw (drop_more body i 0 h) (itself c (drop (i + 1) body) value n s) in
    rw (append_assoc out (c ∷ []) value) (so_far (c ∷ value) here)

pub string_escape : (body out : List ℕ) (i len : ℕ) → i < length body → get_or body i 0 ≡ 92
    → drop len (drop (i + 1) body) ≡ (escape_of (drop (i + 1) body)).behind → GoesOn body out i
    → GoesOn body (out ++ (escape_of (drop (i + 1) body)).value) (i + (1 + len))
string_escape body out i len h n behind so_far value s =
    let rest = drop (i + 1) body in
    let said = (escape_of rest).value in
    let at : drop (i + (1 + len)) body ≡ (escape_of rest).behind =
    ap (λ (k : ℕ). drop k body) (let e : i + (1 + len) ≡ i + 1 + len = omega arith in e) ∙ sym (drop-drop len (i + 1) body) ∙ behind in
    let here : HasStringValue (drop i body) (said ++ value) = rw (drop_more body i 0 h, n) (escape rest value (subst (λ (r : List ℕ). HasStringValue r value) at s)) in
    rw (append_assoc out said value) (so_far (said ++ value) here)

pub string_done : (body out : List ℕ) (i : ℕ) → length body ≤ i → GoesOn body out i → HasStringValue body out
string_done body out i h so_far =
    subst (λ (r : List ℕ). HasStringValue body r) (append-nil out) (so_far [] (rw (drop_all i body h) nothing))
