-- The code finds a word's value exactly.
use Rattle.std.proofs.Common.{◌≡◌, ℕ, ◌-◌, ◌%◌, ◌<◌, ◌^◌, ◌==◌, ◌&&◌, Bool, true, false, cond, List, [], ◌∷◌, drop}
use Rattle.std.proofs.Common.{Option, Some, None, refl, sym, ap, ◌∙◌, subst, eq-eqb, arith}
use Rattle.std.specs.Prelude.{nat_le, nat_lt, option_map}
use Rattle.std.specs.Str.Parse.{digits_value}
use Rattle.std.proofs.lemmas.Bool.{and_parts, leb-true, eqb-true, ltb-true, ltb-false, false≢true}
use Rattle.mrpc_table.specs.Lines.{number_of, in_64_bits}
use Rattle.mrpc_table.specs.declared.words.Decimal.{Decimal}
use Rattle.mrpc_table.specs.declared.words.Decimal.TheVariants.{Small, Large}
use Rattle.script_grammar.specs.Values.{IsNumber, WrittenValue, plain, negative, hexadecimal, IsValue, IsInRange, stored_word, are_hexadecimal}
use Rattle.script_grammar.specs.Reading.{negated, hexadecimal_in, has_first_byte, value_in}

-- a word has the value that was found
abbrev pub IsFound : List ℕ → Option Decimal → Type 0
IsFound word None = (v : WrittenValue) → IsValue word v → ⊥
IsFound word (Some Large) = (v : WrittenValue) × IsValue word v × (IsInRange v → ⊥)
IsFound word (Some (Small n)) = (v : WrittenValue) × IsValue word v × IsInRange v × (n ≡ stored_word v)

leb-false : (a b : ℕ) → nat_le a b ≡ false → b < a
leb-false a b e = grind arith

first_byte : (x y : ℕ) (xs ys : List ℕ) → x ∷ xs ≡ y ∷ ys → x ≡ y
first_byte x y xs ys e = cc

some_is_none : (n : ℕ) (o : Option ℕ) → o ≡ None → o ≡ Some n → ⊥
some_is_none n o e f = (let clash : ◌≡◌ {A = Option ℕ} None (Some n) = sym e ∙ f in cc)

-- ---- decimal digits

plain_by : (word : List ℕ) (n : ℕ) (b : Bool) → IsNumber word n → nat_lt n (2 ^ 64) ≡ b → IsFound word (Some (cond b (Small n) Large))
plain_by word n true number t = (plain n, number, ltb-true n (2 ^ 64) t, refl)
plain_by word n false number t = (plain n, number, λ small. (let past = ltb-false n (2 ^ 64) t in omega (arith, past, small)))

plain_found : (word : List ℕ) (o : Option ℕ) → number_of word ≡ o → ((v : WrittenValue) → IsValue word v → (n : ℕ) × IsNumber word n) → IsFound word (option_map in_64_bits o)
plain_found word None e only = λ v h. (let p = only v h in some_is_none p.0 (number_of word) e p.1)
plain_found word (Some n) e only = plain_by word n (nat_lt n (2 ^ 64)) e refl

-- ---- after a minus

negative_small : (digits : List ℕ) (n : ℕ) (b c : Bool) → IsNumber digits n → nat_lt n (2 ^ 64) ≡ b → nat_le n (2 ^ 63) ≡ c
    → IsFound (45 ∷ digits) (Some (cond c (Small ((2 ^ 64 - n) % 2 ^ 64)) Large))
negative_small digits n b true number t u = (negative n, (digits, refl, number), leb-true n (2 ^ 63) u, refl)
negative_small digits n b false number t u = (negative n, (digits, refl, number), λ small. (let past = leb-false n (2 ^ 63) u in omega (arith, past, small)))

negative_by : (digits : List ℕ) (n : ℕ) (b : Bool) → IsNumber digits n → nat_lt n (2 ^ 64) ≡ b → IsFound (45 ∷ digits) (Some (negated (cond b (Small n) Large)))
negative_by digits n true number t = negative_small digits n true (nat_le n (2 ^ 63)) number t refl
negative_by digits n false number t = (negative n, (digits, refl, number), λ small. (let past = ltb-false n (2 ^ 64) t in omega (arith, past, small)))

no_negative : (digits : List ℕ) → number_of digits ≡ None → (v : WrittenValue) → IsValue (45 ∷ digits) v → ⊥
no_negative digits none (plain n) h = some_is_none n None refl h
no_negative digits none (negative n) h = some_is_none n (number_of digits) none (ap number_of (ap (drop 1) h.1) ∙ h.2)
no_negative digits none (hexadecimal ds) h = omega (arith, first_byte 45 48 digits (120 ∷ ds) h.0)

negative_found : (digits : List ℕ) (o : Option ℕ) → number_of digits ≡ o → IsFound (45 ∷ digits) (option_map negated (option_map in_64_bits o))
negative_found digits None e = no_negative digits e
negative_found digits (Some n) e = negative_by digits n (nat_lt n (2 ^ 64)) e refl

-- ---- after 0x

no_hexadecimal : (digits : List ℕ) → are_hexadecimal digits ≡ false → (v : WrittenValue) → IsValue (48 ∷ 120 ∷ digits) v → ⊥
no_hexadecimal digits isnt (plain n) h = some_is_none n None refl h
no_hexadecimal digits isnt (negative n) h = omega (arith, first_byte 48 45 (120 ∷ digits) h.0 h.1)
no_hexadecimal digits isnt (hexadecimal ds) h = false≢true (sym isnt ∙ ap are_hexadecimal (ap (drop 2) h.0) ∙ h.1)

hexadecimal_by : (digits : List ℕ) (b : Bool) → are_hexadecimal digits ≡ b → IsFound (48 ∷ 120 ∷ digits) (cond b (Some (Small (digits_value 16 digits))) None)
hexadecimal_by digits true t = (hexadecimal digits, (refl, t), tt, refl)
hexadecimal_by digits false t = no_hexadecimal digits t

pub hexadecimal_found : (digits : List ℕ) → IsFound (48 ∷ 120 ∷ digits) (hexadecimal_in digits)
hexadecimal_found digits = hexadecimal_by digits (are_hexadecimal digits) refl

-- ---- each word

only_plain : (c : ℕ) (cs : List ℕ) → (c ≡ 45 → ⊥) → ((ds : List ℕ) → c ≡ 48 → cs ≡ 120 ∷ ds → ⊥) → (v : WrittenValue)
    → IsValue (c ∷ cs) v → (n : ℕ) × IsNumber (c ∷ cs) n
only_plain c cs minus x (plain n) h = (n, h)
only_plain c cs minus x (negative n) h = absurd (minus (first_byte c 45 cs h.0 h.1))
only_plain c cs minus x (hexadecimal ds) h = absurd (x ds (first_byte c 48 cs (120 ∷ ds) h.0) (ap (drop 1) h.0))

begun : (cs : List ℕ) → has_first_byte 120 cs ≡ true → (ds : List ℕ) × (cs ≡ 120 ∷ ds)
begun [] e = absurd (false≢true e)
begun (c ∷ cs) e = (cs, ap (λ (d : ℕ). d ∷ cs) (eqb-true c 120 e))

no_value : (v : WrittenValue) → IsValue [] v → ⊥
no_value (plain n) h = some_is_none n None refl h
no_value (negative n) h = (let clash : [] ≡ 45 ∷ h.0 = h.1 in absurd cc)
no_value (hexadecimal ds) h = (let clash : [] ≡ 48 ∷ 120 ∷ ds = h.0 in absurd cc)

at_zero : (c : ℕ) (cs : List ℕ) (b : Bool) → (c ≡ 45 → ⊥) → (c == 48 && has_first_byte 120 cs) ≡ b
    → IsFound (c ∷ cs) (cond b (hexadecimal_in (drop 1 cs)) (option_map in_64_bits (number_of (c ∷ cs))))
at_zero c cs true minus e =
    let parts = and_parts (c == 48) (has_first_byte 120 cs) e in
    let zero : c ≡ 48 = eqb-true c 48 parts.0 in
    let x = begun cs parts.1 in
    subst (λ (t : List ℕ). IsFound t (hexadecimal_in (drop 1 cs))) (sym (ap (λ (d : ℕ). d ∷ cs) zero ∙ ap (λ (t : List ℕ). 48 ∷ t) x.1))
    (subst (λ (t : List ℕ). IsFound (48 ∷ 120 ∷ x.0) (hexadecimal_in t)) (sym (ap (drop 1) x.1)) (hexadecimal_found x.0))
at_zero c cs false minus e =
    plain_found (c ∷ cs) (number_of (c ∷ cs)) refl
    (only_plain c cs minus (λ ds zero x. false≢true (sym e ∙ ap (λ (d : ℕ). d == 48 && has_first_byte 120 cs) zero ∙ ap (has_first_byte 120) x)))

at_minus : (c : ℕ) (cs : List ℕ) (b : Bool) → (c == 45) ≡ b
    → IsFound (c ∷ cs) (cond b (option_map negated (option_map in_64_bits (number_of cs)))
    (cond (c == 48 && has_first_byte 120 cs) (hexadecimal_in (drop 1 cs)) (option_map in_64_bits (number_of (c ∷ cs)))))
at_minus c cs true e =
    subst (λ (d : ℕ). IsFound (d ∷ cs) (option_map negated (option_map in_64_bits (number_of cs)))) (sym (eqb-true c 45 e)) (negative_found cs (number_of cs) refl)
at_minus c cs false e = at_zero c cs (c == 48 && has_first_byte 120 cs) (λ same. false≢true (sym e ∙ eq-eqb c 45 same)) refl

pub value_found : (word : List ℕ) → IsFound word (value_in word)
value_found [] = no_value
value_found (c ∷ cs) = at_minus c cs (c == 45) refl

pub found_by : (word : List ℕ) (o : Option Decimal) → o ≡ value_in word → IsFound word o
found_by word o e = subst (IsFound word) (sym e) (value_found word)
