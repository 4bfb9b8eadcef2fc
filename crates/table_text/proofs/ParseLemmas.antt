-- A word that is parsed is spelled as the text of its value, and this spelling is parsed.
use Rattle.std.proofs.Common.{◌≡◌, ℕ, suc, ℤ, pos, negsuc, ◌-◌, ◌^◌, ◌<◌, ◌≤◌, ◌==◌, ◌&&◌, ◌||◌, not, Bool, true}
use Rattle.std.proofs.Common.{false, cond, List, [], ◌∷◌, ◌++◌, length, take, drop, get_or, Option, Some, None, refl}
use Rattle.std.proofs.Common.{ap, sym, subst, ◌∙◌, arith, inl, inr, rules, ◌⊎◌}
use Rattle.std.specs.Prelude.{option_map, option_and_then}
use Rattle.std.specs.List.{list_all, find}
use Rattle.std.specs.Option.{option_or}
use Rattle.std.specs.Str.{bytes_eq}
use Rattle.std.specs.Str.Parse.{digits_value}
use Rattle.std.specs.Char.{is_ascii_digit}
use Rattle.std.specs.Fmt.{decimal, signed_decimal}
use Rattle.std.specs.Prelude.{FitsSigned}
use Rattle.std.specs.Int.{w32}
use Rattle.std.specs.Prelude.{nat_le, nat_lt, IsTrue}
use Rattle.std.specs.List.{AllByRecursion}
use Rattle.std.proofs.lemmas.Grind.{common_steps}
use Rattle.std.proofs.lemmas.Int.{ints}
use Rattle.std.proofs.lemmas.List.{take-append-drop}
use Rattle.std.proofs.lemmas.Bool.Decides.{eqb_tells, leb_tells}
use Rattle.std.proofs.lemmas.Bool.{cases_lt, eq-eqb, eqb-true, ne_eqb, lt-ltb, le-ltb, le-leb}
use Rattle.std.proofs.lemmas.Str.Parse.{IsNumeralModel, numerals_by_value}
use Rattle.std.proofs.lemmas.Fmt.{decimal-digits_value, digits_decimal, digits_value-decimal, decimal_nonempty, first_decimal, decimal_digit}
use Rattle.table_text.specs.declared.line.EnumNumber.{EnumNumber}
use Rattle.table_text.specs.declared.line.EnumNumber.TheVariants.{Low, Within, High}
use Rattle.mrpc_table.specs.Names.{is_name_form, is_full_form}
use Rattle.mrpc_table.specs.Lines.{is_decimal, number_of}
use Rattle.table_text.specs.Lines.{enum_number_of, negative, not_negative, name_of, full_name_of, without_prefix}
use Rattle.table_text.proofs.PlaceLemmas.{same_bytes}
use Rattle.table_text.proofs.TableFacts.{both_left, both_right}

-- ---- tests

pub unsome : {X : Type 0} {x y : X} → (Some x ≡ Some y) → x ≡ y
unsome e = cc

unwithin : {x y : ℤ} → Within x ≡ Within y → x ≡ y
unwithin e = cc

pub if_true : {X : Type 0} (b : Bool) (x : X) (y : X) → cond b (Some x) None ≡ Some y → (b ≡ true) × (x ≡ y)
if_true true x y e = (refl, cc)
if_true false x y e = absurd cc

pub mapped : {X Y : Type 0} (f : X → Y) (o : Option X) (y : Y) → option_map f o ≡ Some y → (x : X) × (o ≡ Some x) × (f x ≡ y)
mapped f None y e = absurd cc
mapped f (Some x) y e = (x, refl, cc)

pub chained : {X Y : Type 0} (f : X → Option Y) (o : Option X) (y : Y) → option_and_then f o ≡ Some y → (x : X) × (o ≡ Some x) × (f x ≡ Some y)
chained f None y e = absurd cc
chained f (Some x) y e = (x, refl, e)

pub either : {X : Type 0} (o p : Option X) (x : X) → option_or o p ≡ Some x → (o ≡ Some x) ⊎ ((o ≡ None) × (p ≡ Some x))
either None p x e = inr (refl, e)
either (Some y) p x e = inl e

-- ---- numbers

own : IsNumeralModel (λ ds. list_all is_ascii_digit ds ≡ true) (digits_value 10)
own = numerals_by_value (λ ds. list_all is_ascii_digit ds ≡ true) (search rules)

pub decimal_form : (w : List ℕ) → is_decimal w ≡ true → (list_all is_ascii_digit w ≡ true) × (0 < length w) × (get_or w 0 0 ≡ 48 → length w ≡ 1)
decimal_form [] e = absurd cc
decimal_form (c ∷ cs) e =
    let digits = both_left (list_all is_ascii_digit (c ∷ cs)) (not (c == 48) || length cs == 0) e in
    let first = both_right (list_all is_ascii_digit (c ∷ cs)) (not (c == 48) || length cs == 0) e in (
      digits,
      omega arith,
      λ zero_first.
          let test : (c == 48) ≡ true = eq-eqb c 48 zero_first in
          let none : (length cs == 0) ≡ true = subst (λ (b : Bool). (not b || length cs == 0) ≡ true) test first in
          let len : length cs ≡ 0 = eqb-true (length cs) 0 none in omega arith,
    )

pub number_is : (w : List ℕ) (n : ℕ) → number_of w ≡ Some n → n < 2 ^ 64 → w ≡ decimal n
number_is w n e small =
    let h = if_true (is_decimal w) (digits_value 10 w) n e in
    let form = decimal_form w h.0 in
    let below : digits_value 10 w < 2 ^ 64 = omega (arith, h.1) in
    sym (decimal-digits_value own w form.0 form.1 form.2 below) ∙ ap decimal h.1

form_decimal : (w : List ℕ) → list_all is_ascii_digit w ≡ true → 0 < length w → (get_or w 0 0 ≡ 48 → length w ≡ 1) → is_decimal w ≡ true
form_decimal [] digits some first = absurd (omega arith)
form_decimal (c ∷ cs) digits some first =
    elim (c == 48) as (λ (b : Bool). (c == 48) ≡ b → (list_all is_ascii_digit (c ∷ cs) && (not b || length cs == 0)) ≡ true) [
      | true ↦ λ is. let none : (length cs == 0) ≡ true = eq-eqb (length cs) 0 (omega (arith, first (eqb-true c 48 is))) in rw (digits, none) refl
      | false ↦ λ is. rw digits refl
    ] refl

pub decimal_digits : (n : ℕ) → n < 2 ^ 64 → list_all is_ascii_digit (decimal n) ≡ true
decimal_digits n small = digits_decimal own n small

pub number_of-decimal : (n : ℕ) → n < 2 ^ 64 → number_of (decimal n) ≡ Some n
number_of-decimal n small =
    let digits : list_all is_ascii_digit (decimal n) ≡ true = digits_decimal own n small in
    let value : digits_value 10 (decimal n) ≡ n = digits_value-decimal own n small in
    let form : is_decimal (decimal n) ≡ true = form_decimal (decimal n) digits (decimal_nonempty n small) (λ first. first_zero n small first) in
    rw (form, value) refl
  where
    first_zero : (n : ℕ) → n < 2 ^ 64 → get_or (decimal n) 0 0 ≡ 48 → length (decimal n) ≡ 1
    first_zero n small first =
        elim (cases_lt 0 n) [
          | inl above ↦ absurd (omega (arith, first_decimal n above small))
          | inr none ↦ let zero_n
              : n ≡ 0 = omega arith in
              subst (λ (m : ℕ). length (decimal m) ≡ 1) (sym zero_n) (ap length (decimal_digit 0 (omega arith)))
        ]

-- the text of a number, in its range
abbrev pub WholeIs : List ℕ → EnumNumber → Type 0
WholeIs w (Within z) = (w ≡ signed_decimal z) × FitsSigned w32 z
WholeIs w Low = ⊥
WholeIs w High = ⊥

negative_is : (n : ℕ) (z : ℤ) → negative n ≡ Some (Within z) → (negsuc (n - 1) ≡ z) × (0 < n) × (n ≤ 2 ^ 31)
negative_is n z e =
    elim (eqb_tells n 0) [
      | inl zero_n ↦ let none : Some (Within z) ≡ None = sym e ∙ rw zero_n.0 refl in absurd cc
      | inr some ↦
          let given : Some (cond (nat_le n (2 ^ 31)) (Within (negsuc (n - 1))) Low) ≡ Some (Within z) = rw some.0 at e in
          elim (leb_tells n (2 ^ 31)) [
            | inl le ↦ let one : Within (negsuc (n - 1)) ≡ Within z = rw le.0 at (unsome given) in (unwithin one, omega arith, le.1)
            | inr gt ↦ let one : Low ≡ Within z = rw gt.0 at (unsome given) in absurd cc
          ]
    ]

pub ltb_tells : (a b : ℕ) → ((nat_lt a b ≡ true) × (a < b)) ⊎ ((nat_lt a b ≡ false) × (b ≤ a))
ltb_tells a b = elim (cases_lt a b) [ inl lt ↦ inl (lt-ltb a b lt, lt) | inr le ↦ inr (le-ltb a b le, le) ]

not_negative_is : (n : ℕ) (z : ℤ) → not_negative n ≡ Within z → (pos n ≡ z) × (n < 2 ^ 31)
not_negative_is n z e =
    elim (ltb_tells n (2 ^ 31)) [
      | inl lt ↦ let one : Within (pos n) ≡ Within z = rw lt.0 at e in (unwithin one, lt.1)
      | inr ge ↦ let one : High ≡ Within z = rw ge.0 at e in absurd cc
    ]

pub whole_is : (w : List ℕ) (z : ℤ) → enum_number_of w ≡ Some (Within z) → WholeIs w (Within z)
whole_is [] z e = absurd cc
whole_is (c ∷ cs) z e =
    elim (eqb_tells c 45) [
      | inl minus ↦
          let given : option_and_then negative (number_of cs) ≡ Some (Within z) = rw minus.0 at e in
          let n = chained negative (number_of cs) (Within z) given in
          let is = negative_is n.0 z n.2 in
          let text : cs ≡ decimal n.0 = number_is cs n.0 n.1 (omega (arith, is.2)) in
          let back : n.0 ≡ suc (n.0 - 1) = omega (arith, is.1) in
          let low : WholeIs (c ∷ cs) (Within (negsuc (n.0 - 1))) = (cc (minus.1, text, ap decimal back), omega (arith, ints, is.2, is.1)) in
          subst (λ (y : ℤ). WholeIs (c ∷ cs) (Within y)) is.0 low
      | inr digit ↦
          let given : option_map not_negative (number_of (c ∷ cs)) ≡ Some (Within z) = rw digit.0 at e in
          let n = mapped not_negative (number_of (c ∷ cs)) (Within z) given in
          let is = not_negative_is n.0 z n.2 in
          let high : WholeIs (c ∷ cs) (Within (pos n.0)) = (number_is (c ∷ cs) n.0 n.1 (omega (arith, is.1)), omega (arith, ints, is.1)) in
          subst (λ (y : ℤ). WholeIs (c ∷ cs) (Within y)) is.0 high
    ]

pub first_digit : (w : List ℕ) → list_all is_ascii_digit w ≡ true → 0 < length w → enum_number_of w ≡ option_map not_negative (number_of w)
first_digit [] digits some = absurd (omega arith)
first_digit (c ∷ cs) digits some =
    let d : is_ascii_digit c ≡ true = both_left (is_ascii_digit c) (list_all is_ascii_digit cs) digits in
    let no_minus : (c == 45) ≡ false = grind (arith, common_steps) in
    rw no_minus refl

pub whole_of-text : (z : ℤ) → FitsSigned w32 z → enum_number_of (signed_decimal z) ≡ Some (Within z)
whole_of-text (pos n) fits =
    let below : n < 2 ^ 31 = omega (arith, ints, fits) in
    let small : n < 2 ^ 64 = omega arith in
    let test : nat_lt n (2 ^ 31) ≡ true = lt-ltb n (2 ^ 31) below in
    first_digit (decimal n) (digits_decimal own n small) (decimal_nonempty n small) ∙ ap (option_map not_negative) (number_of-decimal n small) ∙ rw test refl
whole_of-text (negsuc n) fits =
    let below : n < 2 ^ 31 = omega (arith, ints, fits) in
    let small : suc n < 2 ^ 64 = omega arith in
    let le : nat_le (suc n) (2 ^ 31) ≡ true = le-leb (suc n) (2 ^ 31) (omega arith) in
    let some : (suc n == 0) ≡ false = ne_eqb (suc n) 0 (omega arith) in
    let back : suc n - 1 ≡ n = omega arith in
    ap (option_and_then negative) (number_of-decimal (suc n) small) ∙ rw (some, le, back) refl

-- ---- names

pub name_is : (w n : List ℕ) → name_of w ≡ Some n → (w ≡ n) × IsTrue (is_name_form n)
name_is w n e =
    let h = if_true (is_name_form w) w n e in
    (h.1, subst (λ (m : List ℕ). IsTrue (is_name_form m)) h.1 h.0)

pub full_is : (w n : List ℕ) → full_name_of w ≡ Some n → (w ≡ n) × IsTrue (is_full_form n)
full_is w n e =
    let h = if_true (is_full_form w) w n e in
    (h.1, subst (λ (m : List ℕ). IsTrue (is_full_form m)) h.1 h.0)

-- ---- kinds and labels

pub behind_is : (prefix w n : List ℕ) → without_prefix prefix w ≡ Some n → w ≡ prefix ++ n
behind_is prefix w n e =
    let h = if_true (bytes_eq (take (length prefix) w) prefix) (drop (length prefix) w) n e in
    sym (take-append-drop (length prefix) w) ∙ ap (λ (front : List ℕ). front ++ drop (length prefix) w)
    (same_bytes (take (length prefix) w) prefix h.0) ∙ ap (λ (rest : List ℕ). prefix ++ rest) h.1

-- what a list of words finds for a word
pub in_words : {X : Type 0} (w : List ℕ) (table : List (List ℕ × X)) (x : X)
    → option_map (λ e. e.1) (find (λ e. bytes_eq w e.0) table) ≡ Some x → (P : List ℕ → X → Type 0)
    → AllByRecursion (λ e. P e.0 e.1) table → P w x
in_words w [] x e P all = absurd cc
in_words w (r ∷ rs) x e P all =
    elim (bytes_eq w r.0) as (λ (b : Bool). bytes_eq w r.0 ≡ b → option_map (λ e. e.1) (cond b (Some r) (find (λ e. bytes_eq w e.0) rs)) ≡ Some x → P w x) [
      | true ↦ λ is given. let same : r.1 ≡ x = unsome given in subst (λ y. P w y) same (subst (λ (v : List ℕ). P v r.1) (sym (same_bytes w r.0 is)) all.0)
      | false ↦ λ is given. in_words w rs x given P all.1
    ] refl e
