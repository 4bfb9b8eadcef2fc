-- Words are read exactly as they are written.
use Rattle.std.proofs.Common.{◌≡◌, ℕ, ◌≤◌, ◌<◌, ◌^◌, ◌==◌, ◌&&◌, ◌||◌, not, Bool, true, false, List, [], ◌∷◌, length}
use Rattle.std.proofs.Common.{get_or, cond, refl, ap, sym, ◌∙◌, arith, rules, Some, None, Option, subst, inl, inr}
use Rattle.std.proofs.Common.{◌⊎◌}
use Rattle.std.specs.Prelude.{IfOk, Result, Ok, Err}
use Rattle.std.specs.Char.{is_ascii_digit}
use Rattle.std.specs.Fmt.{decimal}
use Rattle.std.specs.List.{list_all}
use Rattle.std.specs.Str.{bytes_eq}
use Rattle.std.specs.Str.Parse.{digits_value}
use Rattle.std.proofs.lemmas.Bool.{cases_lt, eq-eqb, eqb-true}
use Rattle.std.proofs.lemmas.Fmt.{decimal-digits_value, digits_decimal, digits_value-decimal, decimal_nonempty, first_decimal, decimal_digit}
use Rattle.std.proofs.lemmas.Slice.Eq.{bytes_eq-Decides}
use Rattle.std.proofs.lemmas.Str.Parse.{IsNumeralModel, numerals_by_value}
use Rattle.mrpc_table.specs.Lines.{is_decimal, number_of}
use Rattle.mrpc_table.specs.Names.{is_name_form}
use Rattle.mrpc_table.specs.declared.memory.Memory.{Memory}
use Rattle.audit_text.specs.Lines.{WordList}
use Rattle.audit_text.specs.Writable.{HasNameForm}
use Rattle.audit_text.specs.Reading.{◌>>=◌, IsExactReading, read_end, read_last_number, read_name, number_from, read_number}
use Rattle.audit_text.proofs.WordsOfLines.{below-none, below-some, not-some, some-pair}

-- ---- steps that can fail

pub unsome : {X : Type 0} (x y : X) → Some x ≡ Some y → x ≡ y
unsome x y e = cc

pub chained : {X Y : Type 0} (f : X → Option Y) (o : Option X) (y : Y) → (o >>= f) ≡ Some y → (x : X) × (o ≡ Some x) × (f x ≡ Some y)
chained f None y e = absurd cc
chained f (Some x) y e = (x, refl, e)

-- a word is this one, or the next one is tried
pub by-word : {X : Type 0} (w v : List ℕ) (a b : Option X) (x : X) → cond (bytes_eq w v) a b ≡ Some x → ((w ≡ v) × (a ≡ Some x)) ⊎ (b ≡ Some x)
by-word w v a b x e = go (bytes_eq w v) refl e
  where
    go : (t : Bool) → bytes_eq w v ≡ t → cond t a b ≡ Some x → ((w ≡ v) × (a ≡ Some x)) ⊎ (b ≡ Some x)
    go true is e = inl ((bytes_eq-Decides w v).0 is, e)
    go false is e = inr e

-- a function that returns a value exactly for the value's words reads them
pub reads-by : {A : Type 0} (Holds : A → Type 0) (words_for : A → WordList) (said : WordList → Option A)
    → ((ws : WordList) (x : A) → said ws ≡ Some x → Holds x × (ws ≡ words_for x))
    → ((x : A) → Holds x → said (words_for x) ≡ Some x)
    → (ws : WordList) (r : Result (Option A) Memory) → IfOk r (λ x. x ≡ said ws) → IsExactReading Holds words_for ws r
reads-by Holds words_for said sound complete ws (Ok (Some x)) h = sound ws x (sym h)
reads-by Holds words_for said sound complete ws (Ok None) h = λ x holds e. not-some x (sym (complete x holds) ∙ ap said (sym e) ∙ sym h)
reads-by Holds words_for said sound complete ws (Err e) h = tt

-- ---- numbers

own : IsNumeralModel (λ ds. list_all is_ascii_digit ds ≡ true) (digits_value 10)
own = numerals_by_value (λ ds. list_all is_ascii_digit ds ≡ true) (search rules)

both_left : (a b : Bool) → (a && b) ≡ true → a ≡ true
both_left true b h = refl
both_left false b h = absurd cc

both_right : (a b : Bool) → (a && b) ≡ true → b ≡ true
both_right true b h = h
both_right false b h = absurd cc

if_true : {X : Type 0} (b : Bool) (x y : X) → cond b (Some x) None ≡ Some y → (b ≡ true) × (x ≡ y)
if_true true x y e = (refl, cc)
if_true false x y e = absurd cc

decimal_form : (w : List ℕ) → is_decimal w ≡ true → (list_all is_ascii_digit w ≡ true) × (0 < length w) × (get_or w 0 0 ≡ 48 → length w ≡ 1)
decimal_form [] e = absurd cc
decimal_form (c ∷ cs) e =
    let digits = both_left (list_all is_ascii_digit (c ∷ cs)) (not (c == 48) || length cs == 0) e in
    let first = both_right (list_all is_ascii_digit (c ∷ cs)) (not (c == 48) || length cs == 0) e in (
      digits,
      omega arith,
      λ zero_first.
          let test : (c == 48) ≡ true = eq-eqb c 48 zero_first in
          let none : (length cs == 0) ≡ true = subst (λ (b : Bool). (not b || length cs == 0) ≡ true) test first in
          let len : length cs ≡ 0 = eqb-true (length cs) 0 none in omega arith,
    )

pub number-is : (w : List ℕ) (n : ℕ) → number_of w ≡ Some n → n < 2 ^ 64 → w ≡ decimal n
number-is w n e small =
    let h = if_true (is_decimal w) (digits_value 10 w) n e in
    let form = decimal_form w h.0 in
    let under : digits_value 10 w < 2 ^ 64 = omega (arith, h.1) in
    sym (decimal-digits_value own w form.0 form.1 form.2 under) ∙ ap decimal h.1

form_decimal : (w : List ℕ) → list_all is_ascii_digit w ≡ true → 0 < length w → (get_or w 0 0 ≡ 48 → length w ≡ 1) → is_decimal w ≡ true
form_decimal [] digits some first = absurd (omega arith)
form_decimal (c ∷ cs) digits some first =
    elim (c == 48) as (λ (b : Bool). (c == 48) ≡ b → (list_all is_ascii_digit (c ∷ cs) && (not b || length cs == 0)) ≡ true) [
      | true ↦ λ is. let none : (length cs == 0) ≡ true = eq-eqb (length cs) 0 (omega (arith, first (eqb-true c 48 is))) in rw (digits, none) refl
      | false ↦ λ is. rw digits refl
    ] refl

number_of-decimal : (n : ℕ) → n < 2 ^ 64 → number_of (decimal n) ≡ Some n
number_of-decimal n small =
    let digits : list_all is_ascii_digit (decimal n) ≡ true = digits_decimal own n small in
    let value : digits_value 10 (decimal n) ≡ n = digits_value-decimal own n small in
    let form : is_decimal (decimal n) ≡ true = form_decimal (decimal n) digits (decimal_nonempty n small) (λ first. first_zero n small first) in
    rw (form, value) refl
  where
    first_zero : (n : ℕ) → n < 2 ^ 64 → get_or (decimal n) 0 0 ≡ 48 → length (decimal n) ≡ 1
    first_zero n small first =
        elim (cases_lt 0 n) [
          | inl above ↦ absurd (omega (arith, first_decimal n above small))
          | inr none ↦ let zero_n
              : n ≡ 0 = omega arith in
              subst (λ (m : ℕ). length (decimal m) ≡ 1) (sym zero_n) (ap length (decimal_digit 0 (omega arith)))
        ]

from-is : (bound : ℕ) (found : Option ℕ) (words : WordList) (p : ℕ × WordList) → number_from bound found words ≡ Some p → (p.0 < bound) × (found ≡ Some p.0) × (words ≡ p.1)
from-is bound None words p e = absurd cc
from-is bound (Some n) words p e =
    elim (cases_lt n bound) [
      | inl less ↦
          let same = some-pair n p.0 words p.1 (sym (below-some bound n words less) ∙ e) in
          (omega (arith, less, same.0), ap (λ k. Some k) same.0, same.1)
      | inr more ↦ absurd (not-some p (sym e ∙ below-none bound n words more))
    ]

pub number-said : (bound : ℕ) (ws : WordList) (p : ℕ × WordList) → bound ≤ 2 ^ 64 → read_number bound ws ≡ Some p → (p.0 < bound) × (ws ≡ decimal p.0 ∷ p.1)
unfolding read_number
number-said bound [] p le e = absurd cc
number-said bound (w ∷ ws) p le e =
    let h = from-is bound (number_of w) ws p e in
    let word : w ≡ decimal p.0 = number-is w p.0 h.1 (omega (arith, le, h.0)) in
    (h.0, ap (λ v. v ∷ ws) word ∙ ap (λ rest. decimal p.0 ∷ rest) h.2)

pub number-read : (bound n : ℕ) (ws : WordList) → bound ≤ 2 ^ 64 → n < bound → read_number bound (decimal n ∷ ws) ≡ Some (n, ws)
unfolding read_number
number-read bound n ws le less = ap (λ found. number_from bound found ws) (number_of-decimal n (omega (arith, le, less))) ∙ below-some bound n ws less

pub end-said : (ws : WordList) (u : Unit {0}) → read_end ws ≡ Some u → ws ≡ []
end-said [] u e = refl
end-said (w ∷ ws) u e = absurd cc

pub last-said : (bound : ℕ) (ws : WordList) (n : ℕ) → bound ≤ 2 ^ 64 → read_last_number bound ws ≡ Some n → (n < bound) × (ws ≡ decimal n ∷ [])
unfolding read_last_number
last-said bound ws n le e =
    let a = chained _ (read_number bound ws) n e in
    let b = chained _ (read_end a.0.1) n a.2 in
    let h = number-said bound ws a.0 le a.1 in
    let value : a.0.0 ≡ n = unsome a.0.0 n b.2 in
    (omega (arith, h.0, value), h.1 ∙ ap (λ rest. decimal a.0.0 ∷ rest) (end-said a.0.1 b.0 b.1) ∙ ap (λ k. decimal k ∷ []) value)

pub last-read : (bound n : ℕ) → bound ≤ 2 ^ 64 → n < bound → read_last_number bound (decimal n ∷ []) ≡ Some n
unfolding read_last_number
last-read bound n le less = rw (number-read bound n [] le less) refl

pub name-said : (ws : WordList) (p : List ℕ × WordList) → read_name ws ≡ Some p → HasNameForm p.0 × (ws ≡ p.0 ∷ p.1)
unfolding read_name
name-said [] p e = absurd cc
name-said (w ∷ ws) p e = go (is_name_form w) refl e
  where
    go : (b : Bool) → is_name_form w ≡ b → cond b (Some (w, ws)) None ≡ Some p → HasNameForm p.0 × (w ∷ ws ≡ p.0 ∷ p.1)
    go true is e = let same = some-pair w p.0 ws p.1 e in (sym (ap is_name_form same.0) ∙ is, ap (λ v. v ∷ ws) same.0 ∙ ap (λ rest. p.0 ∷ rest) same.1)
    go false is e = absurd cc

pub name-read : (name : List ℕ) (ws : WordList) → HasNameForm name → read_name (name ∷ ws) ≡ Some (name, ws)
unfolding read_name
name-read name ws form = rw form refl
