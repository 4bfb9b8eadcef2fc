-- Words without spaces and line feeds, and lines of them: a line determines its words.
use Rattle.std.proofs.Common.{◌≡◌, ℕ, zero, suc, ◌<◌, ◌≤◌, ◌^◌, ◌==◌, ◌&&◌, nat_lt, Bool, true, false, List, [], ◌∷◌}
use Rattle.std.proofs.Common.{◌++◌, length, refl, ap, sym, ◌∙◌, arith, rules, append_assoc, All, ◌≢◌}
use Rattle.std.specs.Prelude.{slice_index_or}
use Rattle.std.specs.Char.{is_ascii_digit}
use Rattle.std.specs.Fmt.{decimal}
use Rattle.std.specs.List.{slice_split, join_with_byte, list_all}
use Rattle.std.specs.Str.Parse.{digits_value}
use Rattle.std.proofs.lemmas.Bool.{eq-eqb, ne_eqb}
use Rattle.std.proofs.lemmas.Bool.Decides.{nat_tests}
use Rattle.std.proofs.lemmas.Fmt.{digits_decimal, digits_value-decimal}
use Rattle.std.proofs.lemmas.List.Splits.{join_with_byte-slice_split}
use Rattle.std.proofs.lemmas.Str.Parse.{IsNumeralModel, numerals_by_value}
use Rattle.mrpc_table.specs.Names.{is_name_start, is_name_byte, is_name_form}
use Rattle.mrpc_table.specs.Text.{line, spaced}
use Rattle.audit_text.specs.Lines.{IsSplitInto}

-- ---- tests of each element

pub both-left : (a b : Bool) → (a && b) ≡ true → a ≡ true
both-left true b h = refl
both-left false b h = absurd cc

pub both-right : (a b : Bool) → (a && b) ≡ true → b ≡ true
both-right true b h = h
both-right false b h = absurd cc

pub both : (a b : Bool) → a ≡ true → b ≡ true → (a && b) ≡ true
both true true h k = refl
both true false h k = absurd cc
both false b h k = absurd cc

-- each element is above a bound
abbrev pub AreAbove : ℕ → List ℕ → Type 0
AreAbove bound [] = Unit {0}
AreAbove bound (c ∷ w) = (bound < c) × AreAbove bound w

pub above-append : (bound : ℕ) (a b : List ℕ) → AreAbove bound a → AreAbove bound b → AreAbove bound (a ++ b)
above-append bound [] b h k = k
above-append bound (x ∷ a) b h k = (h.0, above-append bound a b h.1 k)

pub above-lower : (bound low : ℕ) (a : List ℕ) → low ≤ bound → AreAbove bound a → AreAbove low a
above-lower bound low [] le h = tt
above-lower bound low (x ∷ a) le h = (omega (arith, le, h.0), above-lower bound low a le h.1)

pub above-test : (p : ℕ → Bool) (bound : ℕ) (w : List ℕ) → ((c : ℕ) → p c ≡ true → bound < c) → list_all p w ≡ true → AreAbove bound w
above-test p bound [] each h = tt
above-test p bound (c ∷ w) each h = (each c (both-left (p c) (list_all p w) h), above-test p bound w each (both-right (p c) (list_all p w) h))

-- ---- splits

-- a list splits at its first separator
pub cut-first : (sep : ℕ) (w rest : List ℕ) → AreAbove sep w → slice_split (λ c. c == sep) (w ++ sep ∷ rest) ≡ w ∷ slice_split (λ c. c == sep) rest
cut-first sep [] rest h = let e : (sep == sep) ≡ true = eq-eqb sep sep refl in rw e refl
cut-first sep (c ∷ w) rest h =
    let e : (c == sep) ≡ false = ne_eqb c sep (λ same. omega (arith, same, h.0)) in
    let again = cut-first sep w rest h.1 in rw (e, again) refl

pub cut-none : (sep : ℕ) (w : List ℕ) → AreAbove sep w → slice_split (λ c. c == sep) w ≡ w ∷ []
cut-none sep [] h = refl
cut-none sep (c ∷ w) h =
    let e : (c == sep) ≡ false = ne_eqb c sep (λ same. omega (arith, same, h.0)) in
    let again = cut-none sep w h.1 in rw (e, again) refl

-- ---- words

-- the word has no space and no line feed
abbrev pub IsWord : List ℕ → Type 0
IsWord w = AreAbove 32 w

abbrev pub AreWords : List (List ℕ) → Type 0
AreWords [] = Unit {0}
AreWords (w ∷ ws) = IsWord w × AreWords ws

spaced-cut_from : (w : List ℕ) (ws : List (List ℕ)) → AreWords (w ∷ ws) → slice_split (λ c. c == 32) (spaced (w ∷ ws)) ≡ w ∷ ws
spaced-cut_from w [] h = cut-none 32 w h.0
spaced-cut_from w (v ∷ ws) h = cut-first 32 w (spaced (v ∷ ws)) h.0 ∙ ap (λ l. w ∷ l) (spaced-cut_from v ws h.1)

pub spaced-cut : (ws : List (List ℕ)) → 0 < length ws → AreWords ws → slice_split (λ c. c == 32) (spaced ws) ≡ ws
spaced-cut [] some h = absurd (omega (arith, some))
spaced-cut (w ∷ ws) some h = spaced-cut_from w ws h

pub spaced-above : (ws : List (List ℕ)) → AreWords ws → AreAbove 10 (spaced ws)
spaced-above [] h = tt
spaced-above (w ∷ []) h = above-lower 32 10 w (omega arith) h.0
spaced-above (w ∷ v ∷ ws) h = above-append 10 w (32 ∷ spaced (v ∷ ws)) (above-lower 32 10 w (omega arith) h.0) (omega arith, spaced-above (v ∷ ws) h.1)

first-same : {X : Type 0} (x y : X) (xs ys : List X) → x ∷ xs ≡ y ∷ ys → (x ≡ y) × (xs ≡ ys)
first-same x y xs ys e = (cc, cc)

pub line-cut : (ws : List (List ℕ)) (a : List ℕ) → AreWords ws → slice_split (λ c. c == 10) (line ws ++ a) ≡ spaced ws ∷ slice_split (λ c. c == 10) a
line-cut ws a h = ap (slice_split (λ c. c == 10)) (append_assoc (spaced ws) (10 ∷ []) a) ∙ cut-first 10 (spaced ws) a (spaced-above ws h)

-- a line at the start of a text determines its words and the remainder
pub line-words : (ws vs : List (List ℕ)) (a b : List ℕ) → 0 < length ws → 0 < length vs → AreWords ws → AreWords vs → line ws ++ a ≡ line vs ++ b → (ws ≡ vs) × (a ≡ b)
line-words ws vs a b some more h k e =
    let parts : spaced ws ∷ slice_split (λ c. c == 10) a ≡ spaced vs ∷ slice_split (λ c. c == 10) b =
    sym (line-cut ws a h) ∙ ap (slice_split (λ c. c == 10)) e ∙ line-cut vs b k in
    let same = first-same _ _ _ _ parts in (
      sym (spaced-cut ws some h) ∙ ap (slice_split (λ c. c == 32)) same.0 ∙ spaced-cut vs more k,
      sym (join_with_byte-slice_split 10 a) ∙ ap (join_with_byte 10) same.1 ∙ join_with_byte-slice_split 10 b,
    )

pub line-alone : (ws vs : List (List ℕ)) → 0 < length ws → 0 < length vs → AreWords ws → AreWords vs → line ws ≡ line vs → ws ≡ vs
line-alone ws vs some more h k e = (line-words ws vs [] [] some more h k (ap (λ l. l ++ []) e)).0

-- a line has one line feed
above-each : (bound : ℕ) (w : List ℕ) → AreAbove bound w → (k d : ℕ) → k < length w → slice_index_or w k d ≢ bound
above-each bound [] h k d less = absurd (omega (arith, less))
above-each bound (c ∷ w) h zero d less = λ is. omega (arith, h.0, is)
above-each bound (c ∷ w) h (suc k) d less = above-each bound w h.1 k d (omega (arith, less))

above-all : (bound : ℕ) (w : List ℕ) → AreAbove bound w → All (λ c. c ≢ bound) w
above-all bound w h = above-each bound w h

pub cut-into : (ws : List (List ℕ)) → 0 < length ws → AreWords ws → IsSplitInto ws
cut-into ws some h = record { cut = spaced-cut ws some h; one_line = above-all 10 (spaced ws) (spaced-above ws h) }

pub lt-from : {m n : ℕ} → nat_lt m n ≡ true → m < n
lt-from h = grind (arith, nat_tests)

-- a literal is a word by a test
pub literal : (w : List ℕ) → list_all (λ c. nat_lt 32 c) w ≡ true → IsWord w
literal w h = above-test (λ c. nat_lt 32 c) 32 w (λ c is. lt-from is) h

-- ---- numbers

own : IsNumeralModel (λ ds. list_all is_ascii_digit ds ≡ true) (digits_value 10)
own = numerals_by_value (λ ds. list_all is_ascii_digit ds ≡ true) (search rules)

pub decimal-word : (n : ℕ) → n < 2 ^ 64 → IsWord (decimal n)
decimal-word n small = above-test is_ascii_digit 32 (decimal n) (λ c is. grind (arith, nat_tests)) (digits_decimal own n small)

pub decimal-same : (m n : ℕ) → m < 2 ^ 64 → n < 2 ^ 64 → decimal m ≡ decimal n → m ≡ n
decimal-same m n h k e = sym (digits_value-decimal own m h) ∙ ap (digits_value 10) e ∙ digits_value-decimal own n k

-- ---- names

start-above : (c : ℕ) → is_name_start c ≡ true → 32 < c
start-above c h = grind (arith, nat_tests)

byte-above : (c : ℕ) → is_name_byte c ≡ true → 32 < c
byte-above c h = grind (arith, nat_tests)

pub name-word : (w : List ℕ) → is_name_form w ≡ true → IsWord w
name-word [] h = tt
name-word (c ∷ w) h = (
  start-above c (both-left (is_name_start c) (list_all is_name_byte w) h),
  above-test is_name_byte 32 w byte-above (both-right (is_name_start c) (list_all is_name_byte w) h),
)
