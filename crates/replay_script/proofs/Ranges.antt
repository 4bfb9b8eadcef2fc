-- The numbers and names of a line are in the ranges of their words.
use Rattle.std.proofs.Common.{◌≡◌, ◌≢◌, ℕ, zero, suc, ◌-◌, ◌^◌, ◌<◌, ◌≤◌, Bool, true, false, cond, List, [], ◌∷◌}
use Rattle.std.proofs.Common.{length, Option, Some, None, refl, sym, subst, arith}
use Rattle.std.specs.Prelude.{slice_get, nat_lt, nat_le, option_map}
use Rattle.std.specs.List.{list_all, position_or_len}
use Rattle.std.specs.Char.{digit_value}
use Rattle.std.specs.Str.{bytes_eq}
use Rattle.std.specs.Str.Parse.{AllDigits, digits_value}
use Rattle.std.proofs.Math.Nat.{pow-le-pow_right}
use Rattle.std.proofs.lemmas.Bool.{and_parts, ltb-true, leb-true}
use Rattle.std.proofs.lemmas.Grind.{common_steps}
use Rattle.std.proofs.lemmas.Int.Digits.{digits_value-lt}
use Rattle.std.proofs.lemmas.Option.{same_Some}
use Rattle.mrpc_table.specs.Lines.{words_of, IsIn}
use Rattle.mrpc_table.specs.Names.{IsName}
use Rattle.policy_declarations.specs.Declarations.{Declared, policy_index}
use Rattle.policy_declarations.specs.DeclarationTexts.{declaration_form}
use Rattle.script_grammar.specs.Forms.{word_kinds_of}
use Rattle.script_grammar.specs.Lines.{HaveMeanings}
use Rattle.script_grammar.specs.WordKinds.{Meaning, word, number, unbounded, name, HasMeaning, number_at, name_at}
use Rattle.script_grammar.specs.Values.{WrittenValue, plain, negative, hexadecimal, IsValue, IsInRange, stored_word, is_hexadecimal, are_hexadecimal}
use Rattle.script_grammar.specs.declared.form.LineForm.{LineForm}
use Rattle.script_grammar.specs.declared.form.LineForm.TheVariants as form
use Rattle.script_grammar.specs.declared.word_kind.WordKind.{WordKind}
use Rattle.script_grammar.specs.declared.word_kind.WordKind.TheVariants as sort
use Rattle.replay_script.specs.Lines.{conn_of, IsValidLine}
use Rattle.replay_script.specs.Words.{IsParsedAs, line_in}
use Rattle.replay_script.specs.declared.script.ScriptLine.{ScriptLine}
use Rattle.replay_script.specs.declared.script.ScriptLine.TheVariants as line

-- ---- the value of a word

digit_small : (c : ℕ) → is_hexadecimal c ≡ true → digit_value c < 16
digit_small c e = grind (arith, common_steps)

all_small : (ds : List ℕ) → list_all is_hexadecimal ds ≡ true → AllDigits 16 ds
all_small [] all = tt
all_small (c ∷ cs) all = let parts = and_parts (is_hexadecimal c) (list_all is_hexadecimal cs) all in (digit_small c parts.0, all_small cs parts.1)

sixteen_digits : (ds : List ℕ) → are_hexadecimal ds ≡ true → digits_value 16 ds < 2 ^ 64
sixteen_digits ds e =
    let parts = and_parts _ (list_all is_hexadecimal ds) e in
    let counts = and_parts (nat_lt 0 (length ds)) (nat_le (length ds) 16) parts.0 in
    let long : length ds ≤ 16 = leb-true (length ds) 16 counts.1 in
    let value = digits_value-lt 16 ds (all_small ds parts.1) in
    let power : 16 ^ length ds ≤ 16 ^ 16 = pow-le-pow_right (omega arith) long in
    let is : 16 ^ 16 ≡ 2 ^ 64 = refl in
    omega (arith, value, power, is)

value_small : (w : List ℕ) (v : WrittenValue) → IsValue w v → IsInRange v → stored_word v < 2 ^ 64
value_small w (plain n) is fits = fits
value_small w (negative n) is fits = omega arith
value_small w (hexadecimal digits) is fits = sixteen_digits digits is.1

-- ---- the values of words

pub number_said : (sorts : List WordKind) (ws : List (List ℕ)) (ms : List Meaning) (k least most : ℕ)
    → slice_get sorts k ≡ Some (sort.Number least most) → HaveMeanings sorts ws ms → IsIn least most (number_at ms k)
number_said [] ws ms k least most at said = absurd cc
number_said (s ∷ ss) [] ms k least most at said = absurd said
number_said (s ∷ ss) (w ∷ ws) [] k least most at said = absurd said
number_said (s ∷ ss) (w ∷ ws) (m ∷ ms) zero least most at said = of m (subst (λ (x : WordKind). HasMeaning x w m) (same_Some s (sort.Number least most) at) said.0) where
  of : (m : Meaning) → HasMeaning (sort.Number least most) w m → IsIn least most (number_at (m ∷ ms) 0)
  of (number n) h = h.1
  of (word k) h = absurd h
  of (unbounded d) h = absurd h
  of (name x) h = absurd h
number_said (s ∷ ss) (w ∷ ws) (m ∷ ms) (suc k) least most at said = number_said ss ws ms k least most at said.1

pub name_said : (sorts : List WordKind) (ws : List (List ℕ)) (ms : List Meaning) (k : ℕ) → slice_get sorts k ≡ Some sort.Name → HaveMeanings sorts ws ms → IsName (name_at ms k)
name_said [] ws ms k at said = absurd cc
name_said (s ∷ ss) [] ms k at said = absurd said
name_said (s ∷ ss) (w ∷ ws) [] k at said = absurd said
name_said (s ∷ ss) (w ∷ ws) (m ∷ ms) zero at said = of m (subst (λ (x : WordKind). HasMeaning x w m) (same_Some s sort.Name at) said.0) where
  of : (m : Meaning) → HasMeaning sort.Name w m → IsName (name_at (m ∷ ms) 0)
  of (name x) h = subst IsName (sym h.0) h.1
  of (word k) h = absurd h
  of (unbounded d) h = absurd h
  of (number n) h = absurd h
name_said (s ∷ ss) (w ∷ ws) (m ∷ ms) (suc k) at said = name_said ss ws ms k at said.1

pub value_said : (sorts : List WordKind) (ws : List (List ℕ)) (ms : List Meaning) (k : ℕ) → slice_get sorts k ≡ Some sort.Value → HaveMeanings sorts ws ms → number_at ms k < 2 ^ 64
value_said [] ws ms k at said = absurd cc
value_said (s ∷ ss) [] ms k at said = absurd said
value_said (s ∷ ss) (w ∷ ws) [] k at said = absurd said
value_said (s ∷ ss) (w ∷ ws) (m ∷ ms) zero at said = of m (subst (λ (x : WordKind). HasMeaning x w m) (same_Some s sort.Value at) said.0) where
  of : (m : Meaning) → HasMeaning sort.Value w m → number_at (m ∷ ms) 0 < 2 ^ 64
  of (number n) (v, is, fits, e) = subst (λ (x : ℕ). x < 2 ^ 64) (sym e) (value_small w v is fits)
  of (word k) h = absurd h
  of (unbounded d) h = absurd h
  of (name x) h = absurd h
value_said (s ∷ ss) (w ∷ ws) (m ∷ ms) (suc k) at said = value_said ss ws ms k at said.1

-- ---- the index of a policy

some_by : (b : Bool) (n i : ℕ) → cond b (Some n) None ≡ Some i → (b ≡ true) × (n ≡ i)
some_by true n i e = (refl, same_Some n i e)
some_by false n i e = absurd cc

pub place_within : (d : Declared) (called : List ℕ) (place : ℕ) → policy_index d called ≡ Some place → place < length d.policies
place_within d called place e =
    let first : ℕ = position_or_len (λ p. bytes_eq p.name called) d.policies in
    let parts = some_by (nat_lt first (length d.policies)) first place e in
    let within = ltb-true first (length d.policies) parts.0 in
    let same = parts.1 in
    omega (arith, within, same)

mapped : {A B : Type 0} (f : A → B) (o : Option A) (y : B) → option_map f o ≡ Some y → (x : A) × (o ≡ Some x) × (f x ≡ y)
mapped f None y e = absurd cc
mapped f (Some x) y e = (x, refl, same_Some (f x) y e)

-- ---- lines

pub record IsRanged (policies : ℕ) (l : ScriptLine) : Type 0 where
  pub conn_from : 1 ≤ conn_of l
  pub conn_to : conn_of l ≤ 16
  pub ranges : IsValidLine policies l

ranged_is : (policies : ℕ) (k l : ScriptLine) → k ≡ l → IsRanged policies k → IsRanged policies l
ranged_is policies k l e h = subst (IsRanged policies) e h

pub conn_said : (f : LineForm) (text : List ℕ) (m : List Meaning) → IsParsedAs f text m → slice_get (word_kinds_of f) 1 ≡ Some (sort.Number 1 16) → IsIn 1 16 (number_at m 1)
conn_said f text m said at = number_said (word_kinds_of f) (words_of text) m 1 1 16 at said.said

pub number_of : (f : LineForm) (text : List ℕ) (m : List Meaning) (k least most : ℕ) → IsParsedAs f text m
    → slice_get (word_kinds_of f) k ≡ Some (sort.Number least most) → IsIn least most (number_at m k)
number_of f text m k least most said at = number_said (word_kinds_of f) (words_of text) m k least most at said.said

name_of : (f : LineForm) (text : List ℕ) (m : List Meaning) (k : ℕ) → IsParsedAs f text m → slice_get (word_kinds_of f) k ≡ Some sort.Name → IsName (name_at m k)
name_of f text m k said at = name_said (word_kinds_of f) (words_of text) m k at said.said

value_of : (f : LineForm) (text : List ℕ) (m : List Meaning) (k : ℕ) → IsParsedAs f text m → slice_get (word_kinds_of f) k ≡ Some sort.Value → number_at m k < 2 ^ 64
value_of f text m k said at = value_said (word_kinds_of f) (words_of text) m k at said.said

pub line_ranges : (d : Declared) (text : List ℕ) (f : LineForm) (m : List Meaning) (l : ScriptLine) → IsParsedAs f text m → line_in d f m ≡ Some l → IsRanged (length d.policies) l
line_ranges d text form.Conn m l said e =
    let conn = conn_said form.Conn text m said refl in
    let words = number_of form.Conn text m 2 4 65536 said refl in
    ranged_is _ (line.Conn (number_at m 1) (number_at m 2)) l (same_Some _ l e) (record { conn_from = conn.0; conn_to = conn.1; ranges = words })
line_ranges d text form.Store m l said e =
    let conn = conn_said form.Store text m said refl in
    ranged_is _ (line.Store (number_at m 1) _ (number_at m 3)) l (same_Some _ l e) (record { conn_from = conn.0; conn_to = conn.1; ranges = value_of form.Store text m 3 said refl })
line_ranges d text form.Race m l said e =
    let conn = conn_said form.Race text m said refl in
    let load = number_of form.Race text m 2 0 (2 ^ 64 - 1) said refl in
    let most = load.1 in
    ranged_is _ (line.Race (number_at m 1) (number_at m 2) _ (number_at m 4)) l (same_Some _ l e)
    (record {
      conn_from = conn.0;
      conn_to = conn.1;
      ranges = (omega (arith, most), value_of form.Race text m 4 said refl);
    })
line_ranges d text form.Submit m l said e =
    let conn = conn_said form.Submit text m said refl in
    let method = (number_of form.Submit text m 2 0 65535 said refl).1 in
    let addr = (number_of form.Submit text m 3 0 (2 ^ 64 - 1) said refl).1 in
    ranged_is _ (line.Submit (number_at m 1) (number_at m 2) 0 (number_at m 3)) l (same_Some _ l e)
    (record {
      conn_from = conn.0;
      conn_to = conn.1;
      ranges = (omega (arith, method), omega arith, omega (arith, addr));
    })
line_ranges d text form.Reply m l said e =
    let conn = conn_said form.Reply text m said refl in
    let method = (number_of form.Reply text m 2 0 65535 said refl).1 in
    let addr = (number_of form.Reply text m 3 0 (2 ^ 64 - 1) said refl).1 in
    let request = (number_of form.Reply text m 4 1 (2 ^ 32 - 1) said refl).1 in
    ranged_is _ (line.Submit (number_at m 1) (number_at m 2) (number_at m 4) (number_at m 3)) l (same_Some _ l e)
    (record {
      conn_from = conn.0;
      conn_to = conn.1;
      ranges = (omega (arith, method), omega (arith, request), omega (arith, addr));
    })
line_ranges d text form.Attach m l said e =
    let conn = conn_said form.Attach text m said refl in
    let place = mapped (line.Attach (number_at m 1) _ (name_at m 3)) (policy_index d (name_at m 4)) l e in
    ranged_is _ (line.Attach (number_at m 1) _ (name_at m 3) place.0) l place.2
    (record { conn_from = conn.0; conn_to = conn.1; ranges = (name_of form.Attach text m 3 said refl, place_within d (name_at m 4) place.0 place.1) })
line_ranges d text form.Detach m l said e =
    let conn = conn_said form.Detach text m said refl in
    ranged_is _ (line.Detach (number_at m 1) (name_at m 2)) l (same_Some _ l e) (record { conn_from = conn.0; conn_to = conn.1; ranges = name_of form.Detach text m 2 said refl })
line_ranges d text form.Upgrade m l said e =
    let conn = conn_said form.Upgrade text m said refl in
    let place = mapped (line.Upgrade (number_at m 1) (name_at m 2)) (policy_index d (name_at m 3)) l e in
    ranged_is _ (line.Upgrade (number_at m 1) (name_at m 2) place.0) l place.2
    (record { conn_from = conn.0; conn_to = conn.1; ranges = (name_of form.Upgrade text m 2 said refl, place_within d (name_at m 3) place.0 place.1) })
line_ranges d text form.Moment m l said e =
    let conn = conn_said form.Moment text m said refl in
    let ms = (number_of form.Moment text m 2 0 (2 ^ 53) said refl).1 in
    ranged_is _ (line.Moment (number_at m 1) (number_at m 2)) l (same_Some _ l e) (record { conn_from = conn.0; conn_to = conn.1; ranges = ms })
line_ranges d text form.Turn m l said e =
    let conn = conn_said form.Turn text m said refl in
    ranged_is _ (line.Turn (number_at m 1) _) l (same_Some _ l e) (record { conn_from = conn.0; conn_to = conn.1; ranges = tt })
line_ranges d text form.Send m l said e =
    let conn = conn_said form.Send text m said refl in
    ranged_is _ (line.Send (number_at m 1)) l (same_Some _ l e) (record { conn_from = conn.0; conn_to = conn.1; ranges = tt })
line_ranges d text form.Drain m l said e =
    let conn = conn_said form.Drain text m said refl in
    ranged_is _ (line.Drain (number_at m 1)) l (same_Some _ l e) (record { conn_from = conn.0; conn_to = conn.1; ranges = tt })
line_ranges d text form.Tenant m l said e = absurd cc
line_ranges d text form.Access m l said e = absurd cc
line_ranges d text form.Rate m l said e = absurd cc
line_ranges d text form.Quota m l said e = absurd cc
line_ranges d text form.Count m l said e = absurd cc
line_ranges d text form.Redact m l said e = absurd cc
line_ranges d text form.Close m l said e = absurd cc

conn_sort : (f : LineForm) → declaration_form f ≡ None → f ≢ form.Close → slice_get (word_kinds_of f) 1 ≡ Some (sort.Number 1 16)
conn_sort form.Store item open_still = refl
conn_sort form.Submit item open_still = refl
conn_sort form.Reply item open_still = refl
conn_sort form.Race item open_still = refl
conn_sort form.Turn item open_still = refl
conn_sort form.Send item open_still = refl
conn_sort form.Drain item open_still = refl
conn_sort form.Moment item open_still = refl
conn_sort form.Attach item open_still = refl
conn_sort form.Detach item open_still = refl
conn_sort form.Upgrade item open_still = refl
conn_sort form.Conn item open_still = refl
conn_sort form.Tenant item open_still = absurd cc
conn_sort form.Access item open_still = absurd cc
conn_sort form.Rate item open_still = absurd cc
conn_sort form.Quota item open_still = absurd cc
conn_sort form.Count item open_still = absurd cc
conn_sort form.Redact item open_still = absurd cc
conn_sort form.Close item open_still = absurd (open_still refl)

pub conn_inside : (f : LineForm) (text : List ℕ) (m : List Meaning) → IsParsedAs f text m → declaration_form f ≡ None → f ≢ form.Close → IsIn 1 16 (number_at m 1)
conn_inside f text m said item open_still = conn_said f text m said (conn_sort f item open_still)
