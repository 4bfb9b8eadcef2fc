-- The words of lines with short numbers.
use Rattle.std.proofs.Common.{◌≡◌, ℕ, suc, ◌+◌, ◌-◌, ◌*◌, ◌^◌, ◌==◌, ◌<◌, ◌≤◌, true, false, nat_le, All, List, []}
use Rattle.std.proofs.Common.{◌∷◌, length, take, get_or, Some, ap, sym, subst, ◌∙◌, refl, arith, leb-true, le-ltb}
use Rattle.std.proofs.Common.{◌++◌, zero, lt-ltb, append-nil, append_assoc, ⊎_elim}
use Rattle.std.specs.Char.{digit_value, is_ascii_digit}
use Rattle.std.specs.List.{list_all, AllByRecursion}
use Rattle.std.specs.Str.Parse.{digits_value}
use Rattle.std.proofs.Math.Nat.{pow-le-pow_right, pow-suc}
use Rattle.std.proofs.lemmas.Bool.{and_parts, cases_eq, ne_eqb}
use Rattle.std.proofs.lemmas.Bool.Decides.{nat_tests}
use Rattle.std.proofs.lemmas.Int.Digits.{digits_value_more}
use Rattle.std.proofs.lemmas.List.Elements.{All-from_recursion}
use Rattle.std.proofs.lemmas.List.Folds.{list_all_more}
use Rattle.std.proofs.lemmas.List.Splits.{slice_split_at, slice_split_none}
use Rattle.mrpc_table.specs.Lines.{words_of, in_64_bits, is_decimal, number_of}
use Rattle.mrpc_table.specs.declared.words.Decimal.TheVariants.{Small}
use Rattle.script_grammar.specs.Forms.{form_in, word_kinds_of}
use Rattle.script_grammar.specs.Lines.{HaveMeanings}
use Rattle.script_grammar.specs.Values.{plain}
use Rattle.script_grammar.specs.declared.form.LineForm.TheVariants as form
use Rattle.replay_script.specs.Stores.{drain_words, store_words, submit_words, turn_words, IsNumberBefore, IsFirstLineOf}
use Rattle.replay_script.specs.Words.{IsParsedAs}
use Rattle.replay_script.specs.declared.short_lines.SubmitLine.{SubmitLine}
use Rattle.replay_script.specs.declared.short_lines.TurnLine.{TurnLine}
use Rattle.replay_script.specs.declared.store_line.StoreLine.{StoreLine}
use Rattle.replay_script.proofs.TextLines.{one_line}

-- ---- digits

pub digit_is : (c : ℕ) → is_ascii_digit c ≡ true → (48 ≤ c) × (c ≤ 57) × (digit_value c ≡ c - 48)
digit_is c e =
    let tests = and_parts (nat_le 48 c) (nat_le c 57) e in
    let low : 48 ≤ c = leb-true 48 c tests.0 in
    let high : c ≤ 57 = leb-true c 57 tests.1 in
    (low, high, rw (le-ltb c 48 low, lt-ltb c 58 (omega arith)) refl)

pub less_by_a_digit : (n i d : ℕ) → n < 10 ^ i → d ≤ 9 → n * 10 + d < 10 ^ (i + 1)
less_by_a_digit n i d less digit =
    let next : i + 1 ≡ suc i = omega arith in
    let power : 10 ^ suc i ≡ 10 ^ i * 10 = pow-suc 10 i in
    rw (next, power) (omega (arith, less, digit))

pub fits_by_a_digit : (n i d : ℕ) → n < 10 ^ i → i < 19 → d ≤ 9 → n * 10 + d < 18446744073709551616
fits_by_a_digit n i d less few digit =
    let positive : 0 < 10 = omega arith in
    let at_most : i ≤ 18 = omega (arith, few) in
    let most : 10 ^ i ≤ 10 ^ 18 = pow-le-pow_right positive at_most in
    omega (arith, less, most, digit)

pub fits : (n i : ℕ) → n < 10 ^ i → i ≤ 19 → n < 18446744073709551616
fits n i less few =
    let positive : 0 < 10 = omega arith in
    let most : 10 ^ i ≤ 10 ^ 19 = pow-le-pow_right positive few in
    omega (arith, less, most)

pub digits_more : (word : List ℕ) (i : ℕ) → i < length word → list_all is_ascii_digit (take i word) ≡ true → is_ascii_digit (get_or word i 0) ≡ true
    → list_all is_ascii_digit (take (i + 1) word) ≡ true
digits_more word i within before here = list_all_more is_ascii_digit word i 0 within ∙ (rw (before, here) refl)

pub value_more : (word : List ℕ) (i n d : ℕ) → i < length word → is_ascii_digit (get_or word i 0) ≡ true → n ≡ digits_value 10 (take i word) → d ≡ get_or word i 0 - 48
    → n * 10 + d ≡ digits_value 10 (take (i + 1) word)
value_more word i n d within here so_far digit =
    let value : digit_value (get_or word i 0) ≡ get_or word i 0 - 48 = (digit_is (get_or word i 0) here).2 in
    sym (digits_value_more 10 word i within ∙ rw (value, sym so_far, sym digit) refl)

-- no digit follows a leading zero
pub decimal_front : (text : List ℕ) (i : ℕ) → 1 ≤ i → i ≤ length text → list_all is_ascii_digit (take i text) ≡ true
    → (get_or text 0 0 ≡ 48 → i ≡ 1) → is_decimal (take i text) ≡ true
decimal_front [] i low within all alone = absurd (omega (arith, low, within))
decimal_front (c ∷ cs) zero low within all alone = absurd (omega (arith, low))
decimal_front (c ∷ cs) (suc j) low within all alone =
    ⊎_elim
    (λ same.
    let none : j ≡ 0 = omega (arith, alone same) in
    let is : (c == 48) ≡ true = grind (same, arith, nat_tests) in
    rw (all, is, none) refl)
    (λ apart. rw (all, ne_eqb c 48 apart) refl)
    (cases_eq c 48)

pub spells : (word : List ℕ) (n : ℕ) → is_decimal word ≡ true → n ≡ digits_value 10 word → number_of word ≡ Some n
spells word n decimal value = rw decimal (ap Some (sym value))

-- ---- words

no_space : (c : ℕ) → is_ascii_digit c ≡ true → (c == 32) ≡ false
no_space c e =
    let low = (digit_is c e).0 in
    ne_eqb c 32 (λ same. omega (arith, low, same))

each_no_space : (digits : List ℕ) → list_all is_ascii_digit digits ≡ true → AllByRecursion (λ c. (c == 32) ≡ false) digits
each_no_space [] e = tt
each_no_space (c ∷ cs) e =
    let parts = and_parts (is_ascii_digit c) (list_all is_ascii_digit cs) e in
    (no_space c parts.0, each_no_space cs parts.1)

no_spaces : (digits : List ℕ) → list_all is_ascii_digit digits ≡ true → All (λ c. (c == 32) ≡ false) digits
no_spaces digits e = All-from_recursion (λ c. (c == 32) ≡ false) digits (each_no_space digits e)

word_before : {text rest : List ℕ} {n : ℕ} → (w : IsNumberBefore text n (32 ∷ rest)) → words_of text ≡ w.digits ∷ words_of rest
word_before {text} {rest} w = ap words_of w.parts ∙ slice_split_at (λ c. c == 32) w.digits 32 rest (no_spaces w.digits w.are_digits) refl

last_word : {text : List ℕ} {n : ℕ} → (w : IsNumberBefore text n []) → words_of text ≡ w.digits ∷ []
last_word w = ap words_of (w.parts ∙ append-nil w.digits) ∙ slice_split_none (λ c. c == 32) w.digits (no_spaces w.digits w.are_digits)

small_is : (n : ℕ) → n < 2 ^ 64 → Small n ≡ in_64_bits n
small_is n small = rw (lt-ltb n (2 ^ 64) small) refl

is_store : (line first second third : List ℕ) (conn place value : ℕ)
    → line ≡ 115 ∷ 116 ∷ 111 ∷ 114 ∷ 101 ∷ 32 ∷ first → IsNumberBefore first conn (32 ∷ second)
    → IsNumberBefore second place (32 ∷ third) → IsNumberBefore third value [] → 1 ≤ conn → conn ≤ 16
    → IsParsedAs form.Store line (store_words (record { conn = conn; place = Small place; value = value }))
is_store line first second third conn place value begins c p v low high =
    let s : StoreLine = record { conn = conn; place = Small place; value = value } in
    let store : List ℕ = 115 ∷ 116 ∷ 111 ∷ 114 ∷ 101 ∷ [] in
    let words : words_of line ≡ store ∷ c.digits ∷ p.digits ∷ v.digits ∷ [] =
    ap words_of begins ∙ ap (λ (ws : List (List ℕ)). store ∷ ws) (word_before c
    ∙ ap (λ (ws : List (List ℕ)). c.digits ∷ ws) (word_before p ∙ ap (λ (ws : List (List ℕ)). p.digits ∷ ws) (last_word v))) in
    record {
      has_form = subst (λ (ws : List (List ℕ)). form_in ws ≡ Some form.Store) (sym words) refl;
      said = subst (λ (ws : List (List ℕ)). HaveMeanings (word_kinds_of form.Store) ws (store_words s)) (sym words)
          ((refl, refl), ((c.spells, (low, high)), ((place, p.spells, small_is place p.small), ((plain value, v.spells, v.small, refl), tt))));
    }

is_submit : (line first second third : List ℕ) (conn method addr : ℕ)
    → line ≡ 115 ∷ 117 ∷ 98 ∷ 109 ∷ 105 ∷ 116 ∷ 32 ∷ first → IsNumberBefore first conn (32 ∷ second)
    → IsNumberBefore second method (32 ∷ third) → IsNumberBefore third addr [] → 1 ≤ conn → conn ≤ 16 → method ≤ 65535
    → IsParsedAs form.Submit line (submit_words (record { conn = conn; method = method; addr = addr }))
is_submit line first second third conn method addr begins c m a low high few =
    let s : SubmitLine = record { conn = conn; method = method; addr = addr } in
    let submit : List ℕ = 115 ∷ 117 ∷ 98 ∷ 109 ∷ 105 ∷ 116 ∷ [] in
    let words : words_of line ≡ submit ∷ c.digits ∷ m.digits ∷ a.digits ∷ [] =
    ap words_of begins ∙ ap (λ (ws : List (List ℕ)). submit ∷ ws) (word_before c
    ∙ ap (λ (ws : List (List ℕ)). c.digits ∷ ws) (word_before m ∙ ap (λ (ws : List (List ℕ)). m.digits ∷ ws) (last_word a))) in
    let none : 0 ≤ method = omega arith in
    let least : 0 ≤ addr = omega arith in
    let most : addr ≤ 2 ^ 64 - 1 = omega (arith, a.small) in
    record {
      has_form = subst (λ (ws : List (List ℕ)). form_in ws ≡ Some form.Submit) (sym words) refl;
      said = subst (λ (ws : List (List ℕ)). HaveMeanings (word_kinds_of form.Submit) ws (submit_words s)) (sym words)
          ((refl, refl), ((c.spells, (low, high)), ((m.spells, (none, few)), ((a.spells, (least, most)), tt))));
    }

is_turn : (line first second : List ℕ) (conn at : ℕ)
    → line ≡ 116 ∷ 117 ∷ 114 ∷ 110 ∷ 32 ∷ first → IsNumberBefore first conn (32 ∷ second)
    → IsNumberBefore second at [] → 1 ≤ conn → conn ≤ 16
    → IsParsedAs form.Turn line (turn_words (record { conn = conn; at = Small at }))
is_turn line first second conn at begins c a low high =
    let t : TurnLine = record { conn = conn; at = Small at } in
    let turn : List ℕ = 116 ∷ 117 ∷ 114 ∷ 110 ∷ [] in
    let words : words_of line ≡ turn ∷ c.digits ∷ a.digits ∷ [] =
    ap words_of begins ∙ ap (λ (ws : List (List ℕ)). turn ∷ ws) (word_before c
    ∙ ap (λ (ws : List (List ℕ)). c.digits ∷ ws) (last_word a)) in
    record {
      has_form = subst (λ (ws : List (List ℕ)). form_in ws ≡ Some form.Turn) (sym words) refl;
      said = subst (λ (ws : List (List ℕ)). HaveMeanings (word_kinds_of form.Turn) ws (turn_words t)) (sym words)
          ((refl, refl), ((c.spells, (low, high)), ((at, a.spells, small_is at a.small), tt)));
    }

is_drain : (line first : List ℕ) (conn : ℕ)
    → line ≡ 100 ∷ 114 ∷ 97 ∷ 105 ∷ 110 ∷ 32 ∷ first → IsNumberBefore first conn [] → 1 ≤ conn → conn ≤ 16
    → IsParsedAs form.Drain line (drain_words conn)
is_drain line first conn begins c low high =
    let drain : List ℕ = 100 ∷ 114 ∷ 97 ∷ 105 ∷ 110 ∷ [] in
    let words : words_of line ≡ drain ∷ c.digits ∷ [] =
    ap words_of begins ∙ ap (λ (ws : List (List ℕ)). drain ∷ ws) (last_word c) in
    record {
      has_form = subst (λ (ws : List (List ℕ)). form_in ws ≡ Some form.Drain) (sym words) refl;
      said = subst (λ (ws : List (List ℕ)). HaveMeanings (word_kinds_of form.Drain) ws (drain_words conn)) (sym words)
          ((refl, refl), ((c.spells, (low, high)), tt));
    }

-- ---- lines at the start of a text

no_feed : (c : ℕ) → is_ascii_digit c ≡ true → (c == 10) ≡ false
no_feed c e =
    let low = (digit_is c e).0 in
    ne_eqb c 10 (λ same. omega (arith, low, same))

abbrev AreUnfed : List ℕ → Type 0
AreUnfed l = AllByRecursion (λ c. (c == 10) ≡ false) l

each_unfed : (digits : List ℕ) → list_all is_ascii_digit digits ≡ true → AreUnfed digits
each_unfed [] e = tt
each_unfed (c ∷ cs) e =
    let parts = and_parts (is_ascii_digit c) (list_all is_ascii_digit cs) e in
    (no_feed c parts.0, each_unfed cs parts.1)

both_unfed : (xs ys : List ℕ) → AreUnfed xs → AreUnfed ys → AreUnfed (xs ++ ys)
both_unfed [] ys a b = b
both_unfed (x ∷ xs) ys a b = (a.0, both_unfed xs ys a.1 b)

-- the bytes of a text up to a line feed, and the remainder
record Fed (text rest : List ℕ) : Type 0 where
  line : List ℕ
  parts : text ≡ line ++ 10 ∷ rest
  unfed : AreUnfed line

fed_end : {text rest : List ℕ} {n : ℕ} → IsNumberBefore text n (10 ∷ rest) → Fed text rest
fed_end w = record { line = w.digits; parts = w.parts; unfed = each_unfed w.digits w.are_digits }

fed_more : {text behind rest : List ℕ} {n : ℕ} → IsNumberBefore text n (32 ∷ behind) → Fed behind rest → Fed text rest
fed_more {rest = rest} w f = record {
  line = w.digits ++ 32 ∷ f.line;
  parts = w.parts ∙ ap (λ (t : List ℕ). w.digits ++ 32 ∷ t) f.parts ∙ sym (append_assoc w.digits (32 ∷ f.line) (10 ∷ rest));
  unfed = both_unfed w.digits (32 ∷ f.line) (each_unfed w.digits w.are_digits) (refl, f.unfed);
}

alone : {text rest : List ℕ} {n : ℕ} → (w : IsNumberBefore text n rest) → IsNumberBefore w.digits n []
alone w = record { digits = w.digits; parts = sym (append-nil w.digits); are_digits = w.are_digits; spells = w.spells; small = w.small }

with_rest : {text rest : List ℕ} {n : ℕ} → (w : IsNumberBefore text n rest) → (line : List ℕ) → IsNumberBefore (w.digits ++ line) n line
with_rest w line = record { digits = w.digits; parts = refl; are_digits = w.are_digits; spells = w.spells; small = w.small }

pub store_in_front : (text first second third rest : List ℕ) (conn place value : ℕ)
    → text ≡ 115 ∷ 116 ∷ 111 ∷ 114 ∷ 101 ∷ 32 ∷ first → IsNumberBefore first conn (32 ∷ second)
    → IsNumberBefore second place (32 ∷ third) → IsNumberBefore third value (10 ∷ rest) → 1 ≤ conn → conn ≤ 16
    → IsFirstLineOf form.Store text (store_words (record { conn = conn; place = Small place; value = value })) rest
unfolding fed_more fed_end
store_in_front text first second third rest conn place value begins c p v low high =
    let end = fed_end v in
    let mid = fed_more p end in
    let all = fed_more c mid in
    let line : List ℕ = 115 ∷ 116 ∷ 111 ∷ 114 ∷ 101 ∷ 32 ∷ all.line in
    let unfed : AreUnfed line = (refl, (refl, (refl, (refl, (refl, (refl, all.unfed)))))) in
    record {
      line = line;
      before = record {
        one_line = one_line line (All-from_recursion (λ c. (c == 10) ≡ false) line unfed);
        text_is = begins ∙ ap (λ (t : List ℕ). 115 ∷ 116 ∷ 111 ∷ 114 ∷ 101 ∷ 32 ∷ t) all.parts;
      };
      said = is_store line all.line mid.line end.line conn place value refl (with_rest c (32 ∷ mid.line)) (with_rest p (32 ∷ end.line)) (alone v) low high;
    }

pub submit_in_front : (text first second third rest : List ℕ) (conn method addr : ℕ)
    → text ≡ 115 ∷ 117 ∷ 98 ∷ 109 ∷ 105 ∷ 116 ∷ 32 ∷ first → IsNumberBefore first conn (32 ∷ second)
    → IsNumberBefore second method (32 ∷ third) → IsNumberBefore third addr (10 ∷ rest) → 1 ≤ conn → conn ≤ 16 → method ≤ 65535
    → IsFirstLineOf form.Submit text (submit_words (record { conn = conn; method = method; addr = addr })) rest
unfolding fed_more fed_end
submit_in_front text first second third rest conn method addr begins c m a low high few =
    let end = fed_end a in
    let mid = fed_more m end in
    let all = fed_more c mid in
    let line : List ℕ = 115 ∷ 117 ∷ 98 ∷ 109 ∷ 105 ∷ 116 ∷ 32 ∷ all.line in
    let unfed : AreUnfed line = (refl, (refl, (refl, (refl, (refl, (refl, (refl, all.unfed))))))) in
    record {
      line = line;
      before = record {
        one_line = one_line line (All-from_recursion (λ c. (c == 10) ≡ false) line unfed);
        text_is = begins ∙ ap (λ (t : List ℕ). 115 ∷ 117 ∷ 98 ∷ 109 ∷ 105 ∷ 116 ∷ 32 ∷ t) all.parts;
      };
      said = is_submit line all.line mid.line end.line conn method addr refl (with_rest c (32 ∷ mid.line)) (with_rest m (32 ∷ end.line)) (alone a) low high few;
    }

pub turn_in_front : (text first second rest : List ℕ) (conn at : ℕ)
    → text ≡ 116 ∷ 117 ∷ 114 ∷ 110 ∷ 32 ∷ first → IsNumberBefore first conn (32 ∷ second)
    → IsNumberBefore second at (10 ∷ rest) → 1 ≤ conn → conn ≤ 16
    → IsFirstLineOf form.Turn text (turn_words (record { conn = conn; at = Small at })) rest
unfolding fed_more fed_end
turn_in_front text first second rest conn at begins c a low high =
    let end = fed_end a in
    let all = fed_more c end in
    let line : List ℕ = 116 ∷ 117 ∷ 114 ∷ 110 ∷ 32 ∷ all.line in
    let unfed : AreUnfed line = (refl, (refl, (refl, (refl, (refl, all.unfed))))) in
    record {
      line = line;
      before = record {
        one_line = one_line line (All-from_recursion (λ c. (c == 10) ≡ false) line unfed);
        text_is = begins ∙ ap (λ (t : List ℕ). 116 ∷ 117 ∷ 114 ∷ 110 ∷ 32 ∷ t) all.parts;
      };
      said = is_turn line all.line end.line conn at refl (with_rest c (32 ∷ end.line)) (alone a) low high;
    }

pub drain_in_front : (text first rest : List ℕ) (conn : ℕ)
    → text ≡ 100 ∷ 114 ∷ 97 ∷ 105 ∷ 110 ∷ 32 ∷ first → IsNumberBefore first conn (10 ∷ rest) → 1 ≤ conn → conn ≤ 16
    → IsFirstLineOf form.Drain text (drain_words conn) rest
unfolding fed_end
drain_in_front text first rest conn begins c low high =
    let end = fed_end c in
    let line : List ℕ = 100 ∷ 114 ∷ 97 ∷ 105 ∷ 110 ∷ 32 ∷ end.line in
    let unfed : AreUnfed line = (refl, (refl, (refl, (refl, (refl, (refl, end.unfed)))))) in
    record {
      line = line;
      before = record {
        one_line = one_line line (All-from_recursion (λ c. (c == 10) ≡ false) line unfed);
        text_is = begins ∙ ap (λ (t : List ℕ). 100 ∷ 114 ∷ 97 ∷ 105 ∷ 110 ∷ 32 ∷ t) end.parts;
      };
      said = is_drain line end.line conn refl (alone c) low high;
    }
