-- The lines before a table's text.
use Rattle.std.proofs.Common.{◌≡◌, ◌≢◌, ℕ, zero, suc, ◌<◌, ◌==◌, ◌||◌, not, true, List, [], ◌∷◌, ◌++◌, codes, length}
use Rattle.std.proofs.Common.{get_or, drop, Option, Some, None, Result, Ok, Err, refl, sym, ap, subst, ◌∙◌}
use Rattle.std.proofs.Common.{append_assoc, arith, inl, inr, eq-eqb}
use Rattle.std.specs.Prelude.{option_map}
use Rattle.std.specs.List.{list_all}
use Rattle.std.specs.Char.{is_ascii_digit}
use Rattle.std.specs.Str.Parse.{digits_value}
use Rattle.std.proofs.lemmas.Bool.{and_parts, leb-true, false≢true}
use Rattle.std.proofs.lemmas.List.{append_cancel_left}
use Rattle.std.proofs.lemmas.List.Elements.{Contains-append_cases}
use Rattle.std.proofs.lemmas.Option.{same_Some, cond_some}
use Rattle.mrpc_table.specs.Lines.{pieces_of, is_decimal, number_of, in_64_bits}
use Rattle.mrpc_table.specs.declared.words.Decimal.{Decimal}
use Rattle.script_grammar.specs.Values.{IsNumber}
use Rattle.script_grammar.specs.Limits.{HasLimit, IsLimitFault, within}
use Rattle.script_grammar.specs.Preambles.{table_line, loads_line, IsLimit, IsPreambleFault, no_second_line, no_limit, no_third_line}
use Rattle.script_grammar.specs.declared.fault.ScriptReason.{ScriptReason}
use Rattle.script_grammar.specs.declared.fault.ScriptReason.TheVariants.{Word, Number}
use Rattle.script_grammar.proofs.TextLines.{IsOneLine, has_piece, pieces_line, cut_is, same_pieces}
use Rattle.script_grammar.proofs.Ranges.{within_tests}

-- ---- the line of a limit

digits_unfed : (ds : List ℕ) (k : ℕ) → k < length ds → list_all is_ascii_digit ds ≡ true → get_or ds k 10 ≡ 10 → ⊥
digits_unfed [] k within all at = omega (arith, within)
digits_unfed (d ∷ ds) zero within all at =
    let digit = leb-true 48 d (and_parts _ _ (and_parts (is_ascii_digit d) (list_all is_ascii_digit ds) all).0).0 in
    omega (arith, digit, at)
digits_unfed (d ∷ ds) (suc k) within all at = digits_unfed ds k (omega (arith, within)) (and_parts (is_ascii_digit d) (list_all is_ascii_digit ds) all).1 at

decimal_digits : (word : List ℕ) → is_decimal word ≡ true → list_all is_ascii_digit word ≡ true
decimal_digits [] e = refl
decimal_digits (c ∷ cs) e = (and_parts (list_all is_ascii_digit (c ∷ cs)) (not (c == 48) || length cs == 0) e).0

pub number_unfed : (word : List ℕ) (n : ℕ) → IsNumber word n → IsOneLine word
number_unfed word n number h = digits_unfed word h.0 h.1 (decimal_digits word (cond_some (is_decimal word) (digits_value 10 word) n number).0) h.2

free_of : (ds : List ℕ) (k : ℕ) → k < length ds → list_all (λ c. not (c == 10)) ds ≡ true → get_or ds k 10 ≡ 10 → ⊥
free_of [] k within all at = omega (arith, within)
free_of (d ∷ ds) zero within all at =
    let other : not (d == 10) ≡ true = (and_parts (not (d == 10)) (list_all (λ c. not (c == 10)) ds) all).0 in
    false≢true (sym (ap not (eq-eqb d 10 at)) ∙ other)
free_of (d ∷ ds) (suc k) within all at = free_of ds k (omega (arith, within)) (and_parts (not (d == 10)) (list_all (λ c. not (c == 10)) ds) all).1 at

loads_unfed : IsOneLine (codes "loads ")
loads_unfed h = free_of (codes "loads ") h.0 h.1 refl h.2

pub limit_unfed : (word : List ℕ) (n : ℕ) → IsNumber word n → IsOneLine (codes "loads " ++ word)
limit_unfed word n number h = elim (Contains-append_cases (codes "loads ") word 10 h) [
  | inl front ↦ loads_unfed front
  | inr back ↦ number_unfed word n number back
]

pub loads_parts : (word more : List ℕ) → loads_line word ++ more ≡ (codes "loads " ++ word) ++ 10 ∷ more
loads_parts word more = ap (λ (t : List ℕ). codes "loads " ++ t) (append_assoc word (10 ∷ []) more)

pub limit_pieces : (word more : List ℕ) (n : ℕ) → IsNumber word n → pieces_of (loads_line word ++ more) ≡ (codes "loads " ++ word) ∷ pieces_of more
limit_pieces word more n number = ap pieces_of (loads_parts word more) ∙ pieces_line (codes "loads " ++ word) more (limit_unfed word n number)

same_head : (x y : List ℕ) (xs ys : List (List ℕ)) → x ∷ xs ≡ y ∷ ys → x ≡ y
same_head x y xs ys e = cc

same_tail : (x y : List ℕ) (xs ys : List (List ℕ)) → x ∷ xs ≡ y ∷ ys → xs ≡ ys
same_tail x y xs ys e = ap (drop 1) e

-- at most one such line is a prefix of a text
pub one_limit : (word more other rest : List ℕ) (n m : ℕ) → IsNumber word n → IsNumber other m
    → loads_line word ++ more ≡ loads_line other ++ rest → (word ≡ other) × (n ≡ m) × (more ≡ rest)
one_limit word more other rest n m number that e =
    let pieces : (codes "loads " ++ word) ∷ pieces_of more ≡ (codes "loads " ++ other) ∷ pieces_of rest =
    sym (limit_pieces word more n number) ∙ ap pieces_of e ∙ limit_pieces other rest m that in
    let words : word ≡ other = append_cancel_left (codes "loads ") word other (same_head _ _ (pieces_of more) (pieces_of rest) pieces) in
    (words, same_Some n m (sym number ∙ ap number_of words ∙ that), same_pieces more rest (same_tail _ _ (pieces_of more) (pieces_of rest) pieces))

-- ---- reading it

some_piece : (text : List ℕ) → pieces_of text ≡ [] → ⊥
some_piece text e = (let p = has_piece text in let clash : [] ≡ p.0 ∷ p.1 = sym e ∙ p.2 in absurd cc)

-- no line ends
pub no_line : (text : List ℕ) → pieces_of text ≡ text ∷ [] → IsLimitFault text Word
no_line text none word more n number e =
    let pieces : text ∷ [] ≡ (codes "loads " ++ word) ∷ pieces_of more = sym none ∙ ap pieces_of e ∙ limit_pieces word more n number in
    let gone : [] ≡ pieces_of more = same_tail _ _ [] (pieces_of more) pieces in
    some_piece more (sym gone)

-- the first line is another one
pub other_line : (text line behind : List ℕ) → pieces_of text ≡ line ∷ pieces_of behind → ((rest : List ℕ) → line ≢ codes "loads " ++ rest) → IsLimitFault text Word
other_line text line behind cut other word more n number e =
    let pieces : line ∷ pieces_of behind ≡ (codes "loads " ++ word) ∷ pieces_of more = sym cut ∙ ap pieces_of e ∙ limit_pieces word more n number in
    other word (same_head _ _ (pieces_of behind) (pieces_of more) pieces)

-- its word is no number
pub no_number : (text line behind word : List ℕ) → pieces_of text ≡ line ∷ pieces_of behind
    → line ≡ codes "loads " ++ word → None ≡ option_map in_64_bits (number_of word) → IsLimitFault text Word
no_number text line behind word cut is none other more n number e =
    let pieces : line ∷ pieces_of behind ≡ (codes "loads " ++ other) ∷ pieces_of more = sym cut ∙ ap pieces_of e ∙ limit_pieces other more n number in
    let words : word ≡ other = append_cancel_left (codes "loads ") word other (sym is ∙ same_head _ _ (pieces_of behind) (pieces_of more) pieces) in
    (let clash : ◌≡◌ {A = Option Decimal} None (Some (in_64_bits n)) = none ∙ ap (λ w. option_map in_64_bits (number_of w)) words ∙ ap (option_map in_64_bits) number in absurd cc)

pub no_number_of : (text line behind word : List ℕ) → pieces_of text ≡ line ∷ pieces_of behind
    → line ≡ codes "loads " ++ word → number_of word ≡ None → IsLimitFault text Word
no_number_of text line behind word cut is none = no_number text line behind word cut is (sym (ap (option_map in_64_bits) none))

-- the number that its word is
some_number : (o : Option ℕ) (d : Decimal) → Some d ≡ option_map in_64_bits o → (n : ℕ) × (o ≡ Some n) × (d ≡ in_64_bits n)
some_number None d e = absurd cc
some_number (Some n) d e = (n, refl, same_Some d (in_64_bits n) e)

cut_line : (text line behind word : List ℕ) → pieces_of text ≡ line ∷ pieces_of behind → line ≡ codes "loads " ++ word → text ≡ loads_line word ++ behind
cut_line text line behind word cut is = (cut_is text line behind cut).text_is ∙ ap (λ (l : List ℕ). l ++ 10 ∷ behind) is ∙ sym (loads_parts word behind)

same_Ok : (n m : ℕ) → ◌≡◌ {A = Result ℕ ScriptReason} (Ok n) (Ok m) → n ≡ m
same_Ok n m e = cc

same_Err : (r q : ScriptReason) → ◌≡◌ {A = Result ℕ ScriptReason} (Err r) (Err q) → r ≡ q
same_Err r q e = cc

ok_or_err : (n : ℕ) (r : ScriptReason) → ◌≡◌ {A = Result ℕ ScriptReason} (Ok n) (Err r) → ⊥
ok_or_err n r e = cc

pub limit_read : (text line behind word : List ℕ) (d : Decimal) (loads : ℕ) → pieces_of text ≡ line ∷ pieces_of behind → line ≡ codes "loads " ++ word
    → Some d ≡ option_map in_64_bits (number_of word) → Ok loads ≡ within 1 16384 d → HasLimit text loads behind
limit_read text line behind word d loads cut is number passed =
    let found = some_number (number_of word) d number in
    elim (within_tests 1 16384 found.0 (omega arith)) [
      | inl fine ↦
          let same : loads ≡ found.0 = same_Ok loads found.0 (passed ∙ ap (within 1 16384) found.2 ∙ fine.1) in
          record { word = word; number = found.1 ∙ ap (λ k. Some k) (sym same); limit = subst IsLimit (sym same) fine.0; text_is = cut_line text line behind word cut is }
      | inr out ↦ absurd (ok_or_err loads Number (passed ∙ ap (within 1 16384) found.2 ∙ out.1))
    ]

pub limit_fault : (text line behind word : List ℕ) (d : Decimal) (reason : ScriptReason) → pieces_of text ≡ line ∷ pieces_of behind → line ≡ codes "loads " ++ word
    → Some d ≡ option_map in_64_bits (number_of word) → Err reason ≡ within 1 16384 d → IsLimitFault text reason
limit_fault text line behind word d reason cut is number failed =
    let found = some_number (number_of word) d number in
    elim (within_tests 1 16384 found.0 (omega arith)) [
      | inl fine ↦ absurd (ok_or_err found.0 reason (sym (failed ∙ ap (within 1 16384) found.2 ∙ fine.1)))
      | inr out ↦
          let same : Number ≡ reason = same_Err Number reason (sym (failed ∙ ap (within 1 16384) found.2 ∙ out.1)) in
          subst (IsLimitFault text) same (word, behind, found.0, found.1, out.0, cut_line text line behind word cut is)
    ]

-- ---- the head, after the first line

module _ (first_line : List ℕ) where
  pub at_second_line : (text second : List ℕ) (reason : ScriptReason) → text ≡ first_line ++ second
      → ((more : List ℕ) → second ≢ table_line ++ more) → IsLimitFault second reason
      → IsPreambleFault first_line text 2 reason
  at_second_line text second Word is other h = no_second_line second is other h refl refl
  at_second_line text second Number is other h = no_limit h.0 h.1 h.2 (is ∙ ap (λ (t : List ℕ). first_line ++ t) h.5) h.3 h.4 refl refl
  at_second_line text second _ is other h = absurd h

  pub at_third_line : (text second third : List ℕ) (loads : ℕ) → text ≡ first_line ++ second
      → HasLimit second loads third → ((more : List ℕ) → third ≢ table_line ++ more)
      → IsPreambleFault first_line text 3 Word
  at_third_line text second third loads is h other =
      no_third_line h.word third loads (is ∙ ap (λ (t : List ℕ). first_line ++ t) h.text_is) h.number h.limit other refl refl

  pub usual_head : (text second behind : List ℕ) → text ≡ first_line ++ second → second ≡ table_line ++ behind → text ≡ (first_line ++ table_line) ++ behind
  usual_head text second behind is e = is ∙ ap (λ (t : List ℕ). first_line ++ t) e ∙ sym (append_assoc first_line table_line behind)

  pub limited_head : (text second third behind : List ℕ) (loads : ℕ) → text ≡ first_line ++ second → (h : HasLimit second loads third) → third ≡ table_line ++ behind
      → text ≡ (first_line ++ (loads_line h.word ++ table_line)) ++ behind
  limited_head text second third behind loads is h e =
      is ∙ ap (λ (t : List ℕ). first_line ++ t) (h.text_is ∙ ap (λ (t : List ℕ). loads_line h.word ++ t) e ∙ sym (append_assoc (loads_line h.word) table_line behind))
      ∙ sym (append_assoc first_line (loads_line h.word ++ table_line) behind)

pub same_parts : (a b x y : List ℕ) → a ≡ b → x ≡ y → a ++ x ≡ b ++ y
same_parts a b x y e f = cc
