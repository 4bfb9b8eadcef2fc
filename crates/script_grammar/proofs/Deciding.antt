-- Words have values, or a reason.
use Rattle.std.proofs.Common.{◌≡◌, ◌≢◌, ◌⊎◌, ℕ, List, [], ◌∷◌, length, Option, Some, None, refl, sym, ap, ◌∙◌, inl, inr, arith}
use Rattle.std.specs.Str.{bytes_eq}
use Rattle.std.proofs.lemmas.Bool.{cases_Bool, cases_lt, cases_eq, false≢true}
use Rattle.std.proofs.lemmas.Slice.Eq.{bytes_eq-Decides}
use Rattle.mrpc_table.specs.Lines.{number_of, in_64_bits, IsIn}
use Rattle.mrpc_table.specs.Names.{is_name_form}
use Rattle.mrpc_table.specs.declared.words.Decimal.{Decimal}
use Rattle.mrpc_table.specs.declared.words.Decimal.TheVariants.{Small, Large}
use Rattle.script_grammar.specs.Keywords.{spelling}
use Rattle.script_grammar.specs.Lines.{HaveMeanings, HasReasonInWords, HasReason}
use Rattle.script_grammar.specs.Reading.{value_in}
use Rattle.script_grammar.specs.Reasons.{script_reason_rank, IsFirstReason}
use Rattle.script_grammar.specs.WordKinds.{Meaning, word, number, unbounded, name, HasMeaning, HasWordReason}
use Rattle.script_grammar.specs.declared.fault.ScriptReason.{ScriptReason}
use Rattle.script_grammar.specs.declared.fault.ScriptReason.TheVariants as reason
use Rattle.script_grammar.specs.declared.word_kind.WordKind.{WordKind}
use Rattle.script_grammar.specs.declared.word_kind.WordKind.TheVariants.{Key, Fixed, Either, Number, Unbounded, Value as Stored, Name}
use Rattle.script_grammar.proofs.Stored.{IsFound, value_found}
use Rattle.script_grammar.proofs.Verdicts.{word_fine, words_fine, one_reason, another_count, first_word_at_fault}

-- ---- one word

abbrev IsJudged : WordKind → List ℕ → Type 0
IsJudged s w = ((m : Meaning) × HasMeaning s w m) ⊎ ((r : ScriptReason) × HasWordReason s w r)

is_or_not : (w v : List ℕ) → (w ≡ v) ⊎ (w ≢ v)
is_or_not w v = elim (cases_Bool (bytes_eq w v)) [
  | inl same ↦ inl ((bytes_eq-Decides w v).0 same)
  | inr other ↦ inr (λ e. false≢true (sym other ∙ (bytes_eq-Decides w v).1 e))
]

in_or_not : (least most n : ℕ) → IsIn least most n ⊎ (IsIn least most n → ⊥)
in_or_not least most n = elim (cases_lt n least) [
  | inl low ↦ inr (λ h. omega (arith, low, h.0))
  | inr from ↦ elim (cases_lt most n) [
    | inl high ↦ inr (λ h. omega (arith, high, h.1))
    | inr to ↦ inl (from, to)
  ]
]

none_some : (n : ℕ) (o : Option ℕ) → o ≡ None → o ≡ Some n → ⊥
none_some n o e f = (let clash : ◌≡◌ {A = Option ℕ} None (Some n) = sym e ∙ f in cc)

number_judged : (least most : ℕ) (w : List ℕ) (o : Option ℕ) → number_of w ≡ o → IsJudged (Number least most) w
number_judged least most w None e = inr (reason.Word, inl (λ n some. none_some n (number_of w) e some, refl))
number_judged least most w (Some n) e = elim (in_or_not least most n) [
  | inl range ↦ inl (number n, (e, range))
  | inr out ↦ inr (reason.Number, inr (n, e, out, refl))
]

unbounded_judged : (w : List ℕ) (o : Option ℕ) → number_of w ≡ o → IsJudged Unbounded w
unbounded_judged w None e = inr (reason.Word, (λ n some. none_some n (number_of w) e some, refl))
unbounded_judged w (Some n) e = inl (unbounded (in_64_bits n), (n, e, refl))

value_judged : (w : List ℕ) (o : Option Decimal) → IsFound w o → IsJudged Stored w
value_judged w None f = inr (reason.Word, inl (f, refl))
value_judged w (Some Large) f = inr (reason.Number, inr (f.0, f.1, f.2, refl))
value_judged w (Some (Small n)) f = inl (number n, f)

name_judged : (w : List ℕ) → IsJudged Name w
name_judged w = elim (cases_Bool (is_name_form w)) [
  | inr other ↦ inr (reason.Name, (λ h. false≢true (sym other ∙ h.form), refl))
  | inl form ↦ elim (cases_lt 64 (length w)) [
    | inl long ↦ inr (reason.Name, (λ h. omega (arith, long, h.short), refl))
    | inr short ↦ inl (name w, (refl, record { form = form; short = short }))
  ]
]

judged : (s : WordKind) (w : List ℕ) → IsJudged s w
judged (Key k) w = elim (is_or_not w (spelling k)) [
  | inl is ↦ inl (word k, (refl, is))
  | inr isnt ↦ inr (reason.Word, (isnt, refl))
]
judged (Fixed k) w = elim (is_or_not w (spelling k)) [
  | inl is ↦ inl (word k, (refl, is))
  | inr isnt ↦ inr (reason.Word, (isnt, refl))
]
judged (Either k l) w = elim (is_or_not w (spelling k)) [
  | inl is ↦ inl (word k, (inl refl, is))
  | inr other ↦ elim (is_or_not w (spelling l)) [
    | inl is ↦ inl (word l, (inr refl, is))
    | inr isnt ↦ inr (reason.Word, (other, isnt, refl))
  ]
]
judged (Number least most) w = number_judged least most w (number_of w) refl
judged Unbounded w = unbounded_judged w (number_of w) refl
judged Stored w = value_judged w (value_in w) (value_found w)
judged Name w = name_judged w

-- ---- the words of a line

first_of_both : (P Q : ScriptReason → Type 0) (r q : ScriptReason) → IsFirstReason P r → IsFirstReason Q q → (x : ScriptReason) × IsFirstReason (λ y. P y ⊎ Q y) x
first_of_both P Q r q h k = elim (cases_lt (script_reason_rank q) (script_reason_rank r)) [
  | inl earlier ↦ (
    q,
    record {
      stands = inr k.stands;
      first = λ y either. elim either [
        | inl p ↦ (let least = h.first y p in omega (arith, least, earlier))
        | inr p ↦ k.first y p
      ];
    },
  )
  | inr later ↦ (
    r,
    record {
      stands = inl h.stands;
      first = λ y either. elim either [
        | inl p ↦ h.first y p
        | inr p ↦ (let least = k.first y p in omega (arith, least, later))
      ];
    },
  )
]

first_of_left : (P Q : ScriptReason → Type 0) (r : ScriptReason) → IsFirstReason P r → ((q : ScriptReason) → Q q → ⊥) → IsFirstReason (λ y. P y ⊎ Q y) r
first_of_left P Q r h none = record {
  stands = inl h.stands;
  first = λ y either. elim either [ inl p ↦ h.first y p | inr q ↦ absurd (none y q) ];
}

first_of_right : (P Q : ScriptReason → Type 0) (r : ScriptReason) → ((q : ScriptReason) → P q → ⊥) → IsFirstReason Q r → IsFirstReason (λ y. P y ⊎ Q y) r
first_of_right P Q r none h = record {
  stands = inr h.stands;
  first = λ y either. elim either [ inl p ↦ absurd (none y p) | inr q ↦ h.first y q ];
}

only_reason : (s : WordKind) (w : List ℕ) (r : ScriptReason) → HasWordReason s w r → IsFirstReason (HasWordReason s w) r
only_reason s w r o = record { stands = o; first = λ q k. (let same = ap script_reason_rank (one_reason s w r q o k) in omega (arith, same)) }

abbrev AreJudged : List WordKind → List (List ℕ) → Type 0
AreJudged sorts ws = ((ms : List Meaning) × HaveMeanings sorts ws ms) ⊎ ((r : ScriptReason) × IsFirstReason (HasReasonInWords sorts ws) r)

all_judged : (sorts : List WordKind) (ws : List (List ℕ)) → length ws ≡ length sorts → AreJudged sorts ws
all_judged [] [] e = inl ([], tt)
all_judged [] (y ∷ ys) e = absurd (omega (arith, e))
all_judged (x ∷ xs) [] e = absurd (omega (arith, e))
all_judged (x ∷ xs) (y ∷ ys) e = elim (judged x y) [
  | inl one ↦ elim (all_judged xs ys (omega (arith, e))) [
    | inl more ↦ inl (one.0 ∷ more.0, (one.1, more.1))
    | inr bad ↦ inr (bad.0, first_of_right (HasWordReason x y) (HasReasonInWords xs ys) bad.0 (λ q o. word_fine x y one.0 q one.1 o) bad.1)
  ]
  | inr bad ↦ elim (all_judged xs ys (omega (arith, e))) [
    | inl more ↦ inr (bad.0, first_of_left (HasWordReason x y) (HasReasonInWords xs ys) bad.0 (only_reason x y bad.0 bad.1) (λ q o. words_fine xs ys more.0 q more.1 o))
    | inr other ↦ inr (first_of_both (HasWordReason x y) (HasReasonInWords xs ys) bad.0 other.0 (only_reason x y bad.0 bad.1) other.1)
  ]
]

pub some_judgement : (sorts : List WordKind) (ws : List (List ℕ)) → ((ms : List Meaning) × HaveMeanings sorts ws ms) ⊎ ((r : ScriptReason) × IsFirstReason (HasReason sorts ws) r)
some_judgement sorts ws = elim (cases_eq (length ws) (length sorts)) [
  | inr other ↦ inr (reason.Word, another_count sorts ws other)
  | inl count ↦ elim (all_judged sorts ws count) [
    | inl all ↦ inl all
    | inr bad ↦ inr (bad.0, first_word_at_fault sorts ws bad.0 count bad.1)
  ]
]
