-- The definitions, evaluated on lines that were worked out by hand.
use Rattle.std.proofs.Common.{◌≡◌, ◌^◌, [], ◌∷◌, codes, Some, None, refl, inl, inr, arith}
use Rattle.mrpc_table.specs.Lines.{words_of}
use Rattle.script_grammar.specs.Forms.{word_kinds_of, form_in}
use Rattle.script_grammar.specs.Lines.{HaveMeanings, HasReason, in_word, miscounted}
use Rattle.script_grammar.specs.WordKinds.{word, number, name, HasMeaning}
use Rattle.script_grammar.specs.Values.{negative}
use Rattle.script_grammar.specs.declared.fault.ScriptReason.TheVariants.{Word, Number, Name}
use Rattle.script_grammar.specs.declared.form.LineForm.TheVariants as form
use Rattle.script_grammar.specs.declared.keyword.Keyword.TheVariants as keyword

-- ---- forms

store_form : form_in (words_of (codes "store 1 2 150")) ≡ Some form.Store
store_form = refl

submit_form : form_in (words_of (codes "submit 1 0 2")) ≡ Some form.Submit
submit_form = refl

reply_form : form_in (words_of (codes "submit 1 0 2 1")) ≡ Some form.Reply
reply_form = refl

rate_form : form_in (words_of (codes "policy rl rate 1 per 1000 burst 2 hold")) ≡ Some form.Rate
rate_form = refl

-- a wrong word that isn't a key doesn't change the form; a wrong key, or number of words, does
misspelled_form : form_in (words_of (codes "policy rl rate 0 perr 1000 burst 2 hold")) ≡ Some form.Rate
misspelled_form = refl

other_kind : form_in (words_of (codes "policy rl count 0 per 1000 burst 2 hold")) ≡ None
other_kind = refl

short_line : form_in (words_of (codes "submit 1 0")) ≡ None
short_line = refl

spaced_line : form_in (words_of (codes "drain 1 ")) ≡ None
spaced_line = refl

empty_line : form_in (words_of []) ≡ None
empty_line = refl

-- ---- the values of lines

rate_said : HaveMeanings (word_kinds_of form.Rate) (words_of (codes "policy rl rate 1 per 1000 burst 2 hold"))
    (word keyword.Policy ∷ name (codes "rl") ∷ word keyword.Rate ∷ number 1 ∷ word keyword.Per ∷ number 1000 ∷ word keyword.Burst ∷ number 2 ∷ word keyword.Hold ∷ [])
rate_said = (
  (refl, refl),
  (
    (refl, record { form = refl; short = omega arith }),
    (
      (refl, refl),
      (
        (refl, (omega arith, omega arith)),
        (
          (refl, refl),
          (
            (refl, (omega arith, omega arith)),
            ((refl, refl), ((refl, (omega arith, omega arith)), ((inl refl, refl), tt))),
          ),
        ),
      ),
    ),
  ),
)

least_said : HasMeaning (Rattle.script_grammar.specs.declared.word_kind.WordKind.TheVariants.Value) (codes "-9223372036854775808") (number (2 ^ 63))
least_said = (negative (2 ^ 63), (codes "9223372036854775808", refl, refl), omega arith, refl)

-- ---- the faults of lines

no_connection : HasReason (word_kinds_of form.Conn) (words_of (codes "conn 99 x")) Number
no_connection = in_word refl (inr (inl (inr (99, refl, λ h. omega (arith, h.1), refl))))

no_words : HasReason (word_kinds_of form.Conn) (words_of (codes "conn 99 x")) Word
no_words = in_word refl (inr (inr (inl (inl (λ n e. cc, refl)))))

no_name : HasReason (word_kinds_of form.Count) (words_of (codes "policy 9a count")) Name
no_name = in_word refl (inr (inl (λ h. cc, refl)))

no_count : HasReason (word_kinds_of form.Count) (words_of (codes "policy a count 1")) Word
no_count = miscounted (λ e. omega (arith, e)) refl
