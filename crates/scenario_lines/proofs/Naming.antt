-- Which reasons words have, and which of them aren't names.
use Rattle.std.proofs.Common.{◌≡◌, ◌⊎◌, ℕ, ◌≤◌, Bool, true, false, ◌&&◌, ◌||◌, not, List, [], ◌∷◌, length, Some, inl, inr, refl, sym, ap, subst, arith}
use Rattle.std.proofs.lemmas.Grind.{common_steps}
use Rattle.mrpc_table.specs.Names.{IsName, is_name_form, is_short}
use Rattle.script_grammar.specs.Lines.{HasReason, HasReasonInWords, in_word, miscounted}
use Rattle.script_grammar.specs.Reasons as scripts
use Rattle.script_grammar.specs.WordKinds.{HasWordReason}
use Rattle.script_grammar.specs.declared.fault.ScriptReason.{ScriptReason}
use Rattle.script_grammar.specs.declared.fault.ScriptReason.TheVariants as script
use Rattle.script_grammar.specs.declared.word_kind.WordKind.{WordKind}
use Rattle.script_grammar.specs.declared.word_kind.WordKind.TheVariants as sort
use Rattle.scenario_lines.specs.Judging.{is_required_name_invalid, lacks_name, ordered}
use Rattle.scenario_lines.specs.Lines.{IsWordsFault}
use Rattle.scenario_lines.specs.Reasons.{IsFirstLineReason, line_reason_of_words, line_reason_rank}
use Rattle.scenario_lines.specs.declared.reason.LineReason.{LineReason}
use Rattle.scenario_lines.specs.declared.reason.LineReason.TheVariants.{Number, Name, Word, Place}

-- ---- names

-- what was found before stays found, if there are as many words as sorts
stays : (sorts : List WordKind) (words : List (List ℕ)) → length words ≡ length sorts → lacks_name true sorts words ≡ true
stays [] [] same = refl
stays [] (w ∷ words) same = absurd (omega (arith, same))
stays (s ∷ sorts) [] same = absurd (omega (arith, same))
stays (s ∷ sorts) (w ∷ words) same = stays sorts words (omega (arith, same))

-- one that is found is one of the words
as_many : (found : Bool) (sorts : List WordKind) (words : List (List ℕ)) → lacks_name found sorts words ≡ true
    → length words ≡ length sorts
as_many found [] [] lacks = refl
as_many found [] (w ∷ words) lacks = absurd cc
as_many found (s ∷ sorts) [] lacks = absurd cc
as_many found (s ∷ sorts) (w ∷ words) lacks =
    let rest = as_many (found || is_required_name_invalid s w) sorts words lacks in
    omega (arith, rest)

found_or : (found : Bool) → (found || true) ≡ true
found_or true = refl
found_or false = refl

-- a word that isn't a name
no_name : (w : List ℕ) → (IsName w → ⊥) → not (is_name_form w && is_short w) ≡ true
no_name w isnt = go (is_name_form w) (is_short w) refl refl where
  go : (form short : Bool) → is_name_form w ≡ form → is_short w ≡ short → not (form && short) ≡ true
  go true true e f = absurd (isnt (record { form = grind (arith, common_steps); short = grind (arith, common_steps) }))
  go true false e f = refl
  go false short e f = refl

is_none : (w : List ℕ) → not (is_name_form w && is_short w) ≡ true → IsName w → ⊥
is_none w e is = go (is_name_form w) (is_short w) refl refl e where
  go : (form short : Bool) → is_name_form w ≡ form → is_short w ≡ short → not (form && short) ≡ true → ⊥
  go true true a b f = cc
  go true false a b f = grind (arith, common_steps, is.short)
  go false short a b f = grind (arith, common_steps, is.form)

-- a word that should be a name, and isn't, is found
name_found : (found : Bool) (sorts : List WordKind) (words : List (List ℕ)) → length words ≡ length sorts
    → HasReasonInWords sorts words script.Name → lacks_name found sorts words ≡ true
name_found found [] words same offends = absurd offends
name_found found (s ∷ sorts) [] same offends = absurd offends
name_found found (s ∷ sorts) (w ∷ words) same (inr rest) =
    name_found (found || is_required_name_invalid s w) sorts words (omega (arith, same)) rest
name_found found (sort.Key k ∷ sorts) (w ∷ words) same (inl h) = absurd cc
name_found found (sort.Fixed k ∷ sorts) (w ∷ words) same (inl h) = absurd cc
name_found found (sort.Either k l ∷ sorts) (w ∷ words) same (inl h) = absurd cc
name_found found (sort.Number least most ∷ sorts) (w ∷ words) same (inl (inl h)) = absurd cc
name_found found (sort.Number least most ∷ sorts) (w ∷ words) same (inl (inr h)) = absurd cc
name_found found (sort.Unbounded ∷ sorts) (w ∷ words) same (inl h) = absurd cc
name_found found (sort.Value ∷ sorts) (w ∷ words) same (inl (inl h)) = absurd cc
name_found found (sort.Value ∷ sorts) (w ∷ words) same (inl (inr h)) = absurd cc
name_found found (sort.Name ∷ sorts) (w ∷ words) same (inl h) =
    let bad = no_name w h.0 in
    rw bad (rw (found_or found) (stays sorts words (omega (arith, same))))

-- what is found was found before, or is a fault of a word
split : (found : Bool) (s : WordKind) (w : List ℕ) → (found || is_required_name_invalid s w) ≡ true
    → (found ≡ true) ⊎ HasWordReason s w script.Name
split true s w e = inl refl
split false (sort.Key k) w e = absurd cc
split false (sort.Fixed k) w e = absurd cc
split false (sort.Either k l) w e = absurd cc
split false (sort.Number least most) w e = absurd cc
split false sort.Unbounded w e = absurd cc
split false sort.Value w e = absurd cc
split false sort.Name w e = inr (is_none w e, refl)

found_name : (found : Bool) (sorts : List WordKind) (words : List (List ℕ)) → lacks_name found sorts words ≡ true
    → (found ≡ true) ⊎ HasReasonInWords sorts words script.Name
found_name found [] [] lacks = inl lacks
found_name found [] (w ∷ words) lacks = absurd cc
found_name found (s ∷ sorts) [] lacks = absurd cc
found_name found (s ∷ sorts) (w ∷ words) lacks =
    elim (found_name (found || is_required_name_invalid s w) sorts words lacks) [
      | inl e ↦ elim (split found s w e) [ inl f ↦ inl f | inr h ↦ inr (inl h) ]
      | inr h ↦ inr (inr h)
    ]

is_lacking : (sorts : List WordKind) (words : List (List ℕ)) → lacks_name false sorts words ≡ true → HasReason sorts words script.Name
is_lacking sorts words lacks =
    in_word (as_many false sorts words lacks)
    (elim (found_name false sorts words lacks) [ inl e ↦ absurd cc | inr h ↦ h ])

lacking : (sorts : List WordKind) (words : List (List ℕ)) → HasReason sorts words script.Name → lacks_name false sorts words ≡ true
lacking sorts words (miscounted count e) = absurd cc
lacking sorts words (in_word count h) = name_found false sorts words count h

-- ---- the three reasons of words

data IsOfWords (r : ScriptReason) : Type 0 where
  number : r ≡ script.Number → IsOfWords r
  name : r ≡ script.Name → IsOfWords r
  word : r ≡ script.Word → IsOfWords r

one_of_word : (s : WordKind) (w : List ℕ) (r : ScriptReason) → HasWordReason s w r → IsOfWords r
one_of_word (sort.Key k) w r h = word h.1
one_of_word (sort.Fixed k) w r h = word h.1
one_of_word (sort.Either k l) w r h = word h.2
one_of_word (sort.Number least most) w r (inl h) = word h.1
one_of_word (sort.Number least most) w r (inr h) = number h.3
one_of_word sort.Unbounded w r h = word h.1
one_of_word sort.Value w r (inl h) = word h.1
one_of_word sort.Value w r (inr h) = number h.3
one_of_word sort.Name w r h = name h.1

of_one : (sorts : List WordKind) (ws : List (List ℕ)) (r : ScriptReason) → HasReasonInWords sorts ws r → IsOfWords r
of_one [] ws r h = absurd h
of_one (s ∷ sorts) [] r h = absurd h
of_one (s ∷ sorts) (w ∷ ws) r (inl h) = one_of_word s w r h
of_one (s ∷ sorts) (w ∷ ws) r (inr h) = of_one sorts ws r h

three : (sorts : List WordKind) (ws : List (List ℕ)) (r : ScriptReason) → HasReason sorts ws r → IsOfWords r
three sorts ws r (miscounted count e) = word e
three sorts ws r (in_word count h) = of_one sorts ws r h

-- ---- the first of them

-- a reason other than Number ranks at least as Name, and Word at least as Word if no name is lacking
at_least : (why : ScriptReason) (other : LineReason) → line_reason_of_words why ≡ Some other → (why ≡ script.Number → ⊥) → 1 ≤ line_reason_rank other
at_least script.Number other e isnt = absurd (isnt refl)
at_least script.Name Number e isnt = absurd cc
at_least script.Name Name e isnt = omega arith
at_least script.Name Word e isnt = omega arith
at_least script.Name Place e isnt = omega arith
at_least script.Word Number e isnt = absurd cc
at_least script.Word Name e isnt = omega arith
at_least script.Word Word e isnt = omega arith
at_least script.Word Place e isnt = omega arith
at_least _ other e isnt = absurd cc

last : (why : ScriptReason) (other : LineReason) → line_reason_of_words why ≡ Some other → (why ≡ script.Number → ⊥)
    → (why ≡ script.Name → ⊥) → 2 ≤ line_reason_rank other
last script.Number other e isnt named = absurd (isnt refl)
last script.Name other e isnt named = absurd (named refl)
last script.Word Number e isnt named = absurd cc
last script.Word Name e isnt named = absurd cc
last script.Word Word e isnt named = omega arith
last script.Word Place e isnt named = omega arith
last _ other e isnt named = absurd cc

-- if a reason of words other than Number is first in a script, none is Number
no_number : (sorts : List WordKind) (ws : List (List ℕ)) (r why : ScriptReason) → scripts.IsFirstReason (HasReason sorts ws) r
    → (r ≡ script.Name) ⊎ (r ≡ script.Word) → HasReason sorts ws why → why ≡ script.Number → ⊥
no_number sorts ws r why h (inl e) against is =
    let f : scripts.script_reason_rank script.Name ≤ scripts.script_reason_rank script.Number =
    subst (λ (x : ScriptReason). scripts.script_reason_rank script.Name ≤ scripts.script_reason_rank x) is
    (subst (λ (x : ScriptReason). scripts.script_reason_rank x ≤ scripts.script_reason_rank why) e (h.first why against)) in
    omega (arith, f)
no_number sorts ws r why h (inr e) against is =
    let f : scripts.script_reason_rank script.Word ≤ scripts.script_reason_rank script.Number =
    subst (λ (x : ScriptReason). scripts.script_reason_rank script.Word ≤ scripts.script_reason_rank x) is
    (subst (λ (x : ScriptReason). scripts.script_reason_rank x ≤ scripts.script_reason_rank why) e (h.first why against)) in
    omega (arith, f)

is_named : (sorts : List WordKind) (ws : List (List ℕ)) (r : ScriptReason) → scripts.IsFirstReason (HasReason sorts ws) r
    → (r ≡ script.Name) ⊎ (r ≡ script.Word) → lacks_name false sorts ws ≡ true → IsFirstLineReason (IsWordsFault sorts ws) Name
is_named sorts ws r h e lacks = record {
  stands = (script.Name, is_lacking sorts ws lacks, refl);
  first = λ other s. at_least s.0 other s.2 (no_number sorts ws r s.0 h e s.1);
}

is_worded : (sorts : List WordKind) (ws : List (List ℕ)) (r : ScriptReason) → scripts.IsFirstReason (HasReason sorts ws) r
    → (r ≡ script.Name) ⊎ (r ≡ script.Word) → r ≡ script.Word → lacks_name false sorts ws ≡ false
    → IsFirstLineReason (IsWordsFault sorts ws) Word
is_worded sorts ws r h e is lacks = record {
  stands = (r, h.stands, ap line_reason_of_words is);
  first = λ other s. last s.0 other s.2 (no_number sorts ws r s.0 h e s.1)
      (λ named. let found = lacking sorts ws (subst (HasReason sorts ws) named s.1) in cc);
}

pub first_reason : (sorts : List WordKind) (ws : List (List ℕ)) (r : ScriptReason) (lacks : Bool)
    → scripts.IsFirstReason (HasReason sorts ws) r → lacks ≡ lacks_name false sorts ws
    → IsFirstLineReason (IsWordsFault sorts ws) (ordered r lacks)
first_reason sorts ws r lacks h e = go r lacks (three sorts ws r h.stands) h e where
  go : (r : ScriptReason) (lacks : Bool) → IsOfWords r → scripts.IsFirstReason (HasReason sorts ws) r
      → lacks ≡ lacks_name false sorts ws → IsFirstLineReason (IsWordsFault sorts ws) (ordered r lacks)
  go script.Number lacks k h e = record { stands = (script.Number, h.stands, refl); first = λ other s. omega arith }
  go script.Name true k h e = is_named sorts ws script.Name h (inl refl) (sym e)
  go script.Name false k h e = absurd (let found = lacking sorts ws h.stands in cc)
  go script.Word true k h e = is_named sorts ws script.Word h (inr refl) (sym e)
  go script.Word false k h e = is_worded sorts ws script.Word h (inr refl) refl (sym e)
  go _ lacks (number is) h e = absurd cc
  go _ lacks (name is) h e = absurd cc
  go _ lacks (word is) h e = absurd cc
