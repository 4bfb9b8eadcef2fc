-- Words under their sorts, one after another: their values, and their first reason.
use Rattle.std.proofs.Common.{◌≡◌, ◌≢◌, ◌⊎◌, ℕ, ◌+◌, ◌<◌, ◌≤◌, Bool, true, false, cond, List, [], ◌∷◌, ◌++◌, length}
use Rattle.std.proofs.Common.{take, drop, get_or, Option, Some, None, refl, sym, ap, ◌∙◌, subst, inl, inr, arith}
use Rattle.std.specs.Prelude.{nat_le}
use Rattle.std.proofs.lemmas.Bool.{leb-true}
use Rattle.std.proofs.lemmas.List.{map_push, take_all, take_more, length-take}
use Rattle.std.proofs.lemmas.Option.{same_Some}
use Rattle.mrpc_table.specs.Lines.{number_of, in_64_bits, IsIn}
use Rattle.script_grammar.specs.Keywords.{spelling}
use Rattle.script_grammar.specs.Lines.{HaveMeanings, HasReasonInWords, HasReason, miscounted, in_word}
use Rattle.script_grammar.specs.Meanings.{meaning_of, meanings_of}
use Rattle.script_grammar.specs.Reasons.{script_reason_rank, IsFirstReason}
use Rattle.script_grammar.specs.Remainders.{earlier}
use Rattle.script_grammar.specs.WordKinds.{Meaning, word, number, unbounded, name, HasMeaning, HasWordReason}
use Rattle.script_grammar.specs.Values.{stored_word, WrittenValue, plain, negative, hexadecimal, IsValue, IsInRange}
use Rattle.script_grammar.specs.declared.fault.ScriptReason.{ScriptReason}
use Rattle.script_grammar.proofs.OneKeyword.{same_keyword}
use Rattle.script_grammar.specs.declared.fault.ScriptReason.TheVariants as reason
use Rattle.script_grammar.specs.declared.word_kind.WordValue.{WordValue}
use Rattle.script_grammar.specs.declared.word_kind.WordKind.{WordKind}
use Rattle.script_grammar.specs.declared.word_kind.WordKind.TheVariants.{Key, Fixed, Either, Number, Unbounded, Value as Stored, Name}

-- ---- one word

same_number : (o : Option ℕ) (m n : ℕ) → o ≡ Some m → o ≡ Some n → m ≡ n
same_number o m n e f = same_Some m n (sym e ∙ f)

byte_clash : (x y : ℕ) (xs ys : List ℕ) → x ∷ xs ≡ y ∷ ys → x ≡ y
byte_clash x y xs ys e = cc

no_digits : (w : List ℕ) (n : ℕ) (o : Option ℕ) → number_of w ≡ o → o ≡ None → number_of w ≡ Some n → ⊥
no_digits w n o e none some = (let clash : ◌≡◌ {A = Option ℕ} None (Some n) = sym none ∙ sym e ∙ some in cc)

-- a word is at most one value
pub one_value : (w : List ℕ) (v u : WrittenValue) → IsValue w v → IsValue w u → v ≡ u
one_value w (plain n) (plain m) h k = ap plain (same_number (number_of w) n m h k)
one_value w (plain n) (negative m) h k = absurd (no_digits (45 ∷ k.0) n None refl refl (sym (ap number_of k.1) ∙ h))
one_value w (plain n) (hexadecimal ds) h k = absurd (no_digits (48 ∷ 120 ∷ ds) n None refl refl (sym (ap number_of k.0) ∙ h))
one_value w (negative n) (plain m) h k = absurd (no_digits (45 ∷ h.0) m None refl refl (sym (ap number_of h.1) ∙ k))
one_value w (negative n) (negative m) h k =
    ap negative (same_number (number_of h.0) n m h.2 (ap number_of (ap (drop 1) (sym h.1 ∙ k.1)) ∙ k.2))
one_value w (negative n) (hexadecimal ds) h k = absurd (omega (arith, byte_clash 45 48 h.0 (120 ∷ ds) (sym h.1 ∙ k.0)))
one_value w (hexadecimal ds) (plain m) h k = absurd (no_digits (48 ∷ 120 ∷ ds) m None refl refl (sym (ap number_of h.0) ∙ k))
one_value w (hexadecimal ds) (negative m) h k = absurd (omega (arith, byte_clash 45 48 k.0 (120 ∷ ds) (sym k.1 ∙ h.0)))
one_value w (hexadecimal ds) (hexadecimal es) h k = ap hexadecimal (ap (drop 2) (sym h.0 ∙ k.0))

-- a word with a value has no reason
pub word_fine : (s : WordKind) (w : List ℕ) (m : Meaning) (r : ScriptReason) → HasMeaning s w m → HasWordReason s w r → ⊥
word_fine (Key k) w (word l) r h o = o.0 (h.1)
word_fine (Fixed k) w (word l) r h o = o.0 (h.1)
word_fine (Either k l) w (word m) r h o = elim h.0 [
  | inl e ↦ o.0 (h.1 ∙ ap spelling e)
  | inr e ↦ o.1 (h.1 ∙ ap spelling e)
]
word_fine (Number least most) w (number n) r h o = elim o [
  | inl none ↦ none.0 n h.0
  | inr out ↦ out.2 (subst (IsIn least most) (same_number (number_of w) n out.0 h.0 out.1) h.1)
]
word_fine Unbounded w (unbounded d) r h o = o.0 h.0 h.1
word_fine Stored w (number n) r h o = elim o [
  | inl none ↦ none.0 h.0 h.1
  | inr out ↦ out.2 (subst IsInRange (one_value w h.0 out.0 h.1 out.1) h.2)
]
word_fine Name w (name x) r h o = o.0 h.1
word_fine _ w _ r h o = absurd h

-- a word has at most one reason
pub one_reason : (s : WordKind) (w : List ℕ) (r q : ScriptReason) → HasWordReason s w r → HasWordReason s w q → r ≡ q
one_reason (Key k) w r q h o = h.1 ∙ sym o.1
one_reason (Fixed k) w r q h o = h.1 ∙ sym o.1
one_reason (Either k l) w r q h o = h.2 ∙ sym o.2
one_reason (Number least most) w r q (inl h) (inl o) = h.1 ∙ sym o.1
one_reason (Number least most) w r q (inl h) (inr o) = absurd (h.0 o.0 o.1)
one_reason (Number least most) w r q (inr h) (inl o) = absurd (o.0 h.0 h.1)
one_reason (Number least most) w r q (inr h) (inr o) = h.3 ∙ sym o.3
one_reason Unbounded w r q h o = h.1 ∙ sym o.1
one_reason Stored w r q (inl h) (inl o) = h.1 ∙ sym o.1
one_reason Stored w r q (inl h) (inr o) = absurd (h.0 o.0 o.1)
one_reason Stored w r q (inr h) (inl o) = absurd (o.0 h.0 h.1)
one_reason Stored w r q (inr h) (inr o) = h.3 ∙ sym o.3
one_reason Name w r q h o = h.1 ∙ sym o.1

-- ---- one more word

pub said_more : (sorts : List WordKind) (ws : List (List ℕ)) (ms : List Meaning) (s : WordKind) (w : List ℕ) (m : Meaning) → HaveMeanings sorts ws ms → HasMeaning s w m
    → HaveMeanings (sorts ++ s ∷ []) (ws ++ w ∷ []) (ms ++ m ∷ [])
said_more [] [] [] s w m h one = (one, tt)
said_more [] [] (z ∷ zs) s w m h one = absurd h
said_more [] (y ∷ ys) ms s w m h one = absurd h
said_more (x ∷ xs) [] ms s w m h one = absurd h
said_more (x ∷ xs) (y ∷ ys) [] s w m h one = absurd h
said_more (x ∷ xs) (y ∷ ys) (z ∷ zs) s w m h one = (h.0, said_more xs ys zs s w m h.1 one)

offends_split : (sorts : List WordKind) (ws : List (List ℕ)) (s : WordKind) (w : List ℕ) (r : ScriptReason) → length ws ≡ length sorts → HasReasonInWords (sorts ++ s ∷ []) (ws ++ w ∷ []) r
    → HasReasonInWords sorts ws r ⊎ HasWordReason s w r
offends_split [] [] s w r e (inl here) = inr here
offends_split [] [] s w r e (inr none) = absurd none
offends_split [] (y ∷ ys) s w r e h = absurd (omega (arith, e))
offends_split (x ∷ xs) [] s w r e h = absurd (omega (arith, e))
offends_split (x ∷ xs) (y ∷ ys) s w r e (inl here) = inl (inl here)
offends_split (x ∷ xs) (y ∷ ys) s w r e (inr more) = elim (offends_split xs ys s w r (omega (arith, e)) more) [
  | inl front ↦ inl (inr front)
  | inr back ↦ inr back
]

offends_front : (sorts : List WordKind) (ws : List (List ℕ)) (s : WordKind) (w : List ℕ) (r : ScriptReason) → HasReasonInWords sorts ws r → HasReasonInWords (sorts ++ s ∷ []) (ws ++ w ∷ []) r
offends_front [] ws s w r h = absurd h
offends_front (x ∷ xs) [] s w r h = absurd h
offends_front (x ∷ xs) (y ∷ ys) s w r (inl here) = inl here
offends_front (x ∷ xs) (y ∷ ys) s w r (inr more) = inr (offends_front xs ys s w r more)

offends_back : (sorts : List WordKind) (ws : List (List ℕ)) (s : WordKind) (w : List ℕ) (r : ScriptReason)
    → length ws ≡ length sorts → HasWordReason s w r → HasReasonInWords (sorts ++ s ∷ []) (ws ++ w ∷ []) r
offends_back [] [] s w r e h = inl h
offends_back [] (y ∷ ys) s w r e h = absurd (omega (arith, e))
offends_back (x ∷ xs) [] s w r e h = absurd (omega (arith, e))
offends_back (x ∷ xs) (y ∷ ys) s w r e h = inr (offends_back xs ys s w r (omega (arith, e)) h)

-- words with values have no reason
pub words_fine : (sorts : List WordKind) (ws : List (List ℕ)) (ms : List Meaning) (r : ScriptReason) → HaveMeanings sorts ws ms → HasReasonInWords sorts ws r → ⊥
words_fine [] ws ms r h o = absurd o
words_fine (x ∷ xs) [] ms r h o = absurd o
words_fine (x ∷ xs) (y ∷ ys) [] r h o = absurd h
words_fine (x ∷ xs) (y ∷ ys) (z ∷ zs) r h (inl here) = word_fine x y z r h.0 here
words_fine (x ∷ xs) (y ∷ ys) (z ∷ zs) r h (inr more) = words_fine xs ys zs r h.1 more

pub said_count : (sorts : List WordKind) (ws : List (List ℕ)) (ms : List Meaning) → HaveMeanings sorts ws ms → length ws ≡ length sorts
said_count [] [] ms h = refl
said_count [] (y ∷ ys) ms h = absurd h
said_count (x ∷ xs) [] ms h = absurd h
said_count (x ∷ xs) (y ∷ ys) [] h = absurd h
said_count (x ∷ xs) (y ∷ ys) (z ∷ zs) h = omega (arith, said_count xs ys zs h.1)

-- ---- the state of the words so far

abbrev pub IsState : List WordKind → List (List ℕ) → List WordValue → Option ScriptReason → Type 0
IsState sorts ws said None = HaveMeanings sorts ws (meanings_of said)
IsState sorts ws said (Some r) = IsFirstReason (HasReasonInWords sorts ws) r

first_here : (sorts : List WordKind) (ws : List (List ℕ)) (ms : List Meaning) (s : WordKind) (w : List ℕ) (r : ScriptReason)
    → length ws ≡ length sorts → HaveMeanings sorts ws ms → HasWordReason s w r
    → IsFirstReason (HasReasonInWords (sorts ++ s ∷ []) (ws ++ w ∷ [])) r
first_here sorts ws ms s w r e h o = record {
  stands = offends_back sorts ws s w r e o;
  first = λ q other. elim (offends_split sorts ws s w q e other) [
    | inl front ↦ absurd (words_fine sorts ws ms q h front)
    | inr back ↦ (let same = ap script_reason_rank (one_reason s w r q o back) in omega (arith, same))
  ];
}

first_stays : (sorts : List WordKind) (ws : List (List ℕ)) (s : WordKind) (w : List ℕ) (m : Meaning) (r : ScriptReason)
    → length ws ≡ length sorts → IsFirstReason (HasReasonInWords sorts ws) r → HasMeaning s w m
    → IsFirstReason (HasReasonInWords (sorts ++ s ∷ []) (ws ++ w ∷ [])) r
first_stays sorts ws s w m r e h one = record {
  stands = offends_front sorts ws s w r h.stands;
  first = λ q other. elim (offends_split sorts ws s w q e other) [
    | inl front ↦ h.first q front
    | inr back ↦ absurd (word_fine s w m q one back)
  ];
}

first_kept : (sorts : List WordKind) (ws : List (List ℕ)) (s : WordKind) (w : List ℕ) (r q : ScriptReason)
    → length ws ≡ length sorts → IsFirstReason (HasReasonInWords sorts ws) r → HasWordReason s w q → script_reason_rank r ≤ script_reason_rank q
    → IsFirstReason (HasReasonInWords (sorts ++ s ∷ []) (ws ++ w ∷ [])) r
first_kept sorts ws s w r q e h o before = record {
  stands = offends_front sorts ws s w r h.stands;
  first = λ p other. elim (offends_split sorts ws s w p e other) [
    | inl front ↦ h.first p front
    | inr back ↦ (let same = ap script_reason_rank (one_reason s w q p o back) in omega (arith, same, before))
  ];
}

first_new : (sorts : List WordKind) (ws : List (List ℕ)) (s : WordKind) (w : List ℕ) (r q : ScriptReason)
    → length ws ≡ length sorts → IsFirstReason (HasReasonInWords sorts ws) r → HasWordReason s w q → script_reason_rank q ≤ script_reason_rank r
    → IsFirstReason (HasReasonInWords (sorts ++ s ∷ []) (ws ++ w ∷ [])) q
first_new sorts ws s w r q e h o before = record {
  stands = offends_back sorts ws s w q e o;
  first = λ p other. elim (offends_split sorts ws s w p e other) [
    | inl front ↦ (let least = h.first p front in omega (arith, least, before))
    | inr back ↦ (let same = ap script_reason_rank (one_reason s w q p o back) in omega (arith, same))
  ];
}

state_by : (sorts : List WordKind) (ws : List (List ℕ)) (said : List WordValue) (s : WordKind) (w : List ℕ) (r q : ScriptReason) (b : Bool) → nat_le (script_reason_rank r) (script_reason_rank q) ≡ b
    → length ws ≡ length sorts → IsFirstReason (HasReasonInWords sorts ws) r → HasWordReason s w q
    → IsState (sorts ++ s ∷ []) (ws ++ w ∷ []) said (Some (cond b r q))
state_by sorts ws said s w r q true e count h o = first_kept sorts ws s w r q count h o (leb-true (script_reason_rank r) (script_reason_rank q) e)
state_by sorts ws said s w r q false e count h o = first_new sorts ws s w r q count h o (let past : script_reason_rank q < script_reason_rank r = grind arith in omega (arith, past))

-- one more word with a value
pub state_said : (sorts : List WordKind) (ws : List (List ℕ)) (said : List WordValue) (first : Option ScriptReason) (s : WordKind) (w : List ℕ) (one : WordValue) → length ws ≡ length sorts
    → IsState sorts ws said first → HasMeaning s w (meaning_of one) → IsState (sorts ++ s ∷ []) (ws ++ w ∷ []) (said ++ one ∷ []) first
state_said sorts ws said None s w one count h says =
    subst (HaveMeanings (sorts ++ s ∷ []) (ws ++ w ∷ [])) (sym (map_push meaning_of said one)) (said_more sorts ws (meanings_of said) s w (meaning_of one) h says)
state_said sorts ws said (Some r) s w one count h says = first_stays sorts ws s w (meaning_of one) r count h says

-- one more word with a reason
pub state_offends : (sorts : List WordKind) (ws : List (List ℕ)) (said : List WordValue) (first : Option ScriptReason) (s : WordKind) (w : List ℕ) (q : ScriptReason) → length ws ≡ length sorts
    → IsState sorts ws said first → HasWordReason s w q → IsState (sorts ++ s ∷ []) (ws ++ w ∷ []) said (Some (earlier first q))
state_offends sorts ws said None s w q count h o = first_here sorts ws (meanings_of said) s w q count h o
state_offends sorts ws said (Some r) s w q count h o = state_by sorts ws said s w r q (nat_le (script_reason_rank r) (script_reason_rank q)) refl count h o

-- ---- all words

pub another_count : (sorts : List WordKind) (ws : List (List ℕ)) → length ws ≢ length sorts → IsFirstReason (HasReason sorts ws) reason.Word
another_count sorts ws other = record { stands = miscounted other refl; first = λ q h. alone q h }
  where
    alone : (q : ScriptReason) → HasReason sorts ws q → script_reason_rank reason.Word ≤ script_reason_rank q
    alone q (miscounted isnt e) = (let same = ap script_reason_rank e in omega (arith, same))
    alone q (in_word count o) = absurd (other count)

pub first_word_at_fault : (sorts : List WordKind) (ws : List (List ℕ)) (r : ScriptReason) → length ws ≡ length sorts → IsFirstReason (HasReasonInWords sorts ws) r → IsFirstReason (HasReason sorts ws) r
first_word_at_fault sorts ws r count h = record { stands = in_word count h.stands; first = λ q o. by q o }
  where
    by : (q : ScriptReason) → HasReason sorts ws q → script_reason_rank r ≤ script_reason_rank q
    by q (miscounted isnt e) = absurd (isnt count)
    by q (in_word same o) = h.first q o

state_of_all : (sorts : List WordKind) (ws : List (List ℕ)) (said : List WordValue) (first : Option ScriptReason) (i : ℕ) → length sorts ≤ i → length ws ≤ i
    → IsState (take i sorts) (take i ws) said first → IsState sorts ws said first
state_of_all sorts ws said first i past few state =
    subst (λ (xs : List WordKind). IsState xs ws said first) (take_all i sorts past) (subst (λ (xs : List (List ℕ)). IsState (take i sorts) xs said first) (take_all i ws few) state)

pub whole_said : (sorts : List WordKind) (ws : List (List ℕ)) (said : List WordValue) (first : Option ScriptReason) (i : ℕ) → length sorts ≤ i → length ws ≤ i
    → IsState (take i sorts) (take i ws) said first → first ≡ None → HaveMeanings sorts ws (meanings_of said)
whole_said sorts ws said first i past few state none = subst (IsState sorts ws said) none (state_of_all sorts ws said first i past few state)

pub whole_first : (sorts : List WordKind) (ws : List (List ℕ)) (said : List WordValue) (first : Option ScriptReason) (i : ℕ)
    (r : ScriptReason) → length sorts ≤ i → length ws ≤ i → i ≤ length ws → i ≤ length sorts
    → IsState (take i sorts) (take i ws) said first → first ≡ Some r → IsFirstReason (HasReason sorts ws) r
whole_first sorts ws said first i r past few within to state some =
    first_word_at_fault sorts ws r (omega (arith, past, few, within, to)) (subst (IsState sorts ws said) some (state_of_all sorts ws said first i past few state))

-- one more sort, and one more word
pub next_sort : (sorts : List WordKind) (i : ℕ) (d : WordKind) → i < length sorts → take (i + 1) sorts ≡ take i sorts ++ get_or sorts i d ∷ []
next_sort sorts i d within = take_more sorts i d within

pub state_next : (sorts : List WordKind) (ws : List (List ℕ)) (i : ℕ) (s : WordKind) (w : List ℕ) (said : List WordValue)
    (first : Option ScriptReason) → take (i + 1) sorts ≡ take i sorts ++ s ∷ []
    → take (i + 1) ws ≡ take i ws ++ w ∷ [] → IsState (take i sorts ++ s ∷ []) (take i ws ++ w ∷ []) said first → IsState (take (i + 1) sorts) (take (i + 1) ws) said first
state_next sorts ws i s w said first e f h =
    subst (λ (xs : List WordKind). IsState xs (take (i + 1) ws) said first) (sym e) (subst (λ (xs : List (List ℕ)). IsState (take i sorts ++ s ∷ []) xs said first) (sym f) h)

pub same_length : (sorts : List WordKind) (ws : List (List ℕ)) (i : ℕ) → i ≤ length sorts → i ≤ length ws → length (take i ws) ≡ length (take i sorts)
same_length sorts ws i from to = omega (arith, length-take i sorts, length-take i ws, from, to)

-- ---- the laws

pub one_said : (s : WordKind) (w : List ℕ) (m n : Meaning) → HasMeaning s w m → HasMeaning s w n → m ≡ n
one_said (Key k) w (word l) (word m) h o = ap word (h.0 ∙ sym o.0)
one_said (Key k) w (word x) (number y) h o = absurd o
one_said (Key k) w (word x) (unbounded y) h o = absurd o
one_said (Key k) w (word x) (name y) h o = absurd o
one_said (Key k) w (number x) n h o = absurd h
one_said (Key k) w (unbounded x) n h o = absurd h
one_said (Key k) w (name x) n h o = absurd h
one_said (Fixed k) w (word l) (word m) h o = ap word (h.0 ∙ sym o.0)
one_said (Fixed k) w (word x) (number y) h o = absurd o
one_said (Fixed k) w (word x) (unbounded y) h o = absurd o
one_said (Fixed k) w (word x) (name y) h o = absurd o
one_said (Fixed k) w (number x) n h o = absurd h
one_said (Fixed k) w (unbounded x) n h o = absurd h
one_said (Fixed k) w (name x) n h o = absurd h
one_said (Either k l) w (word m) (word n) h o = ap word (same_keyword m n (sym h.1 ∙ o.1))
one_said (Either k l) w (word x) (number y) h o = absurd o
one_said (Either k l) w (word x) (unbounded y) h o = absurd o
one_said (Either k l) w (word x) (name y) h o = absurd o
one_said (Either k l) w (number x) n h o = absurd h
one_said (Either k l) w (unbounded x) n h o = absurd h
one_said (Either k l) w (name x) n h o = absurd h
one_said (Number least most) w (number m) (number n) h o = ap number (same_number (number_of w) m n h.0 o.0)
one_said (Number least most) w (number x) (word y) h o = absurd o
one_said (Number least most) w (number x) (unbounded y) h o = absurd o
one_said (Number least most) w (number x) (name y) h o = absurd o
one_said (Number least most) w (word x) n h o = absurd h
one_said (Number least most) w (unbounded x) n h o = absurd h
one_said (Number least most) w (name x) n h o = absurd h
one_said Unbounded w (unbounded d) (unbounded e) h o = ap unbounded (h.2 ∙ ap in_64_bits (same_number (number_of w) h.0 o.0 h.1 o.1) ∙ sym o.2)
one_said Unbounded w (unbounded x) (word y) h o = absurd o
one_said Unbounded w (unbounded x) (number y) h o = absurd o
one_said Unbounded w (unbounded x) (name y) h o = absurd o
one_said Unbounded w (word x) n h o = absurd h
one_said Unbounded w (number x) n h o = absurd h
one_said Unbounded w (name x) n h o = absurd h
one_said Stored w (number m) (number n) h o = ap number (h.3 ∙ ap stored_word (one_value w h.0 o.0 h.1 o.1) ∙ sym o.3)
one_said Stored w (number x) (word y) h o = absurd o
one_said Stored w (number x) (unbounded y) h o = absurd o
one_said Stored w (number x) (name y) h o = absurd o
one_said Stored w (word x) n h o = absurd h
one_said Stored w (unbounded x) n h o = absurd h
one_said Stored w (name x) n h o = absurd h
one_said Name w (name x) (name y) h o = ap name (h.0 ∙ sym o.0)
one_said Name w (name x) (word y) h o = absurd o
one_said Name w (name x) (number y) h o = absurd o
one_said Name w (name x) (unbounded y) h o = absurd o
one_said Name w (word x) n h o = absurd h
one_said Name w (number x) n h o = absurd h
one_said Name w (unbounded x) n h o = absurd h

pub one_list : (sorts : List WordKind) (ws : List (List ℕ)) (ms ns : List Meaning) → HaveMeanings sorts ws ms → HaveMeanings sorts ws ns → ms ≡ ns
one_list [] [] [] [] h o = refl
one_list (x ∷ xs) (y ∷ ys) (m ∷ ms) (n ∷ ns) h o = ap (λ (z : Meaning). z ∷ ms) (one_said x y m n h.0 o.0) ∙ ap (λ (zs : List Meaning). n ∷ zs) (one_list xs ys ms ns h.1 o.1)
one_list [] [] [] (n ∷ ns) h o = absurd o
one_list [] [] (m ∷ ms) ns h o = absurd h
one_list [] (y ∷ ys) ms ns h o = absurd h
one_list (x ∷ xs) [] ms ns h o = absurd h
one_list (x ∷ xs) (y ∷ ys) [] ns h o = absurd h
one_list (x ∷ xs) (y ∷ ys) (m ∷ ms) [] h o = absurd o

pub fine_or_not : (sorts : List WordKind) (ws : List (List ℕ)) (ms : List Meaning) (r : ScriptReason) → HaveMeanings sorts ws ms → HasReason sorts ws r → ⊥
fine_or_not sorts ws ms r h (miscounted isnt e) = isnt (said_count sorts ws ms h)
fine_or_not sorts ws ms r h (in_word count o) = words_fine sorts ws ms r h o
