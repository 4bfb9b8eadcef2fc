-- A program by the steps of its reading: line by line, and at its end.
use Rattle.std.proofs.Common.{◌≡◌, ◌⊎◌, ℕ, zero, suc, ◌+◌, ◌*◌, ◌<◌, ◌≤◌, nat_lt, nat_le, Bool, true, false, ◌&&◌}
use Rattle.std.proofs.Common.{◌||◌, not, if◌then◌else◌, List, [], ◌∷◌, ◌++◌, length, Contains, Option, Some, None}
use Rattle.std.proofs.Common.{inl, inr, refl, sym, ap, ◌∙◌, subst, arith, length-append, append-nil}
use Rattle.std.proofs.lemmas.Bool.{leb-true, leb-false, lt-ltb, ltb-true, ltb-false}
use Rattle.std.proofs.lemmas.Grind.{flat_map-append}
use Rattle.std.proofs.lemmas.List.Elements.{Contains-append_left, Contains-push, Contains-push_cases}
use Rattle.std.specs.List.{list_any}
use Rattle.mrpc_table.specs.Lines.{words_of}
use Rattle.mrpc_table.specs.declared.words.Decimal.{Decimal}
use Rattle.app_program.specs.Programs.{repeated_stores, program_stores}
use Rattle.app_program.specs.Programs as programs
use Rattle.app_program.specs.declared.program.ProgramLine.{ProgramLine}
use Rattle.app_program.specs.declared.program.ProgramLine.TheVariants as program
use Rattle.app_program.specs.declared.program.TheConstants.{MAX_LINES, MAX_STORES}
use Rattle.script_grammar.specs.Lines.{HaveMeanings}
use Rattle.script_grammar.specs.WordKinds.{Meaning}
use Rattle.script_grammar.specs.declared.word_kind.WordKind.{WordKind}
use Rattle.scenario_lines.specs.Forms.{line_sorts}
use Rattle.scenario_lines.specs.Lines.{IsFormMeaning, IsNoPlace, IsProgramLineFault, IsProgramLineMeaning, words_after_first, in_words, no_form, no_place, line_place}
use Rattle.scenario_lines.specs.Programs.{Each, IsProgramFault, IsProgramMeaning, AreValidLineMeanings, ends_in_reply, in_line, is_reply, most_stores, no_reply, too_many_lines, too_many_stores}
use Rattle.scenario_lines.specs.Reading.{HasRead, IsFirstSoFar, IsFaultSoFar}
use Rattle.scenario_lines.specs.LineReading.{HasTakenLine, added_stores, blames, earlier_line_reason, first_reason, is_too_long, keeps, lacks_reply, store_count, with_reply_noted, line_reason_if}
use Rattle.scenario_lines.specs.Reasons.{IsFirstLineReason, line_reason_rank}
use Rattle.scenario_lines.specs.declared.form.ProgramForm.{ProgramForm}
use Rattle.scenario_lines.specs.declared.form.ProgramForm.TheVariants as line
use Rattle.scenario_lines.specs.declared.form.ProgramRole.{ProgramRole}
use Rattle.scenario_lines.specs.declared.form.ProgramRole.TheVariants.{Client, Server}
use Rattle.scenario_lines.specs.declared.program.ProgramReader.{ProgramReader}
use Rattle.scenario_lines.specs.declared.reason.LineReason.{LineReason}
use Rattle.scenario_lines.specs.declared.reason.LineReason.TheVariants.{Number, Word}
use Rattle.scenario_lines.proofs.LineReading.{NotBoth, same_form}

-- ---- one line

abbrev pub One : Type 0
One = (sorts : List WordKind) (words : List (List ℕ)) (ms ns : List Meaning) → HaveMeanings sorts words ms → HaveMeanings sorts words ns → ms ≡ ns

says_one : (heap : ℕ) (f : ProgramForm) (ms : List Meaning) (l k : ProgramLine) → IsFormMeaning heap f ms l → IsFormMeaning heap f ms k → l ≡ k
says_one heap line.Store ms (program.Store p v) (program.Store q w) h j = cc
says_one heap line.Store ms (program.Store p v) _ h j = absurd j
says_one heap line.Store ms _ k h j = absurd h
says_one heap line.Spin ms (program.Spin t p v w) (program.Spin u q x y) h j = cc
says_one heap line.Spin ms (program.Spin t p v w) _ h j = absurd j
says_one heap line.Spin ms _ k h j = absurd h
says_one heap line.Submit ms (program.Submit m a) (program.Submit n b) h j = cc
says_one heap line.Submit ms (program.Submit m a) _ h j = absurd j
says_one heap line.Submit ms _ k h j = absurd h
says_one heap line.Reclaim ms (program.Reclaim b) (program.Reclaim d) h j = cc
says_one heap line.Reclaim ms (program.Reclaim b) _ h j = absurd j
says_one heap line.Reclaim ms _ k h j = absurd h
says_one heap line.Reply ms (program.Reply a) (program.Reply b) h j = cc
says_one heap line.Reply ms (program.Reply a) _ h j = absurd j
says_one heap line.Reply ms _ k h j = absurd h

says_place : (heap : ℕ) (f : ProgramForm) (ms : List Meaning) (l : ProgramLine) → IsFormMeaning heap f ms l
    → IsNoPlace heap (line_place f ms) → ⊥
says_place heap line.Store ms (program.Store p v) h bad = subst (λ (d : Decimal). IsNoPlace heap (Some d)) h.0 bad h.1
says_place heap line.Store ms _ h bad = absurd h
says_place heap line.Spin ms (program.Spin t p v w) h bad = subst (λ (d : Decimal). IsNoPlace heap (Some d)) h.1 bad h.2
says_place heap line.Spin ms _ h bad = absurd h
says_place heap line.Submit ms l h bad = bad
says_place heap line.Reclaim ms l h bad = bad
says_place heap line.Reply ms l h bad = bad

pub one_line : One → (r : ProgramRole) (heap : ℕ) (text : List ℕ) (l k : ProgramLine) → IsProgramLineMeaning r heap text l
    → IsProgramLineMeaning r heap text k → l ≡ k
one_line one r heap text l k a b =
    let f = same_form r text b.form a.form b.is_line.form a.is_line.form in
    let ms = one (line_sorts b.form) (words_after_first (words_of text)) a.meanings b.meanings
    (subst (λ (x : ProgramForm). HaveMeanings (line_sorts x) (words_after_first (words_of text)) a.meanings) f a.is_line.said) b.is_line.said in
    says_one heap b.form b.meanings l k
    (subst (λ (x : List Meaning). IsFormMeaning heap b.form x l) ms (subst (λ (x : ProgramForm). IsFormMeaning heap x a.meanings l) f a.says))
    b.says

pub not_both_line : NotBoth → One → (r : ProgramRole) (heap : ℕ) (text : List ℕ) (l : ProgramLine) (q : LineReason)
    → IsProgramLineMeaning r heap text l → IsProgramLineFault r heap text q → ⊥
not_both_line not one r heap text l q a (no_form e w) = let f = a.is_line.form in absurd cc
not_both_line not one r heap text l q a (in_words g e w) =
    not (line_sorts g) (words_after_first (words_of text)) a.meanings w.0
    (subst (λ (x : ProgramForm). HaveMeanings (line_sorts x) (words_after_first (words_of text)) a.meanings) (same_form r text g a.form e a.is_line.form) a.is_line.said)
    w.1
not_both_line not one r heap text l q a (no_place g ns is bad w) =
    let f = same_form r text g a.form is.form a.is_line.form in
    let ms = one (line_sorts g) (words_after_first (words_of text)) a.meanings ns
    (subst (λ (x : ProgramForm). HaveMeanings (line_sorts x) (words_after_first (words_of text)) a.meanings) f a.is_line.said) is.said in
    says_place heap g ns l
    (subst (λ (x : List Meaning). IsFormMeaning heap g x l) ms (subst (λ (x : ProgramForm). IsFormMeaning heap x a.meanings l) f a.says)) bad

-- ---- the lines so far

say_more : (r : ProgramRole) (heap : ℕ) (texts : List (List ℕ)) (said : List ProgramLine) (text : List ℕ) (l : ProgramLine)
    → AreValidLineMeanings r heap texts said → IsProgramLineMeaning r heap text l → AreValidLineMeanings r heap (texts ++ text ∷ []) (said ++ l ∷ [])
say_more r heap [] said text l h is = inl (l, [], is, ap (λ xs. xs ++ l ∷ []) h, refl)
say_more r heap (t ∷ texts) said text l (inl h) is =
    inl (h.0, h.1 ++ l ∷ [], h.2, ap (λ xs. xs ++ l ∷ []) h.3, say_more r heap texts h.1 text l h.4 is)
say_more r heap (t ∷ texts) said text l (inr h) is = inr (h.0, say_more r heap texts said text l h.1 is)

say_same : (r : ProgramRole) (heap : ℕ) (texts : List (List ℕ)) (said : List ProgramLine) (text : List ℕ) (q : LineReason)
    → AreValidLineMeanings r heap texts said → IsProgramLineFault r heap text q → AreValidLineMeanings r heap (texts ++ text ∷ []) said
say_same r heap [] said text q h bad = inr ((q, bad), h)
say_same r heap (t ∷ texts) said text q (inl h) bad = inl (h.0, h.1, h.2, h.3, say_same r heap texts h.1 text q h.4 bad)
say_same r heap (t ∷ texts) said text q (inr h) bad = inr (h.0, say_same r heap texts said text q h.1 bad)

one_say : NotBoth → One → (r : ProgramRole) (heap : ℕ) (texts : List (List ℕ)) (xs ys : List ProgramLine)
    → AreValidLineMeanings r heap texts xs → AreValidLineMeanings r heap texts ys → xs ≡ ys
one_say not one r heap [] xs ys a b = a ∙ sym b
one_say not one r heap (t ∷ texts) xs ys (inl a) (inl b) =
    let same = one_line one r heap t a.0 b.0 a.2 b.2 in
    let rest = one_say not one r heap texts a.1 b.1 a.4 b.4 in
    let x = a.3 in let y = b.3 in cc
one_say not one r heap (t ∷ texts) xs ys (inl a) (inr b) = absurd (not_both_line not one r heap t a.0 b.0.0 a.2 b.0.1)
one_say not one r heap (t ∷ texts) xs ys (inr a) (inl b) = absurd (not_both_line not one r heap t b.0 a.0.0 b.2 a.0.1)
one_say not one r heap (t ∷ texts) xs ys (inr a) (inr b) = one_say not one r heap texts xs ys a.1 b.1

contains_more : (t : List ℕ) (texts : List (List ℕ)) (text : List ℕ) → Contains texts text → Contains (t ∷ texts) text
contains_more t texts text h = (suc h.0, omega arith, h.2)

all_say : (r : ProgramRole) (heap : ℕ) (texts : List (List ℕ)) (xs : List ProgramLine) → AreValidLineMeanings r heap texts xs
    → ((q : LineReason) → IsFaultSoFar r heap texts q → ⊥) → Each (IsProgramLineMeaning r heap) texts xs
all_say r heap [] xs h none = subst (λ (ys : List ProgramLine). Each (IsProgramLineMeaning r heap) [] ys) (sym h) tt
all_say r heap (t ∷ texts) xs (inl h) none =
    subst (λ (ys : List ProgramLine). Each (IsProgramLineMeaning r heap) (t ∷ texts) ys) (sym h.3)
    (h.2, all_say r heap texts h.1 h.4 (λ q s. none q (s.0, contains_more t texts s.0 s.1, s.2)))
all_say r heap (t ∷ texts) xs (inr h) none = absurd (none h.0.0 (t, (zero, omega arith, refl), h.0.1))

-- ---- the first reason so far

pub sofar_join : (A B C : LineReason → Type 0) (x y : Option LineReason) → IsFirstSoFar A x → IsFirstSoFar B y
    → ((q : LineReason) → A q → C q) → ((q : LineReason) → B q → C q) → ((q : LineReason) → C q → A q ⊎ B q)
    → IsFirstSoFar C (earlier_line_reason x y)
sofar_join A B C None None a b f g split = λ q c. elim (split q c) [ inl h ↦ a q h | inr h ↦ b q h ]
sofar_join A B C None (Some s) a b f g split = record {
  stands = g s b.stands;
  first = λ q c. elim (split q c) [ inl h ↦ absurd (a q h) | inr h ↦ b.first q h ];
}
sofar_join A B C (Some s) None a b f g split = record {
  stands = f s a.stands;
  first = λ q c. elim (split q c) [ inl h ↦ a.first q h | inr h ↦ absurd (b q h) ];
}
sofar_join A B C (Some s) (Some u) a b f g split = go (nat_le (line_reason_rank s) (line_reason_rank u)) refl where
  go : (less : Bool) → nat_le (line_reason_rank s) (line_reason_rank u) ≡ less → IsFirstLineReason C (if less then s else u)
  go true e = record {
    stands = f s a.stands;
    first = λ q c. elim (split q c) [
      | inl h ↦ a.first q h
      | inr h ↦ (let m = leb-true (line_reason_rank s) (line_reason_rank u) e in let n = b.first q h in omega (arith, m, n))
    ];
  }
  go false e = record {
    stands = g u b.stands;
    first = λ q c. elim (split q c) [
      | inl h ↦ (let m = leb-false (line_reason_rank s) (line_reason_rank u) e in let n = a.first q h in omega (arith, m, n))
      | inr h ↦ b.first q h
    ];
  }

earlier_none : (x : Option LineReason) → earlier_line_reason x None ≡ x
earlier_none None = refl
earlier_none (Some x) = refl

against_here : (r : ProgramRole) (heap : ℕ) (texts : List (List ℕ)) (text : List ℕ) (q : LineReason)
    → IsProgramLineFault r heap text q → IsFaultSoFar r heap (texts ++ text ∷ []) q
against_here r heap texts text q h = (text, Contains-push texts text, h)

against_before : (r : ProgramRole) (heap : ℕ) (texts : List (List ℕ)) (text : List ℕ) (q : LineReason)
    → IsFaultSoFar r heap texts q → IsFaultSoFar r heap (texts ++ text ∷ []) q
against_before r heap texts text q h = (h.0, Contains-append_left texts (text ∷ []) h.0 h.1, h.2)

against_cases : (r : ProgramRole) (heap : ℕ) (texts : List (List ℕ)) (text : List ℕ) (q : LineReason)
    → IsFaultSoFar r heap (texts ++ text ∷ []) q → IsFaultSoFar r heap texts q ⊎ IsProgramLineFault r heap text q
against_cases r heap texts text q h =
    elim (Contains-push_cases texts text h.0 h.1) [
      | inl there ↦ inl (h.0, there, h.2)
      | inr same ↦ inr (subst (λ (t : List ℕ). IsProgramLineFault r heap t q) (sym same) h.2)
    ]

first_more : (r : ProgramRole) (heap : ℕ) (texts : List (List ℕ)) (text : List ℕ) (x y : Option LineReason)
    → IsFirstSoFar (IsFaultSoFar r heap texts) x → IsFirstSoFar (IsProgramLineFault r heap text) y
    → IsFirstSoFar (IsFaultSoFar r heap (texts ++ text ∷ [])) (earlier_line_reason x y)
first_more r heap texts text x y a b =
    sofar_join (IsFaultSoFar r heap texts) (IsProgramLineFault r heap text) (IsFaultSoFar r heap (texts ++ text ∷ [])) x y a b
    (against_before r heap texts text) (against_here r heap texts text) (against_cases r heap texts text)

-- ---- stores and replies

length-spun : (n : ℕ) (a b : ℕ × ℕ) → length (repeated_stores n a b) ≡ 2 * n
length-spun zero a b = refl
length-spun (suc n) a b = omega (arith, length-spun n a b)

line_stores_are : (l : ProgramLine) → length (programs.line_stores l) ≡ store_count l
line_stores_are (program.Store p v) = refl
line_stores_are (program.Spin t p v w) = length-spun t (p, v) (p, w)
line_stores_are (program.Submit m a) = refl
line_stores_are (program.Reclaim b) = refl
line_stores_are (program.Reply a) = refl

stores_more : (xs : List ProgramLine) (l : ProgramLine) → length (program_stores (xs ++ l ∷ [])) ≡ length (program_stores xs) + store_count l
stores_more xs l =
    ap length (flat_map-append programs.line_stores xs (l ∷ [])) ∙ length-append (program_stores xs) (program_stores (l ∷ []))
    ∙ ap (λ n. length (program_stores xs) + n) (ap length (append-nil (programs.line_stores l)) ∙ line_stores_are l)

replies_more : (texts : List (List ℕ)) (text : List ℕ) → list_any is_reply (texts ++ text ∷ []) ≡ (list_any is_reply texts || is_reply text)
replies_more [] text = go (is_reply text) where
  go : (b : Bool) → (b || false) ≡ b
  go true = refl
  go false = refl
replies_more (t ∷ texts) text =
    ap (λ b. is_reply t || b) (replies_more texts text) ∙ go (is_reply t) (list_any is_reply texts) (is_reply text) where
      go : (a b c : Bool) → (a || (b || c)) ≡ ((a || b) || c)
      go true b c = refl
      go false b c = refl

ends_more : (texts : List (List ℕ)) (text : List ℕ) → ends_in_reply (texts ++ text ∷ []) ≡ (not (list_any is_reply texts) && is_reply text)
ends_more [] text = refl
ends_more (t ∷ []) text = go (is_reply t) (is_reply text) where
  go : (a b : Bool) → (not a && b) ≡ (not (a || false) && b)
  go true b = refl
  go false b = refl
ends_more (t ∷ u ∷ texts) text =
    ap (λ b. not (is_reply t) && b) (ends_more (u ∷ texts) text) ∙ go (is_reply t) (list_any is_reply (u ∷ texts)) (is_reply text) where
      go : (a b c : Bool) → (not a && (not b && c)) ≡ (not (a || b) && c)
      go true b c = refl
      go false b c = refl

-- ---- one more line

abbrev not_of : Bool → Bool
not_of b = not b

record IsCounted (stores : ℕ) (xs : List ProgramLine) : Type 0 where
  counted : stores ≤ MAX_STORES → stores ≡ length (program_stores xs)
  many : MAX_STORES < stores → MAX_STORES < length (program_stores xs)

count_more : (s k total : ℕ) (b : Bool) → nat_lt MAX_STORES s ≡ b → (s ≤ MAX_STORES → s ≡ total) → (MAX_STORES < s → MAX_STORES < total)
    → (new : ℕ) → new ≡ (if b then s else s + k)
    → ((new ≤ MAX_STORES → new ≡ total + k) × (MAX_STORES < new → MAX_STORES < total + k))
count_more s k total true e counted many new is =
    let over : MAX_STORES < s = ltb-true MAX_STORES s e in
    let same : new ≡ s = is in
    let more = many over in
    ((λ few. absurd (omega (arith, over, same, few))), (λ over. omega (arith, more)))
count_more s k total false e counted many new is =
    let under : s ≤ MAX_STORES = ltb-false MAX_STORES s e in
    let same : new ≡ s + k = is in
    let so_far = counted under in
    ((λ few. omega (arith, same, so_far)), (λ over. omega (arith, same, so_far, over)))

counts : (s new : ℕ) (xs : List ProgramLine) (l : ProgramLine) → (s ≤ MAX_STORES → s ≡ length (program_stores xs))
    → (MAX_STORES < s → MAX_STORES < length (program_stores xs)) → new ≡ added_stores s l → IsCounted new (xs ++ l ∷ [])
counts s new xs l counted many is =
    let both = count_more s (store_count l) (length (program_stores xs)) (nat_lt MAX_STORES s) refl counted many new is in
    let sum = stores_more xs l in
    record {
      counted = λ few. both.0 few ∙ sym sum;
      many = λ over. (let more = both.1 over in omega (arith, more, sum));
    }

here : (r s : ProgramRole) (heap words : ℕ) (text : List ℕ) (l : ProgramLine) → s ≡ r → words ≡ heap → IsProgramLineMeaning s words text l
    → IsProgramLineMeaning r heap text l
here r s heap words text l e f says =
    subst (λ (n : ℕ). IsProgramLineMeaning r n text l) f (subst (λ (x : ProgramRole). IsProgramLineMeaning x words text l) e says)

here_first : (r s : ProgramRole) (heap words : ℕ) (text : List ℕ) (q : LineReason) → s ≡ r → words ≡ heap
    → IsFirstLineReason (IsProgramLineFault s words text) q → IsFirstLineReason (IsProgramLineFault r heap text) q
here_first r s heap words text q e f h =
    subst (λ (n : ℕ). IsFirstLineReason (IsProgramLineFault r n text) q) f (subst (λ (x : ProgramRole). IsFirstLineReason (IsProgramLineFault x words text) q) e h)

pub read_more : NotBoth → One → (r : ProgramRole) (heap : ℕ) (texts : List (List ℕ)) (text : List ℕ) (old mid new : ProgramReader)
    → HasRead r heap texts old → HasTakenLine old text mid → new ≡ with_reply_noted mid (is_reply text)
    → HasRead r heap (texts ++ text ∷ []) new
read_more not one r heap texts text old mid new h (keeps l says is) e =
    let says_here = here r old.role heap old.heap text l h.of_role h.of_heap says in
    let count = counts old.stores new.stores old.lines l h.counted h.many (ap (λ (x : ProgramReader). x.stores) e ∙ ap (λ (x : ProgramReader). x.stores) is) in
    let all : new.lines ≡ old.lines ++ l ∷ [] = ap (λ (x : ProgramReader). x.lines) e ∙ ap (λ (x : ProgramReader). x.lines) is in
    record {
      of_role = ap (λ (x : ProgramReader). x.role) e ∙ ap (λ (x : ProgramReader). x.role) is ∙ h.of_role;
      of_heap = ap (λ (x : ProgramReader). x.heap) e ∙ ap (λ (x : ProgramReader). x.heap) is ∙ h.of_heap;
      said = subst (AreValidLineMeanings r heap (texts ++ text ∷ [])) (sym all) (say_more r heap texts old.lines text l h.said says_here);
      first =
          subst (IsFirstSoFar (IsFaultSoFar r heap (texts ++ text ∷ []))) (earlier_none old.first ∙ sym (ap (λ (x : ProgramReader). x.first) e ∙ ap (λ (x : ProgramReader). x.first) is))
          (first_more r heap texts text old.first None h.first (λ q bad. not_both_line not one r heap text l q says_here bad));
      counted = λ few. count.counted few ∙ ap (λ xs. length (program_stores xs)) (sym all);
      many = λ over. subst (λ (xs : List ProgramLine). MAX_STORES < length (program_stores xs)) (sym all) (count.many over);
      replied =
          ap (λ (x : ProgramReader). x.replied) e ∙ ap (λ b. b || is_reply text) (ap (λ (x : ProgramReader). x.replied) is ∙ h.replied) ∙ sym (replies_more texts text);
      ends = ap (λ (x : ProgramReader). x.ends) e ∙ ap (λ b. not_of b && is_reply text) (ap (λ (x : ProgramReader). x.replied) is ∙ h.replied) ∙ sym (ends_more texts text);
    }
read_more not one r heap texts text old mid new h (blames q bad is) e =
    let bad_here = here_first r old.role heap old.heap text q h.of_role h.of_heap bad in
    let all : new.lines ≡ old.lines = ap (λ (x : ProgramReader). x.lines) e ∙ ap (λ (x : ProgramReader). x.lines) is in
    let same : new.stores ≡ old.stores = ap (λ (x : ProgramReader). x.stores) e ∙ ap (λ (x : ProgramReader). x.stores) is in
    record {
      of_role = ap (λ (x : ProgramReader). x.role) e ∙ ap (λ (x : ProgramReader). x.role) is ∙ h.of_role;
      of_heap = ap (λ (x : ProgramReader). x.heap) e ∙ ap (λ (x : ProgramReader). x.heap) is ∙ h.of_heap;
      said = subst (AreValidLineMeanings r heap (texts ++ text ∷ [])) (sym all) (say_same r heap texts old.lines text q h.said bad_here.stands);
      first =
          subst (IsFirstSoFar (IsFaultSoFar r heap (texts ++ text ∷ []))) (sym (ap (λ (x : ProgramReader). x.first) e ∙ ap (λ (x : ProgramReader). x.first) is))
          (first_more r heap texts text old.first (Some q) h.first bad_here);
      counted = λ few. same ∙ h.counted (subst (λ (n : ℕ). n ≤ MAX_STORES) same few) ∙ ap (λ xs. length (program_stores xs)) (sym all);
      many = λ over.
          subst (λ (xs : List ProgramLine). MAX_STORES < length (program_stores xs)) (sym all)
          (h.many (subst (λ (n : ℕ). MAX_STORES < n) same over));
      replied =
          ap (λ (x : ProgramReader). x.replied) e ∙ ap (λ b. b || is_reply text) (ap (λ (x : ProgramReader). x.replied) is ∙ h.replied) ∙ sym (replies_more texts text);
      ends = ap (λ (x : ProgramReader). x.ends) e ∙ ap (λ b. not_of b && is_reply text) (ap (λ (x : ProgramReader). x.replied) is ∙ h.replied) ∙ sym (ends_more texts text);
    }

-- ---- the end

flagged : (P : Type 0) (q : LineReason) (b : Bool) → (b ≡ true → P) → (P → b ≡ true)
    → IsFirstSoFar (λ x. P × (x ≡ q)) (line_reason_if b q)
flagged P q true given back = record { stands = (given refl, refl); first = λ other s. (let e = ap line_reason_rank s.1 in omega (arith, e)) }
flagged P q false given back = λ other s. absurd (let e = back s.0 in cc)

data IsTooLong (r : ProgramRole) (heap : ℕ) (texts : List (List ℕ)) : Type 0 where
  stores : (xs : List ProgramLine) → AreValidLineMeanings r heap texts xs → most_stores r < length (program_stores xs) → IsTooLong r heap texts
  lines : (xs : List ProgramLine) → AreValidLineMeanings r heap texts xs → MAX_LINES < length xs → IsTooLong r heap texts

most_below : (r : ProgramRole) → most_stores r ≤ MAX_STORES
most_below Client = omega arith
most_below Server = omega arith

stores_over : (most s total : ℕ) → most ≤ MAX_STORES → (s ≤ MAX_STORES → s ≡ total) → (MAX_STORES < s → MAX_STORES < total)
    → (b : Bool) → nat_lt MAX_STORES s ≡ b → most < s → most < total
stores_over most s total below counted many true e over =
    let more = many (ltb-true MAX_STORES s e) in omega (arith, more)
stores_over most s total below counted many false e over =
    let same = counted (ltb-false MAX_STORES s e) in omega (arith, same)

over_stores : (most s total : ℕ) → most ≤ MAX_STORES → (s ≤ MAX_STORES → s ≡ total)
    → (b : Bool) → nat_lt MAX_STORES s ≡ b → most < total → most < s
over_stores most s total below counted true e over =
    let more = ltb-true MAX_STORES s e in omega (arith, more)
over_stores most s total below counted false e over =
    let same = counted (ltb-false MAX_STORES s e) in omega (arith, same)

or_parts : (a b : Bool) → (a || b) ≡ true → (a ≡ true) ⊎ (b ≡ true)
or_parts true b e = inl refl
or_parts false b e = inr e

or_left : (a b : Bool) → a ≡ true → (a || b) ≡ true
or_left true b e = refl
or_left false b e = absurd cc

or_right : (a b : Bool) → b ≡ true → (a || b) ≡ true
or_right true b e = refl
or_right false b e = e

too_long : (r : ProgramRole) (heap : ℕ) (texts : List (List ℕ)) (reader : ProgramReader) → HasRead r heap texts reader
    → is_too_long reader ≡ true → IsTooLong r heap texts
too_long r heap texts reader h e =
    elim (or_parts (nat_lt (most_stores reader.role) reader.stores) (nat_lt MAX_LINES (length reader.lines)) e) [
      | inl over ↦
          stores reader.lines h.said
          (stores_over (most_stores r) reader.stores (length (program_stores reader.lines)) (most_below r) h.counted h.many
          (nat_lt MAX_STORES reader.stores) refl
          (subst (λ (x : ProgramRole). most_stores x < reader.stores) h.of_role (ltb-true (most_stores reader.role) reader.stores over)))
      | inr over ↦ lines reader.lines h.said (ltb-true MAX_LINES (length reader.lines) over)
    ]

is_long : NotBoth → One → (r : ProgramRole) (heap : ℕ) (texts : List (List ℕ)) (reader : ProgramReader) → HasRead r heap texts reader
    → IsTooLong r heap texts → is_too_long reader ≡ true
is_long not one r heap texts reader h (stores xs is over) =
    let same = one_say not one r heap texts xs reader.lines is h.said in
    or_left (nat_lt (most_stores reader.role) reader.stores) (nat_lt MAX_LINES (length reader.lines))
    (lt-ltb (most_stores reader.role) reader.stores
    (subst (λ (x : ProgramRole). most_stores x < reader.stores) (sym h.of_role)
    (over_stores (most_stores r) reader.stores (length (program_stores reader.lines)) (most_below r) h.counted
    (nat_lt MAX_STORES reader.stores) refl (subst (λ (ys : List ProgramLine). most_stores r < length (program_stores ys)) same over))))
is_long not one r heap texts reader h (lines xs is over) =
    or_right (nat_lt (most_stores reader.role) reader.stores) (nat_lt MAX_LINES (length reader.lines))
    (lt-ltb MAX_LINES (length reader.lines)
    (subst (λ (ys : List ProgramLine). MAX_LINES < length ys) (one_say not one r heap texts xs reader.lines is h.said) over))

abbrev LacksReply : ProgramRole → List (List ℕ) → Type 0
LacksReply r texts = (r ≡ Server) × (ends_in_reply texts ≡ false)

lacking : (r : ProgramRole) (ends : Bool) → lacks_reply r ends ≡ true → (r ≡ Server) × (ends ≡ false)
lacking Client ends e = absurd cc
lacking Server true e = absurd cc
lacking Server false e = (refl, refl)

is_lacking : (r : ProgramRole) (ends : Bool) → r ≡ Server → ends ≡ false → lacks_reply r ends ≡ true
is_lacking Client ends e f = absurd cc
is_lacking Server true e f = absurd cc
is_lacking Server false e f = refl

abbrev Counted : ProgramRole → ℕ → List (List ℕ) → LineReason → Type 0
Counted r heap texts q = IsFaultSoFar r heap texts q ⊎ (IsTooLong r heap texts × (q ≡ Number))

long_against : (r : ProgramRole) (heap : ℕ) (texts : List (List ℕ)) (q : LineReason) → IsTooLong r heap texts → q ≡ Number
    → IsProgramFault r heap texts q
long_against r heap texts q (stores xs is over) e = too_many_stores xs is over e
long_against r heap texts q (lines xs is over) e = too_many_lines xs is over e

counted_against : (r : ProgramRole) (heap : ℕ) (texts : List (List ℕ)) (q : LineReason) → Counted r heap texts q
    → IsProgramFault r heap texts q
counted_against r heap texts q (inl h) = in_line h.0 h.1 h.2
counted_against r heap texts q (inr h) = long_against r heap texts q h.0 h.1

against_parts : (r : ProgramRole) (heap : ℕ) (texts : List (List ℕ)) (q : LineReason) → IsProgramFault r heap texts q
    → Counted r heap texts q ⊎ (LacksReply r texts × (q ≡ Word))
against_parts r heap texts q (in_line text there bad) = inl (inl (text, there, bad))
against_parts r heap texts q (too_many_stores xs is over e) = inl (inr (stores xs is over, e))
against_parts r heap texts q (too_many_lines xs is over e) = inl (inr (lines xs is over, e))
against_parts r heap texts q (no_reply server ends e) = inr ((server, ends), e)

pub first_of_program : NotBoth → One → (r : ProgramRole) (heap : ℕ) (texts : List (List ℕ)) (reader : ProgramReader)
    → HasRead r heap texts reader → IsFirstSoFar (IsProgramFault r heap texts) (first_reason reader)
first_of_program not one r heap texts reader h =
    sofar_join (Counted r heap texts) (λ q. LacksReply r texts × (q ≡ Word)) (IsProgramFault r heap texts)
    (earlier_line_reason reader.first (line_reason_if (is_too_long reader) Number)) (line_reason_if (lacks_reply reader.role reader.ends) Word)
    (sofar_join (IsFaultSoFar r heap texts) (λ q. IsTooLong r heap texts × (q ≡ Number)) (Counted r heap texts)
    reader.first (line_reason_if (is_too_long reader) Number) h.first
    (flagged (IsTooLong r heap texts) Number (is_too_long reader) (too_long r heap texts reader h) (is_long not one r heap texts reader h))
    (λ q a. inl a) (λ q b. inr b) (λ q c. c))
    (flagged (LacksReply r texts) Word (lacks_reply reader.role reader.ends)
    (λ e. let both = lacking reader.role reader.ends e in (sym h.of_role ∙ both.0, sym h.ends ∙ both.1))
    (λ p. is_lacking reader.role reader.ends (h.of_role ∙ p.0) (h.ends ∙ p.1)))
    (counted_against r heap texts) (λ q b. no_reply b.0.0 b.0.1 b.1) (against_parts r heap texts)

le_of : (n m : ℕ) → (m < n → ⊥) → n ≤ m
le_of n m isnt = go (nat_lt m n) refl where
  go : (b : Bool) → nat_lt m n ≡ b → n ≤ m
  go true e = absurd (isnt (ltb-true m n e))
  go false e = ltb-false m n e

true_of : (b : Bool) → (b ≡ false → ⊥) → b ≡ true
true_of true isnt = refl
true_of false isnt = absurd (isnt refl)

pub says_program : (r : ProgramRole) (heap : ℕ) (texts : List (List ℕ)) (reader : ProgramReader)
    → HasRead r heap texts reader → ((q : LineReason) → IsProgramFault r heap texts q → ⊥)
    → IsProgramMeaning r heap texts reader.lines
says_program r heap texts reader h none = record {
  said = all_say r heap texts reader.lines h.said (λ q s. none q (in_line s.0 s.1 s.2));
  stores = le_of (length (program_stores reader.lines)) (most_stores r) (λ over. none Number (too_many_stores reader.lines h.said over refl));
  few = le_of (length reader.lines) MAX_LINES (λ over. none Number (too_many_lines reader.lines h.said over refl));
  reply = λ server. true_of (ends_in_reply texts) (λ ends. none Word (no_reply server ends refl));
}
