-- Lines of the frequent forms: words that fit one of them are of that form.
use Rattle.std.proofs.Common.{◌≡◌, ℕ, List, [], ◌∷◌, Some, refl, sym, ap, subst, ◌∙◌, inl, inr}
use Rattle.script_grammar.specs.Forms.{form_in, word_kinds_of, conn_kind}
use Rattle.script_grammar.specs.Keywords.{spelling}
use Rattle.script_grammar.specs.Lines.{HaveMeanings}
use Rattle.script_grammar.specs.WordKinds.{Meaning, word, number, unbounded, name, HasMeaning}
use Rattle.script_grammar.specs.declared.form.LineForm.{LineForm}
use Rattle.script_grammar.specs.declared.form.LineForm.TheVariants as form
use Rattle.script_grammar.specs.declared.keyword.Keyword.{Keyword}
use Rattle.script_grammar.specs.declared.keyword.Keyword.TheVariants as keyword
use Rattle.script_grammar.specs.declared.word_kind.WordKind.{WordKind}
use Rattle.script_grammar.specs.declared.word_kind.WordKind.TheVariants as sort
use Rattle.replay_script.specs.Frequent.{IsFrequent}

key_word : (k : Keyword) (w : List ℕ) (m : Meaning) → HasMeaning (sort.Key k) w m → w ≡ spelling k
key_word k w (word l) h = h.1
key_word k w (number n) h = absurd h
key_word k w (unbounded d) h = absurd h
key_word k w (name x) h = absurd h

-- the first word of words with some sorts, and the others
record Split (s : WordKind) (sorts : List WordKind) (ws : List (List ℕ)) : Type 0 where
  first : List ℕ
  others : List (List ℕ)
  meaning : Meaning
  meanings : List Meaning
  parts : ws ≡ first ∷ others
  says : HasMeaning s first meaning
  said : HaveMeanings sorts others meanings

split : (s : WordKind) (sorts : List WordKind) (ws : List (List ℕ)) (ms : List Meaning) → HaveMeanings (s ∷ sorts) ws ms → Split s sorts ws
split s sorts [] ms h = absurd h
split s sorts (w ∷ ws) [] h = absurd h
split s sorts (w ∷ ws) (m ∷ ms) h = record { first = w; others = ws; meaning = m; meanings = ms; parts = refl; says = h.0; said = h.1 }

no_more : (ws : List (List ℕ)) (ms : List Meaning) → HaveMeanings [] ws ms → ws ≡ []
no_more [] ms h = refl
no_more (w ∷ ws) ms h = absurd h

behind : (w : List ℕ) (xs ys : List (List ℕ)) → xs ≡ ys → w ∷ xs ≡ w ∷ ys
behind w xs ys e = ap (λ (ws : List (List ℕ)). w ∷ ws) e

two : (a b : WordKind) (ws : List (List ℕ)) (ms : List Meaning) → HaveMeanings (a ∷ b ∷ []) ws ms
    → (u : List ℕ) × (v : List ℕ) × (m : Meaning) × HasMeaning a u m × (ws ≡ u ∷ v ∷ [])
two a b ws ms h =
    let p = split a (b ∷ []) ws ms h in
    let q = split b [] p.others p.meanings p.said in
    (p.first, q.first, p.meaning, p.says, p.parts ∙ behind p.first p.others _ (q.parts ∙ behind q.first q.others _ (no_more q.others q.meanings q.said)))

three : (a b c : WordKind) (ws : List (List ℕ)) (ms : List Meaning) → HaveMeanings (a ∷ b ∷ c ∷ []) ws ms
    → (u : List ℕ) × (v : List ℕ) × (w : List ℕ) × (m : Meaning) × HasMeaning a u m × (ws ≡ u ∷ v ∷ w ∷ [])
three a b c ws ms h =
    let p = split a (b ∷ c ∷ []) ws ms h in
    let q = two b c p.others p.meanings p.said in
    (p.first, q.0, q.1, p.meaning, p.says, p.parts ∙ behind p.first p.others _ q.4)

four : (a b c d : WordKind) (ws : List (List ℕ)) (ms : List Meaning) → HaveMeanings (a ∷ b ∷ c ∷ d ∷ []) ws ms
    → (u : List ℕ) × (v : List ℕ) × (w : List ℕ) × (x : List ℕ) × (m : Meaning) × HasMeaning a u m
    × (ws ≡ u ∷ v ∷ w ∷ x ∷ [])
four a b c d ws ms h =
    let p = split a (b ∷ c ∷ d ∷ []) ws ms h in
    let q = three b c d p.others p.meanings p.said in
    (p.first, q.0, q.1, q.2, p.meaning, p.says, p.parts ∙ behind p.first p.others _ q.5)

by_words : (f : LineForm) (ws vs : List (List ℕ)) → ws ≡ vs → form_in vs ≡ Some f → form_in ws ≡ Some f
by_words f ws vs e is = subst (λ (xs : List (List ℕ)). form_in xs ≡ Some f) (sym e) is

is_drain : (ws : List (List ℕ)) (ms : List Meaning) → HaveMeanings (word_kinds_of form.Drain) ws ms → form_in ws ≡ Some form.Drain
is_drain ws ms h =
    let t = two (sort.Key keyword.Drain) conn_kind ws ms h in
    by_words form.Drain ws (t.0 ∷ t.1 ∷ []) t.4
    (by_words form.Drain (t.0 ∷ t.1 ∷ []) (spelling keyword.Drain ∷ t.1 ∷ [])
    (ap (λ (u : List ℕ). u ∷ t.1 ∷ []) (key_word keyword.Drain t.0 t.2 t.3)) refl)

is_upgrade : (ws : List (List ℕ)) (ms : List Meaning) → HaveMeanings (word_kinds_of form.Upgrade) ws ms → form_in ws ≡ Some form.Upgrade
is_upgrade ws ms h =
    let t = four (sort.Key keyword.Upgrade) conn_kind sort.Name sort.Name ws ms h in
    by_words form.Upgrade ws (t.0 ∷ t.1 ∷ t.2 ∷ t.3 ∷ []) t.6
    (by_words form.Upgrade (t.0 ∷ t.1 ∷ t.2 ∷ t.3 ∷ []) (spelling keyword.Upgrade ∷ t.1 ∷ t.2 ∷ t.3 ∷ [])
    (ap (λ (u : List ℕ). u ∷ t.1 ∷ t.2 ∷ t.3 ∷ []) (key_word keyword.Upgrade t.0 t.4 t.5)) refl)

moved : (f g : LineForm) → f ≡ g → (ws : List (List ℕ)) (ms : List Meaning) → HaveMeanings (word_kinds_of f) ws ms
    → ((xs : List (List ℕ)) (ns : List Meaning) → HaveMeanings (word_kinds_of g) xs ns → form_in xs ≡ Some g) → form_in ws ≡ Some f
moved f g e ws ms h is =
    subst (λ (k : LineForm). form_in ws ≡ Some k) (sym e) (is ws ms (subst (λ (k : LineForm). HaveMeanings (word_kinds_of k) ws ms) e h))

-- words that fit a frequent form are of that form
pub form_is : (f : LineForm) → IsFrequent f → (ws : List (List ℕ)) (ms : List Meaning) → HaveMeanings (word_kinds_of f) ws ms → form_in ws ≡ Some f
form_is f (inl e) ws ms h = moved f form.Upgrade e ws ms h is_upgrade
form_is f (inr e) ws ms h = moved f form.Drain e ws ms h is_drain
