-- The word at a place after a list of stores: the effect of one more store, and of stores elsewhere.
use Rattle.std.proofs.Common.{◌≡◌, ◌≢◌, ◌<◌, ℕ, nat_eq, true, false, List, [], ◌∷◌, ◌++◌, length, filter, map, All}
use Rattle.std.proofs.Common.{replicate, set, get_or, arith, refl, sym, ap, ◌∙◌, subst, get_or-set_same}
use Rattle.std.proofs.Common.{get_or-set_other, ⊎_elim}
use Rattle.std.proofs.lemmas.Bool.{cond-true, cond-false, cases_eq}
use Rattle.std.proofs.lemmas.Bool.Decides.{nat_tests}
use Rattle.std.proofs.lemmas.List.{map-append, get_or-replicate}
use Rattle.std.proofs.lemmas.List.Elements.{filter-append, All-head, All-tail}
use Rattle.mrpc_base.specs.Heap.{last_or, word_after}

pub last_or-append : (otherwise : ℕ) (xs ys : List ℕ) → last_or otherwise (xs ++ ys) ≡ last_or (last_or otherwise xs) ys
last_or-append otherwise [] ys = refl
last_or-append otherwise (x ∷ xs) ys = last_or-append x xs ys

abbrev values_at : ℕ → List (ℕ × ℕ) → List ℕ
values_at place stores = map (λ store. store.1) (filter (λ store. nat_eq store.0 place) stores)

values_at-append : (place : ℕ) (stores more : List (ℕ × ℕ)) → values_at place (stores ++ more) ≡ values_at place stores ++ values_at place more
values_at-append place stores more =
    ap (map (λ store. store.1)) (filter-append (λ store. nat_eq store.0 place) stores more)
    ∙ map-append (λ store. store.1) (filter (λ store. nat_eq store.0 place) stores)
    (filter (λ store. nat_eq store.0 place) more)

values_at-elsewhere : (place : ℕ) (stores : List (ℕ × ℕ)) → All (λ store. store.0 ≢ place) stores → values_at place stores ≡ []
values_at-elsewhere place [] apart = refl
values_at-elsewhere place (store ∷ stores) apart =
    let test : nat_eq store.0 place ≡ false = let ne : store.0 ≢ place = All-head (λ s. s.0 ≢ place) store stores apart in grind (arith, nat_tests) in
    ap (map (λ s. s.1)) (cond-false (nat_eq store.0 place) (store ∷ filter (λ s. nat_eq s.0 place) stores) (filter (λ s. nat_eq s.0 place) stores) test)
    ∙ values_at-elsewhere place stores (All-tail (λ s. s.0 ≢ place) store stores apart)

pub word_after-nil : (place : ℕ) → word_after [] place ≡ 0
unfolding word_after
word_after-nil place = refl

-- further stores: the last of their values at the place, if there is one
pub word_after-append : (stores more : List (ℕ × ℕ)) (place : ℕ) → word_after (stores ++ more) place ≡ last_or (word_after stores place) (values_at place more)
unfolding word_after
word_after-append stores more place =
    ap (last_or 0) (values_at-append place stores more) ∙ last_or-append 0 (values_at place stores) (values_at place more)

-- after one more store to the place, its value is the place's word
pub word_after-same : (stores : List (ℕ × ℕ)) (place value : ℕ) → word_after (stores ++ (place, value) ∷ []) place ≡ value
word_after-same stores place value =
    word_after-append stores ((place, value) ∷ []) place
    ∙ ap (λ kept. last_or (word_after stores place) (map (λ s. s.1) kept)) (let test : nat_eq place place ≡ true =
    grind (arith, nat_tests) in cond-true (nat_eq place place) ((place, value) ∷ []) [] test)

-- stores elsewhere leave a word unchanged
pub word_after-elsewhere : (stores more : List (ℕ × ℕ)) (place : ℕ) → All (λ store. store.0 ≢ place) more → word_after (stores ++ more) place ≡ word_after stores place
word_after-elsewhere stores more place apart =
    word_after-append stores more place ∙ ap (last_or (word_after stores place)) (values_at-elsewhere place more apart)

pub word_after-other : (stores : List (ℕ × ℕ)) (place value other : ℕ) → place ≢ other → word_after (stores ++ (place, value) ∷ []) other ≡ word_after stores other
word_after-other stores place value other apart =
    word_after-append stores ((place, value) ∷ []) other
    ∙ ap (λ kept. last_or (word_after stores other) (map (λ s. s.1) kept)) (let test : nat_eq place other ≡ false =
    grind (arith, nat_tests) in cond-false (nat_eq place other) ((place, value) ∷ []) [] test)

-- ---- the present words

abbrev pub StandsAfter : List (ℕ × ℕ) → ℕ → List ℕ → Type 0
StandsAfter stores size words = (place : ℕ) → place < size → get_or words place 0 ≡ word_after stores place

pub stands_at_first : (words : List ℕ) (n : ℕ) → words ≡ replicate n 0 → StandsAfter [] n words
stands_at_first words n zeros = λ place below. ap (λ ws. get_or ws place 0) zeros ∙ get_or-replicate n place 0 0 below ∙ sym (word_after-nil place)

pub stands_after_store : (stores : List (ℕ × ℕ)) (words : List ℕ) (size place value : ℕ) → place < size
    → length words ≡ size → StandsAfter stores size words
    → StandsAfter (stores ++ (place, value) ∷ []) size (set words place value)
stands_after_store stores words size place value inside sized stands = λ other in'.
    ⊎_elim
    (λ (same : place ≡ other).
    let within : place < length words = omega arith in
    let now : get_or (set words place value) place 0 ≡ value = rw get_or-set_same in
    subst (λ o. get_or (set words place value) o 0 ≡ word_after (stores ++ (place, value) ∷ []) o) same (now ∙ sym (word_after-same stores place value)))
    (λ (apart : place ≢ other).
    let still : get_or (set words place value) other 0 ≡ get_or words other 0 = let ne : other ≢ place = λ e. apart (sym e) in rw get_or-set_other in
    still ∙ stands other in' ∙ sym (word_after-other stores place value other apart))
    (cases_eq place other)
