-- The word at a place after a list of stores: what one more store changes, what stores elsewhere leave unchanged, and
-- the invariant of the words.
use Rattle.std.proofs.Common.{◌≡◌, ◌≢◌, ◌<◌, ℕ, nat_eq, true, false, List, [], ◌∷◌, ◌++◌, length, filter, map}
use Rattle.std.proofs.Common.{replicate, set, get_or, arith, refl, sym, ap, ◌∙◌, subst, get_or-set_same}
use Rattle.std.proofs.Common.{get_or-set_other, length-set, ⊎_elim}
use Rattle.std.proofs.lemmas.Bool.{cond-true, cond-false, cases_eq}
use Rattle.std.proofs.lemmas.Bool.Decides.{nat_tests}
use Rattle.std.proofs.lemmas.List.{map-append, get_or-replicate, length-replicate}
use Rattle.std.proofs.lemmas.List.Elements.{filter-append}
use Rattle.mrpc_base.specs.Heap.{last_or, word_after}
use Rattle.mrpc_base.specs.Parts.{AreWordsAfter}

pub last_or-append : (otherwise : ℕ) (xs ys : List ℕ) → last_or otherwise (xs ++ ys) ≡ last_or (last_or otherwise xs) ys
last_or-append otherwise [] ys = refl
last_or-append otherwise (x ∷ xs) ys = last_or-append x xs ys

abbrev values_at : ℕ → List (ℕ × ℕ) → List ℕ
values_at place stores = map (λ store. store.1) (filter (λ store. nat_eq store.0 place) stores)

values_at-append : (place : ℕ) (stores more : List (ℕ × ℕ)) → values_at place (stores ++ more) ≡ values_at place stores ++ values_at place more
values_at-append place stores more =
    ap (map (λ store. store.1)) (filter-append (λ store. nat_eq store.0 place) stores more)
    ∙ map-append (λ store. store.1) (filter (λ store. nat_eq store.0 place) stores)
    (filter (λ store. nat_eq store.0 place) more)

pub word_after-nil : (place : ℕ) → word_after [] place ≡ 0
unfolding word_after
word_after-nil place = refl

-- stores after others: the last of their values at the place, if they have one
pub word_after-append : (stores more : List (ℕ × ℕ)) (place : ℕ) → word_after (stores ++ more) place ≡ last_or (word_after stores place) (values_at place more)
unfolding word_after
word_after-append stores more place =
    ap (last_or 0) (values_at-append place stores more) ∙ last_or-append 0 (values_at place stores) (values_at place more)

-- the word at a place is the value of the last store there
pub word_after-same : (stores : List (ℕ × ℕ)) (place value : ℕ) → word_after (stores ++ (place, value) ∷ []) place ≡ value
word_after-same stores place value =
    word_after-append stores ((place, value) ∷ []) place
    ∙ ap (λ kept. last_or (word_after stores place) (map (λ s. s.1) kept)) (let test : nat_eq place place ≡ true =
    grind (arith, nat_tests) in cond-true (nat_eq place place) ((place, value) ∷ []) [] test)

pub word_after-other : (stores : List (ℕ × ℕ)) (place value other : ℕ) → place ≢ other → word_after (stores ++ (place, value) ∷ []) other ≡ word_after stores other
word_after-other stores place value other apart =
    word_after-append stores ((place, value) ∷ []) other
    ∙ ap (λ kept. last_or (word_after stores other) (map (λ s. s.1) kept)) (let test : nat_eq place other ≡ false =
    grind (arith, nat_tests) in cond-false (nat_eq place other) ((place, value) ∷ []) [] test)

-- ---- the words stay those of the stores

pub stands_at_first : (stores : List (ℕ × ℕ)) (words : List ℕ) (n : ℕ) → stores ≡ [] → words ≡ replicate n 0 → AreWordsAfter stores words
stands_at_first stores words n none zeros = λ place inside.
    let below : place < n = omega (arith, inside, ap length zeros, length-replicate {A = ℕ} n 0) in
    ap (λ ws. get_or ws place 0) zeros ∙ get_or-replicate n place 0 0 below ∙ sym (ap (λ ss. word_after ss place) none ∙ word_after-nil place)

pub stands_after_store : (stores new : List (ℕ × ℕ)) (words : List ℕ) (place value : ℕ) → place < length words
    → new ≡ stores ++ (place, value) ∷ [] → AreWordsAfter stores words
    → AreWordsAfter new (set words place value)
stands_after_store stores new words place value inside more stands = λ other in'.
    ⊎_elim
    (λ (same : place ≡ other).
    let now : get_or (set words place value) place 0 ≡ value = rw get_or-set_same in
    subst (λ o. get_or (set words place value) o 0 ≡ word_after new o) same (now ∙ sym (ap (λ ss. word_after ss place) more ∙ word_after-same stores place value)))
    (λ (apart : place ≢ other).
    let still : get_or (set words place value) other 0 ≡ get_or words other 0 = let ne : other ≢ place = λ e. apart (sym e) in rw get_or-set_other in
    let within : other < length words = omega (arith, in', length-set words place value) in
    still ∙ stands other within ∙ sym (ap (λ ss. word_after ss other) more ∙ word_after-other stores place value other apart))
    (cases_eq place other)
