-- The words of a line, one after another.
use Rattle.std.proofs.Common.{◌≡◌, ℕ, ◌+◌, ◌<◌, ◌≤◌, ◌==◌, Bool, true, false, cond, not, List, [], ◌∷◌, ◌++◌, length}
use Rattle.std.proofs.Common.{get_or, take, drop, Option, Some, None, refl, sym, ap, ◌∙◌, inl, inr, arith}
use Rattle.std.specs.Borrow.{Bor}
use Rattle.std.specs.Prelude.{is_some}
use Rattle.std.specs.List.{onto_first}
use Rattle.std.proofs.lemmas.Bool.{cases_lt}
use Rattle.std.proofs.lemmas.List.{drop_all, drop_more, take_more, length-drop}
use Rattle.mrpc_table.specs.Lines.{words_of}
use Rattle.script_grammar.specs.Lines.{has_form}
use Rattle.script_grammar.specs.Remainders.{words_in}
use Rattle.script_grammar.specs.declared.word_kind.WordKind.{WordKind}
use Rattle.script_grammar.specs.declared.word_kind.WordKind.TheVariants.{Unbounded}

-- a line has at least one word
pub has_word : (text : List ℕ) → (w : List ℕ) × (ws : List (List ℕ)) × (words_of text ≡ w ∷ ws)
has_word [] = ([], [], refl)
has_word (x ∷ xs) =
    let rest = has_word xs in
    elim (x == 32) as (λ (b : Bool). (w : List ℕ) × (ws : List (List ℕ)) × (cond b ([] ∷ words_of xs) (onto_first x (words_of xs)) ≡ w ∷ ws)) [
      | true ↦ ([], words_of xs, refl)
      | false ↦ (x ∷ rest.0, rest.1, ap (onto_first x) rest.2)
    ]

-- ---- the form

-- the words end before the sorts do
pub form_short : (sorts : List WordKind) (i : ℕ) (rest : Option (Bor (List ℕ))) (b : Bool) → i < length sorts
    → rest ≡ None → has_form (drop i sorts) (words_in rest) ≡ b → false ≡ b
form_short sorts i rest b within none so_far =
    let front = drop_more sorts i Unbounded within in
    sym (ap (λ (x : List WordKind). has_form x (words_in rest)) front ∙ ap (λ r. has_form (get_or sorts i Unbounded ∷ drop (i + 1) sorts) (words_in r)) none) ∙ so_far

form_end_by : (rest : Option (Bor (List ℕ))) → not (is_some rest) ≡ has_form [] (words_in rest)
form_end_by None = refl
form_end_by (Some text) = let p = has_word text.now in sym (ap (has_form []) p.2)

not_not : (b c : Bool) → b ≡ not c → c ≡ not b
not_not true true e = absurd cc
not_not true false e = refl
not_not false true e = refl
not_not false false e = absurd cc

-- the sorts end
pub form_end : (sorts : List WordKind) (i : ℕ) (rest : Option (Bor (List ℕ))) (none b : Bool) → length sorts ≤ i
    → is_some rest ≡ not none → has_form (drop i sorts) (words_in rest) ≡ b → none ≡ b
form_end sorts i rest none b past is so_far =
    not_not (is_some rest) none is ∙ form_end_by rest ∙ sym (ap (λ (x : List WordKind). has_form x (words_in rest)) (drop_all i sorts past)) ∙ so_far

-- ---- the words

pub record IsNext {X : Type 0} (xs : List X) (i : ℕ) (y : X) (ys : List X) : Type 0 where
  pub within : i + 1 ≤ length xs
  pub rest : drop (i + 1) xs ≡ ys
  pub front : take (i + 1) xs ≡ take i xs ++ y ∷ []

first_of : {X : Type 0} (x y : X) (xs ys : List X) → x ∷ xs ≡ y ∷ ys → x ≡ y
first_of x y xs ys e = cc

pub next : {X : Type 0} (xs : List X) (i : ℕ) (y : X) (ys : List X) → drop i xs ≡ y ∷ ys → IsNext xs i y ys
next {X} xs i y ys e = elim (cases_lt i (length xs)) [
  | inl within ↦
      let both : get_or xs i y ∷ drop (i + 1) xs ≡ y ∷ ys = sym (drop_more xs i y within) ∙ e in
      record {
        within = omega (arith, within);
        rest = ap (drop 1) both;
        front = take_more xs i y within ∙ ap (λ (x : X). take i xs ++ x ∷ []) (first_of (get_or xs i y) y (drop (i + 1) xs) ys both);
      }
  | inr past ↦ (let none : [] ≡ y ∷ ys = sym (drop_all i xs past) ∙ e in absurd cc)
]

-- the remainder of a line's words, after some of them
pub left_none : (ws : List (List ℕ)) (i : ℕ) (rest : Option (Bor (List ℕ))) → drop i ws ≡ words_in rest → rest ≡ None → length ws ≤ i
left_none ws i rest is none =
    let e : length (drop i ws) ≡ 0 = ap length (is ∙ ap words_in none) in
    omega (arith, length-drop i ws, e)

pub left_some : (ws : List (List ℕ)) (i : ℕ) (rest : Option (Bor (List ℕ))) → drop i ws ≡ words_in rest → is_some rest ≡ true → i < length ws
left_some ws i None is e = absurd cc
left_some ws i (Some text) is e =
    let p = has_word text.now in
    let long = (next ws i p.0 p.1 (is ∙ p.2)).within in
    omega (arith, long)

pub left_not_some : (ws : List (List ℕ)) (i : ℕ) (rest : Option (Bor (List ℕ))) → drop i ws ≡ words_in rest → is_some rest ≡ false → length ws ≤ i
left_not_some ws i None is e = left_none ws i None is refl
left_not_some ws i (Some text) is e = absurd cc
