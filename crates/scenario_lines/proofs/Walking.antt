-- The words of a line, one after another, and whether one of them is required to be a name, and isn't one.
use Rattle.std.proofs.Common.{◌≡◌, ℕ, ◌+◌, ◌<◌, ◌≤◌, ◌==◌, Bool, true, false, cond, not, ◌||◌, List, [], ◌∷◌, get_or}
use Rattle.std.proofs.Common.{drop, length, Option, Some, None, refl, sym, ap, ◌∙◌}
use Rattle.std.specs.Borrow.{Bor}
use Rattle.std.specs.Prelude.{is_some}
use Rattle.std.specs.List.{onto_first}
use Rattle.std.proofs.lemmas.List.{drop_all, drop_more}
use Rattle.mrpc_table.specs.Lines.{words_of}
use Rattle.script_grammar.specs.declared.word_kind.WordKind.{WordKind}
use Rattle.script_grammar.specs.Remainders.{words_in}
use Rattle.scenario_lines.specs.Judging.{is_required_name_invalid, lacks_name}

-- a line has at least one word
has_word : (text : List ℕ) → (w : List ℕ) × (ws : List (List ℕ)) × (words_of text ≡ w ∷ ws)
has_word [] = ([], [], refl)
has_word (x ∷ xs) =
    let rest = has_word xs in
    elim (x == 32) as (λ (b : Bool). (w : List ℕ) × (ws : List (List ℕ)) × (cond b ([] ∷ words_of xs) (onto_first x (words_of xs)) ≡ w ∷ ws)) [
      | true ↦ ([], words_of xs, refl)
      | false ↦ (x ∷ rest.0, rest.1, ap (onto_first x) rest.2)
    ]

-- there are fewer words than sorts
pub lacks_short : (found : Bool) (sorts : List WordKind) (i : ℕ) (d : WordKind) (rest : Option (Bor (List ℕ))) (b : Bool)
    → i < length sorts → rest ≡ None → lacks_name found (drop i sorts) (words_in rest) ≡ b → false ≡ b
lacks_short found sorts i d rest b within none so_far =
    let front = drop_more sorts i d within in
    sym (ap (λ (x : List WordKind). lacks_name found x (words_in rest)) front
    ∙ ap (λ r. lacks_name found (get_or sorts i d ∷ drop (i + 1) sorts) (words_in r)) none) ∙ so_far

-- one more word
pub lacks_more : (found next : Bool) (sorts : List WordKind) (i : ℕ) (d : WordKind) (before after : List (List ℕ)) (w : List ℕ) (b : Bool)
    → i < length sorts → before ≡ w ∷ after → next ≡ (found || is_required_name_invalid (get_or sorts i d) w)
    → lacks_name found (drop i sorts) before ≡ b → lacks_name next (drop (i + 1) sorts) after ≡ b
lacks_more found next sorts i d before after w b within words is so_far =
    let front = drop_more sorts i d within in
    ap (λ f. lacks_name f (drop (i + 1) sorts) after) is
    ∙ sym (ap (λ (x : List WordKind). lacks_name found x before) front
    ∙ ap (λ r. lacks_name found (get_or sorts i d ∷ drop (i + 1) sorts) r) words) ∙ so_far

not_not : (b c : Bool) → b ≡ not c → c ≡ not b
not_not true true e = absurd cc
not_not true false e = refl
not_not false true e = refl
not_not false false e = absurd cc

end_by : (rest : Option (Bor (List ℕ))) → not (is_some rest) ≡ lacks_name true [] (words_in rest)
end_by None = refl
end_by (Some text) = let p = has_word text.now in sym (ap (lacks_name true []) p.2)

-- there are fewer sorts than words
pub lacks_end : (sorts : List WordKind) (i : ℕ) (rest : Option (Bor (List ℕ))) (none b : Bool) → length sorts ≤ i
    → is_some rest ≡ not none → lacks_name true (drop i sorts) (words_in rest) ≡ b → none ≡ b
lacks_end sorts i rest none b past is so_far =
    not_not (is_some rest) none is ∙ end_by rest
    ∙ sym (ap (λ (x : List WordKind). lacks_name true x (words_in rest)) (drop_all i sorts past)) ∙ so_far
