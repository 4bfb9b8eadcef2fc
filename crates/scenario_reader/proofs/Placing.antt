-- The indices of names, with one more at a time.
use Rattle.std.proofs.Common.{◌≡◌, ◌+◌, ◌<◌, ℕ, List, [], ◌∷◌, ◌++◌, length, get_or, map, take, Option, Some, None, refl, sym, ap, ◌∙◌}
use Rattle.std.specs.Borrow.{Bor}
use Rattle.std.specs.List.{cons_option}
use Rattle.std.specs.Prelude.{filter_map, option_to_list}
use Rattle.std.proofs.lemmas.List.{map-append, take_more}
use Rattle.std.proofs.lemmas.List.Elements.{filter_map-append}
use Rattle.policy_declarations.specs.Declarations.{Declared, policy_index}

pub places_more : (d : Declared) (names : List (Bor (List ℕ))) (i : ℕ) (x : Bor (List ℕ)) → i < length names → (places places' : List ℕ)
    → places ≡ filter_map (policy_index d) (map (λ n. n.now) (take i names))
    → places' ≡ places ++ option_to_list (policy_index d (get_or names i x).now)
    → places' ≡ filter_map (policy_index d) (map (λ n. n.now) (take (i + 1) names))
places_more d names i x within places places' so_far is =
    let more : map (λ (n : Bor (List ℕ)). n.now) (take (i + 1) names) ≡ map (λ n. n.now) (take i names) ++ (get_or names i x).now ∷ [] =
    ap (map (λ (n : Bor (List ℕ)). n.now)) (take_more names i x within)
    ∙ map-append (λ (n : Bor (List ℕ)). n.now) (take i names) (get_or names i x ∷ []) in
    is ∙ ap (λ (ps : List ℕ). ps ++ option_to_list (policy_index d (get_or names i x).now)) so_far
    ∙ ap (λ (ps : List ℕ). filter_map (policy_index d) (map (λ (n : Bor (List ℕ)). n.now) (take i names)) ++ ps) (one (policy_index d (get_or names i x).now))
    ∙ sym (filter_map-append (policy_index d) (map (λ n. n.now) (take i names)) ((get_or names i x).now ∷ []))
    ∙ ap (filter_map (policy_index d)) (sym more)
  where
    one : (o : Option ℕ) → option_to_list o ≡ cons_option o []
    one None = refl
    one (Some n) = refl
