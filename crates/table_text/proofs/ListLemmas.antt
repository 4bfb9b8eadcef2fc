-- Parts of lists, and lists with one element more. The writer and the reader of lines both use them.
use Rattle.std.proofs.Common.{◌≡◌, ℕ, suc, ◌+◌, ◌==◌, Bool, true, false, cond, List, [], ◌∷◌, ◌++◌, length, refl, ap, ◌∙◌, arith}
use Rattle.std.specs.List.{enumerate_from, slice_split, onto_first}

-- a list has at least one part
pub has_part : (sep : ℕ) (text : List ℕ) → (part : List ℕ) × (parts : List (List ℕ)) × (slice_split (λ c. c == sep) text ≡ part ∷ parts)
has_part sep [] = ([], [], refl)
has_part sep (x ∷ xs) =
    let rest = has_part sep xs in
    elim (x == sep) as (λ (b : Bool). (part : List ℕ) × (parts : List (List ℕ))
    × (cond b ([] ∷ slice_split (λ c. c == sep) xs) (onto_first x (slice_split (λ c. c == sep) xs)) ≡ part
    ∷ parts)) [
      | true ↦ ([], slice_split (λ c. c == sep) xs, refl)
      | false ↦ (x ∷ rest.0, rest.1, ap (onto_first x) rest.2)
    ]

pub enumerate-push : {X : Type 0} (n : ℕ) (xs : List X) (x : X) → enumerate_from n (xs ++ x ∷ []) ≡ enumerate_from n xs ++ (n + length xs, x) ∷ []
enumerate-push n [] x = let e : n ≡ n + 0 = omega arith in ap (λ (k : ℕ). (k, x) ∷ []) e
enumerate-push n (y ∷ ys) x =
    let e : n + 1 + length ys ≡ n + suc (length ys) = omega arith in
    ap (λ zs. (n, y) ∷ zs) (enumerate-push (n + 1) ys x ∙ ap (λ (k : ℕ). enumerate_from (n + 1) ys ++ (k, x) ∷ []) e)
