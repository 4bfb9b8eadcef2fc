-- Lists that grow by what each next number adds.
use Rattle.std.proofs.Common.{◌≡◌, ℕ, zero, suc, ◌+◌, List, [], ◌∷◌, ◌++◌, sym, ap, ◌∙◌, append_assoc, append-nil, arith}
use Rattle.std.specs.List.{flat_map, range_with_len}
use Rattle.std.proofs.lemmas.Grind.{flat_map-append}

pub range-more : (a n : ℕ) → range_with_len a (suc n) ≡ range_with_len a n ++ (a + n) ∷ []
range-more a zero = let same : a ≡ a + 0 = omega arith in ap (λ x. x ∷ []) same
range-more a (suc n) =
    let same : a + 1 + n ≡ a + suc n = omega arith in
    ap (λ rest. a ∷ rest) (range-more (a + 1) n ∙ ap (λ x. range_with_len (a + 1) n ++ x ∷ []) same)

-- what the first n numbers make, followed by what the next one makes
pub made-more : {X : Type 0} (f : ℕ → List X) (a n : ℕ)
    → flat_map f (range_with_len a (n + 1)) ≡ flat_map f (range_with_len a n) ++ f (a + n)
made-more f a n =
    let next : n + 1 ≡ suc n = omega arith in
    ap (λ k. flat_map f (range_with_len a k)) next ∙ ap (flat_map f) (range-more a n)
    ∙ flat_map-append f (range_with_len a n) ((a + n) ∷ [])
    ∙ ap (λ last. flat_map f (range_with_len a n) ++ last) (append-nil (f (a + n)))

-- like `made-more`, for two items that are pushed one after another
pub two-more : {X : Type 0} (f : ℕ → List X) (a n : ℕ) (xs ys zs : List X) (x y : X) → f (a + n) ≡ x ∷ y ∷ []
    → xs ≡ flat_map f (range_with_len a n) → ys ≡ xs ++ x ∷ [] → zs ≡ ys ++ y ∷ []
    → zs ≡ flat_map f (range_with_len a (n + 1))
two-more f a n xs ys zs x y both so first second =
    second ∙ ap (λ l. l ++ y ∷ []) (first ∙ ap (λ l. l ++ x ∷ []) so)
    ∙ append_assoc (flat_map f (range_with_len a n)) (x ∷ []) (y ∷ [])
    ∙ ap (λ last. flat_map f (range_with_len a n) ++ last) (sym both) ∙ sym (made-more f a n)
