-- Lists that grow, index by index.
use Rattle.std.proofs.Common.{◌≡◌, ℕ, zero, suc, ◌+◌, List, [], ◌∷◌, ◌++◌, Option, Some, None, refl, ap, ◌∙◌, arith}
use Rattle.std.specs.Prelude.{option_to_list}
use Rattle.std.specs.List.{AllZip, filter_map, range_with_len}
use Rattle.std.proofs.lemmas.List.Elements.{filter_map-append}

pub zip-append : {X Y : Type 0} (R : X → Y → Type 0) (xs : List X) (ys : List Y) (vs : List X) (ws : List Y) → AllZip R xs ys
    → AllZip R vs ws → AllZip R (xs ++ vs) (ys ++ ws)
zip-append R [] [] vs ws all more = more
zip-append R [] (y ∷ ys) vs ws all more = absurd all
zip-append R (x ∷ xs) [] vs ws all more = absurd all
zip-append R (x ∷ xs) (y ∷ ys) vs ws all more = (all.0, zip-append R xs ys vs ws all.1 more)

range-more : (a n : ℕ) → range_with_len a (suc n) ≡ range_with_len a n ++ (a + n) ∷ []
range-more a zero = let same : a ≡ a + 0 = omega arith in ap (λ x. x ∷ []) same
range-more a (suc n) =
    let same : a + 1 + n ≡ a + suc n = omega arith in
    ap (λ rest. a ∷ rest) (range-more (a + 1) n ∙ ap (λ x. range_with_len (a + 1) n ++ x ∷ []) same)

given-one : {X Y : Type 0} (h : X → Option Y) (x : X) (o : Option Y) → h x ≡ o → filter_map h (x ∷ []) ≡ option_to_list o
given-one h x None is = rw is refl
given-one h x (Some y) is = rw is refl

-- the images of the first numbers are followed by that of the next
pub given-more : {Y : Type 0} (h : ℕ → Option Y) (a n : ℕ)
    → filter_map h (range_with_len a (n + 1)) ≡ filter_map h (range_with_len a n) ++ option_to_list (h (a + n))
given-more h a n =
    let next : n + 1 ≡ suc n = omega arith in
    ap (λ k. filter_map h (range_with_len a k)) next ∙ ap (filter_map h) (range-more a n)
    ∙ filter_map-append h (range_with_len a n) ((a + n) ∷ [])
    ∙ ap (λ last. filter_map h (range_with_len a n) ++ last) (given-one h (a + n) (h (a + n)) refl)
