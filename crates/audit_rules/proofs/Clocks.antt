-- Elements of a list that are changed one after another, and engines that were lent.
use Rattle.std.proofs.Common.{◌≡◌, ℕ, ◌+◌, ◌<◌, List, [], ◌∷◌, ◌++◌, length, take, drop, set, get_or, map, ap, sym, ◌∙◌, arith, get_or-drop}
use Rattle.std.proofs.lemmas.List.{drop-drop, drop-set-lt, map_more, take_at, take_more_set}

-- ---- one more element

same-item : {X : Type 0} (xs ys : List X) (i : ℕ) (d : X) → drop i xs ≡ drop i ys → get_or xs i d ≡ get_or ys i d
same-item {X = X} xs ys i d e =
    let none : i + 0 ≡ i = omega arith in
    ap (λ (n : ℕ). get_or xs n d) (sym none) ∙ (sym (get_or-drop i xs 0 d) ∙ (ap (λ (zs : List X). get_or zs 0 d) e ∙ (get_or-drop i ys 0 d
    ∙ ap (λ (n : ℕ). get_or ys n d) none)))

pub changed-one-more : {X : Type 0} (f : X → X) (items init : List X) (i : ℕ) (x y : X) → i < length items → i < length init
    → take i items ≡ map f (take i init) → drop i items ≡ drop i init → y ≡ f (get_or items i x)
    → take (i + 1) (set items i y) ≡ map f (take (i + 1) init)
changed-one-more {X = X} f items init i x y here there changed others is =
    take_more_set items i y here ∙ (ap (λ (zs : List X). zs ++ y ∷ []) changed
    ∙ (ap (λ (z : X). map f (take i init) ++ z ∷ []) (is ∙ ap f (same-item items init i x others)) ∙ sym (map_more f init i x there)))

pub others-one-more : {X : Type 0} (items init : List X) (i : ℕ) (y : X) → drop i items ≡ drop i init
    → drop (i + 1) (set items i y) ≡ drop (i + 1) init
others-one-more {X = X} items init i y others =
    drop-set-lt (i + 1) items i y (omega arith) ∙ (sym (drop-drop 1 i items) ∙ (ap (λ (zs : List X). drop 1 zs) others ∙ drop-drop 1 i init))

-- engines that were lent, as they are written back
pub written-back : {X : Type 0} (es new : List X) (n : ℕ) → length new ≡ length es → length es ≡ n → take n (new ++ drop (length new) es) ≡ new
written-back es new n same many = take_at new (drop (length new) es) n (omega (arith, same, many))
