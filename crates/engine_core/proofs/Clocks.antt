-- The effect of a timestamp on engines.
use Rattle.std.proofs.Common.{◌≡◌, ℕ, ◌+◌, ◌-◌, ◌<◌, max, List, [], ◌∷◌, ◌++◌, length, take, drop, set, get_or, map, ap, sym, ◌∙◌, arith, get_or-drop}
use Rattle.std.proofs.lemmas.List.{drop-drop, drop-set-lt, map_more, take_more_set}
use Rattle.engine_core.specs.Chains.{Entry}
use Rattle.engine_core.specs.Engines.{EngineParts, clocked}
use Rattle.engine_core.specs.Policies.{level_after_time}

-- ---- one more engine

same-item : {X : Type 0} (xs ys : List X) (i : ℕ) (d : X) → drop i xs ≡ drop i ys → get_or xs i d ≡ get_or ys i d
same-item {X = X} xs ys i d e =
    let none : i + 0 ≡ i = omega arith in
    ap (λ (n : ℕ). get_or xs n d) (sym none) ∙ (sym (get_or-drop i xs 0 d) ∙ (ap (λ (zs : List X). get_or zs 0 d) e ∙ (get_or-drop i ys 0 d
    ∙ ap (λ (n : ℕ). get_or ys n d) none)))

pub changed-one-more : {X : Type 0} (f : X → X) (items init : List X) (i : ℕ) (x y : X) → i < length items → i < length init
    → take i items ≡ map f (take i init) → drop i items ≡ drop i init → y ≡ f (get_or items i x)
    → take (i + 1) (set items i y) ≡ map f (take (i + 1) init)
changed-one-more {X = X} f items init i x y here there changed others is =
    take_more_set items i y here ∙ (ap (λ (zs : List X). zs ++ y ∷ []) changed
    ∙ (ap (λ (z : X). map f (take i init) ++ z ∷ []) (is ∙ ap f (same-item items init i x others)) ∙ sym (map_more f init i x there)))

pub others-one-more : {X : Type 0} (items init : List X) (i : ℕ) (y : X) → drop i items ≡ drop i init
    → drop (i + 1) (set items i y) ≡ drop (i + 1) init
others-one-more {X = X} items init i y others =
    drop-set-lt (i + 1) items i y (omega arith) ∙ (sym (drop-drop 1 i items) ∙ (ap (λ (zs : List X). drop 1 zs) others ∙ drop-drop 1 i init))

pub clocked-is : (now : ℕ) (e e' : EngineParts) → e'.entry ≡ e.entry → e'.level ≡ level_after_time e.entry.policy e.level (now - e.last)
    → e'.last ≡ max e.last now → e' ≡ clocked now e
clocked-is now e e' entry level last =
    ap {B = EngineParts} (λ (x : Entry). record { entry = x; level = e'.level; last = e'.last }) entry
    ∙ (ap {B = EngineParts} (λ (l : ℕ). record { entry = e.entry; level = l; last = e'.last }) level
    ∙ ap {B = EngineParts} (λ (m : ℕ). record { entry = e.entry; level = level_after_time e.entry.policy e.level (now - e.last); last = m }) last)
