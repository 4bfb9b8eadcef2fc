-- The last element of a list.
use Rattle.std.proofs.Common.{◌≡◌, ℕ, ◌-◌, List, [], ◌++◌, length, map, Some, refl, ap, ◌∙◌}
use Rattle.std.specs.Prelude.{option_map, slice_get}
use Rattle.std.proofs.lemmas.List.{append-nil, length-map}
use Rattle.std.proofs.lemmas.Option.{slice_get-map}
use Rattle.table_text.specs.LineTests.{is_below_last, is_below, last_of}

pub last-map : {X Y : Type 0} (f : X → Y) (xs : List X) → last_of (map f xs) ≡ option_map f (last_of xs)
last-map f xs = rw length-map (slice_get-map f xs (length xs - 1))

pub falls_last : {X : Type 0} (f : X → List ℕ) (name : List ℕ) (xs : List X) (x : X) → slice_get xs (length xs - 1) ≡ Some x → is_below name (f x) ≡ is_below_last name (map f xs ++ [])
falls_last f name xs x e =
    let last : last_of (map f xs ++ []) ≡ Some (f x) = ap last_of (append-nil (map f xs)) ∙ last-map f xs ∙ ap (option_map f) e in
    rw last refl
