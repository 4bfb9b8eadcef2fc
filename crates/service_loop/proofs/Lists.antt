-- Lists.
use Rattle.std.proofs.Common.{◌≡◌, ℕ, ◌+◌, ◌<◌, suc, List, [], ◌∷◌, ◌++◌, length, map, take, drop, ap, ◌∙◌, add-one, get_or}
use Rattle.std.specs.Prelude.{All, Some, slice_get}
use Rattle.std.specs.List.{AllZip}
use Rattle.std.proofs.Math.Seq.{take-suc, drop-cons}
use Rattle.std.proofs.lemmas.List.Elements.{All-cons, All-head, All-nil, All-tail}
use Rattle.std.proofs.lemmas.Option.{slice_get_within, get_or_from_slice_get}

pub all-of-map : {X Y : Type 0} (P : Y → Type 0) (f : X → Y) (xs : List X) → All P (map f xs) → All (λ x. P (f x)) xs
all-of-map P f [] all = All-nil (λ x. P (f x))
all-of-map P f (x ∷ xs) all =
    All-cons (λ x. P (f x)) x xs (All-head P (f x) (map f xs) all) (all-of-map P f xs (All-tail P (f x) (map f xs) all))

-- a list at one of its indices
pub record IsAt {X : Type 0} (xs : List X) (i : ℕ) (x : X) : Type 0 where
  pub within : i < length xs
  pub upto : take (i + 1) xs ≡ take i xs ++ x ∷ []
  pub from : drop i xs ≡ x ∷ drop (i + 1) xs

pub is-at : {X : Type 0} (xs : List X) (i : ℕ) (x : X) → slice_get xs i ≡ Some x → IsAt xs i x
is-at xs i x is =
    let within : i < length xs = slice_get_within xs i x is in
    let same : get_or xs i x ≡ x = get_or_from_slice_get xs i x x is in
    record {
      within = within;
      upto = rw add-one (take-suc xs i x within ∙ ap (λ y. take i xs ++ y ∷ []) same);
      from = rw add-one (drop-cons xs i x within ∙ ap (λ y. y ∷ drop (suc i) xs) same);
    }

-- one more pair
pub zip-push : {X Y : Type 0} (R : X → Y → Type 0) (xs : List X) (ys : List Y) (x : X) (y : Y) → AllZip R xs ys → R x y
    → AllZip R (xs ++ x ∷ []) (ys ++ y ∷ [])
zip-push R [] [] x y zip last = (last, tt)
zip-push R [] (b ∷ ys) x y zip last = absurd zip
zip-push R (a ∷ xs) [] x y zip last = absurd zip
zip-push R (a ∷ xs) (b ∷ ys) x y zip last = (zip.0, zip-push R xs ys x y zip.1 last)
