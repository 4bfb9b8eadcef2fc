-- Lists that have two items of each pair.
use Rattle.std.proofs.Common.{List, [], ◌∷◌, ◌++◌}
use Rattle.std.specs.List.{AllZip}
use Rattle.service.specs.Served.{ArePairs}

module _ {A L : Type 0} (link : A → L) (pair : L → L → Type 0) where
  pub pairs-push : (xs : List A) (a b : A) → ArePairs link pair xs → pair (link a) (link b)
      → ArePairs link pair (xs ++ a ∷ b ∷ [])
  pairs-push [] a b pairs here = (here, tt)
  pairs-push (x ∷ []) a b pairs here = absurd pairs
  pairs-push (x ∷ y ∷ xs) a b pairs here = (pairs.0, pairs-push xs a b pairs.1 here)

  -- pairs stay pairs if each link is a later state of its earlier one
  pub pairs-later : {B : Type 0} (link' : B → L) (since : L → L → Type 0) → ((l : L) → since l l)
      → ((a b c d : L) → pair a b → since a c → since b d → pair c d) → (xs : List A) (ys : List B)
      → AllZip (λ x y. (first : L) → since first (link x) → since first (link' y)) xs ys → ArePairs link pair xs
      → ArePairs link' pair ys
  pairs-later link' since itself stays [] [] zip pairs = tt
  pairs-later link' since itself stays [] (y ∷ ys) zip pairs = absurd zip
  pairs-later link' since itself stays (x ∷ xs) [] zip pairs = absurd zip
  pairs-later link' since itself stays (x ∷ []) (y ∷ ys) zip pairs = absurd pairs
  pairs-later link' since itself stays (x ∷ w ∷ xs) (y ∷ []) zip pairs = absurd zip.1
  pairs-later link' since itself stays (x ∷ w ∷ xs) (y ∷ z ∷ ys) zip pairs = (
    stays (link x) (link w) (link' y) (link' z) pairs.0 (zip.0 (link x) (itself (link x)))
        (zip.1.0 (link w) (itself (link w))),
    pairs-later link' since itself stays xs ys zip.1.1 pairs.1,
  )
