-- Bytes that are written before others.
use Rattle.std.proofs.Common.{◌≡◌, ℕ, ◌+◌, ◌<◌, List, ◌++◌, length, drop, get_or, ap, sym, ◌∙◌, append_assoc}
use Rattle.std.specs.List.{flat_map}
use Rattle.std.proofs.lemmas.List.{drop_more}

-- two writes, the second before the first
pub front_both : (front back old middle new : List ℕ) → middle ≡ back ++ old → new ≡ front ++ middle → new ≡ (front ++ back) ++ old
front_both front back old middle new first second =
    second ∙ ap (λ bs. front ++ bs) first ∙ sym (append_assoc front back old)

module _ {X : Type 0} (f : X → List ℕ) where
  -- one part more
  pub front_more : (xs : List X) (i : ℕ) (x : X) (old middle new : List ℕ) → i < length xs → x ≡ get_or xs i x
      → middle ≡ flat_map f (drop (i + 1) xs) ++ old → new ≡ f x ++ middle → new ≡ flat_map f (drop i xs) ++ old
  front_more xs i x old middle new within is first second =
      front_both (f x) (flat_map f (drop (i + 1) xs)) old middle new first second
      ∙ ap (λ y. (f y ++ flat_map f (drop (i + 1) xs)) ++ old) is
      ∙ sym (ap (λ ys. flat_map f ys ++ old) (drop_more xs i x within))

  -- all parts
  pub front_all : (xs : List X) (i : ℕ) (bytes old new : List ℕ) → i ≡ 0 → flat_map f xs ≡ bytes → new ≡ flat_map f (drop i xs) ++ old → new ≡ bytes ++ old
  front_all xs i bytes old new first is all =
      all ∙ ap (λ k. flat_map f (drop k xs) ++ old) first ∙ ap (λ bs. bs ++ old) is
