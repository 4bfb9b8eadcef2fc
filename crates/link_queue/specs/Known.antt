-- An inner link since its writer got it.
use Rattle.std.specs.Prelude.{◌≡◌, ℕ, List, ◌++◌, Option, Some, drop, take, length}

-- if the earlier bytes are known, the later ones are those followed by `bytes`
abbrev pub HasGrownBy : Option (List ℕ) → Option (List ℕ) → List ℕ → Type 0
HasGrownBy old new bytes = (known : List ℕ) → old ≡ Some known → new ≡ Some (known ++ bytes)

-- a link as its writer got it, and as it is now
pub record LinkProgress (L : Type 0) : Type 0 where
  pub start : L
  pub now : L

-- the frames that were sent since, if `old` were sent before and `new` are all that are sent now
abbrev pub frames_since : List (List ℕ) → List (List ℕ) → List (List ℕ)
frames_since old new = drop (length old) new

-- `front` is a prefix of the list
abbrev pub IsPrefix : {A : Type 0} → List A → List A → Type 0
IsPrefix xs front = take (length front) xs ≡ front
