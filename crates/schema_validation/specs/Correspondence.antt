-- Two lists that correspond.
use Rattle.std.specs.Prelude.{List, [], ◌∷◌, Contains}

-- each element of a list corresponds to one of the other, and the other way round
pub record AreCorresponding {X Y : Type 0} (R : X → Y → Type 0) (xs : List X) (ys : List Y) : Type 0 where
  pub each : (x : X) → Contains xs x → (y : Y) × Contains ys y × R x y
  pub alone : (y : Y) → Contains ys y → (x : X) × Contains xs x × R x y

-- the elements correspond in order
pub data AreCorrespondingInOrder {X Y : Type 0} (R : X → Y → Type 0) : List X → List Y → Type 0 where
  none : AreCorrespondingInOrder R [] []
  next : {x : X} {y : Y} {xs : List X} {ys : List Y} → R x y → AreCorrespondingInOrder R xs ys
      → AreCorrespondingInOrder R (x ∷ xs) (y ∷ ys)
