-- The code's own: two links that were returned to a fabric.
use Rattle.std.specs.Prelude.{ℕ, List, [], ◌∷◌}

-- two entries, whose links are the ends of one link
abbrev pub AreTwo : {L : Type 0} → (L → L → Type 0) → List (ℕ × L) → Type 0
AreTwo pair [] = ⊥
AreTwo pair (a ∷ []) = ⊥
AreTwo pair (a ∷ b ∷ []) = pair a.1 b.1
AreTwo pair (a ∷ b ∷ c ∷ more) = ⊥
