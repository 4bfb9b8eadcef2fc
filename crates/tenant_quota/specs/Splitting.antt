-- The code's own: seats of which a prefix is split, and others that are joined.
use Rattle.std.specs.Prelude.{◌≡◌, ℕ, zero, suc, List, [], ◌∷◌, ⊤}
use Rattle.tenant_quota.specs.Drawing.{Drawing, kept_half, new_half}

abbrev pub split_prefix : ℕ → List Drawing → List Drawing
split_prefix zero seats = seats
split_prefix (suc n) [] = []
split_prefix (suc n) (s ∷ seats) = kept_half s ∷ split_prefix n seats

abbrev pub halves_of : ℕ → List Drawing → List Drawing
halves_of zero seats = []
halves_of (suc n) [] = []
halves_of (suc n) (s ∷ seats) = new_half s ∷ halves_of n seats

-- the first `count` of some seats were split, and these are the halves
pub record AreSplit (old : List Drawing) (count : ℕ) (new halves : List Drawing) : Type 0 where
  pub kept : new ≡ split_prefix count old
  pub given : halves ≡ halves_of count old

-- for each of the others there is a seat at its index, of the same quota
abbrev pub AreOfQuotas : List Drawing → List Drawing → Type 0
AreOfQuotas seats [] = ⊤
AreOfQuotas [] (other ∷ others) = ⊥
AreOfQuotas (seat ∷ seats) (other ∷ others) = (other.quota ≡ seat.quota) × AreOfQuotas seats others
