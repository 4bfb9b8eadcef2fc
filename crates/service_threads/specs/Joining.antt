-- Seats of quotas that were split among connections, and joined again (this project's own).
use Rattle.std.specs.Prelude.{◌≡◌, ℕ, List, [], ◌∷◌, ◌++◌, map}
use Rattle.tenant_quota.specs.Drawing.{Drawing, all_after_join, kept_half, new_half}

-- each of these seats took half of the shares that the earlier ones left, and these remain
abbrev pub IsSeatSplit : List Drawing → List (List Drawing) → List Drawing → Type 0
IsSeatSplit whole [] rest = rest ≡ whole
IsSeatSplit whole (own ∷ owns) rest = (own ≡ map new_half whole) × IsSeatSplit (map kept_half whole) owns rest

-- seats after they joined the others, the last ones first
abbrev pub all_joined : List Drawing → List (List Drawing) → List Drawing
all_joined seats [] = seats
all_joined seats (own ∷ owns) = all_after_join (all_joined seats owns) own

-- tickets, followed by those of the others, the last ones first
abbrev pub joined_tickets : List ℕ → List (List ℕ) → List ℕ
joined_tickets before [] = before
joined_tickets before (tickets ∷ others) = joined_tickets before others ++ tickets
