-- The tickets of a quota, as the seats of its table have drawn them.
use Rattle.std.specs.Prelude.{◌≡◌, ℕ, ◌+◌, ◌-◌, ◌*◌, ◌/◌, ◌<◌, ◌≤◌, ◌^◌, ◌==◌, nat_lt, List, [], ◌∷◌, ◌++◌, map, filter, length, count_by, IsPermutation, Option, Some, None, slice_get}
use Rattle.std.specs.List.{AllZip, range_with_len}
use Rattle.atomic_table.specs.Seated.{TableId}

-- the identity of a quota, with its number of windows
abbrev pub QuotaId : Type 0
QuotaId = TableId

-- the tickets of the draws in a window, in list order
abbrev pub tickets_in : ℕ → List (ℕ × ℕ) → List ℕ
tickets_in window draws = map (λ draw. draw.1) (filter (λ draw. draw.0 == window) draws)

-- tickets are the numbers from 0, each once, in some order
abbrev pub IsPermutationOfRange : List ℕ → Type 0
IsPermutationOfRange tickets = IsPermutation (range_with_len 0 (length tickets)) tickets

-- all shares of a quota
abbrev pub all_shares : ℕ
all_shares = 2 ^ 64

-- in each of the `windows` windows, the tickets are the numbers from 0, each once, provided that they are fewer than
-- 2^64
abbrev pub AreAllDrawn : ℕ → List (ℕ × ℕ) → Type 0
AreAllDrawn windows draws = (window : ℕ) → window < windows → length (tickets_in window draws) < 2 ^ 64
    → IsPermutationOfRange (tickets_in window draws)

-- a seat of a quota
pub record Drawing : Type 0 where
  pub quota : QuotaId
  -- the draws of the seat, and of the seats that were joined to it: the window, and the ticket
  pub draws : List (ℕ × ℕ)
  -- its share of the quota; all seats have 2^64 together, and each has at least one
  pub share : ℕ

-- the number of tickets below a cap: the number of calls that it allows
abbrev pub allowed_by_cap : ℕ → List ℕ → ℕ
allowed_by_cap cap tickets = count_by (λ ticket. nat_lt ticket cap) tickets

-- the tickets of an optional seat, in a window
abbrev pub tickets_of_seat : ℕ → Option Drawing → Option (List ℕ)
tickets_of_seat window None = None
tickets_of_seat window (Some seat) = Some (tickets_in window seat.draws)

-- the tickets of a tenant's seat in a window; the tenant is the index in the list
abbrev pub tickets_of_tenant : List Drawing → ℕ → ℕ → Option (List ℕ)
tickets_of_tenant seats tenant window = tickets_of_seat window (slice_get seats tenant)

-- the second seat is a later state of the first: it may have drawn more
pub record IsLater (old new : Drawing) : Type 0 where
  pub quota : new.quota ≡ old.quota
  pub share : new.share ≡ old.share
  pub draws : (more : List (ℕ × ℕ)) × (new.draws ≡ old.draws ++ more)

-- as many seats, each a later state of the one at its index
abbrev pub AreLater : List Drawing → List Drawing → Type 0
AreLater old new = AllZip IsLater old new

-- the quotas and the shares of some seats, in order
abbrev pub quotas_of : List Drawing → List QuotaId
quotas_of seats = map (λ seat. seat.quota) seats

abbrev pub shares_of : List Drawing → List ℕ
shares_of seats = map (λ seat. seat.share) seats

-- a seat after a split, and the seat that is split off; the latter has half of the share, rounded down
abbrev pub kept_half : Drawing → Drawing
kept_half seat = record { quota = seat.quota; draws = seat.draws; share = seat.share - seat.share / 2 }

abbrev pub new_half : Drawing → Drawing
new_half seat = record { quota = seat.quota; draws = []; share = seat.share / 2 }

-- a seat after it joined another one of its quota
abbrev pub after_join : Drawing → Drawing → Drawing
after_join seat other = record {
  quota = seat.quota;
  draws = seat.draws ++ other.draws;
  share = seat.share + other.share;
}

-- each seat after it joined the one at its index, if there is one
abbrev pub all_after_join : List Drawing → List Drawing → List Drawing
all_after_join [] others = []
all_after_join (seat ∷ seats) [] = seat ∷ seats
all_after_join (seat ∷ seats) (other ∷ others) = after_join seat other ∷ all_after_join seats others

-- a share that can remain of all shares after at most `times` halvings
abbrev pub IsShareAfter : ℕ → ℕ → Type 0
IsShareAfter times share = all_shares ≤ share * 2 ^ times
