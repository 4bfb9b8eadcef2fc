-- The members of a queue's link and of seats.
use Rattle.std.proofs.Common.{◌≡◌, ℕ, ◌<◌, List, [], ◌∷◌, length, Option, Some, None, refl, sym, append-nil}
use Rattle.std.specs.Prelude.{IsSomeAnd, MatchOption, slice_get}
use Rattle.std.proofs.lemmas.Slice.Zip.{AllZip-left}
use Rattle.mrpc_base.specs.declared.link.Link.{Ghosts as LinkMembers}
use Rattle.mrpc_base.specs.declared.tickets.Tickets.{Ghosts as TicketMembers}
use Rattle.tenant_quota.specs.Drawing.{AreLater, Drawing, IsLater, tickets_of_tenant, tickets_of_seat}
use Rattle.link_queue.specs.Queueing.{QueueLinkState}

-- the members are those of a link whose frames a writer sends on
pub record IsQueue (of_link : LinkMembers QueueLinkState) : Type 0 where
  pub handed : (l : QueueLinkState) → of_link.handed l ≡ l.handed
  pub given : (l : QueueLinkState) → of_link.given l ≡ Some l.given
  pub ended : (l : QueueLinkState) → of_link.ended l ≡ l.ended
  pub failures : (l : QueueLinkState) → of_link.failures l ≡ l.failures
  pub itself : (l : QueueLinkState) → of_link.since l l
  pub forward : (old new : QueueLinkState) → of_link.since old new → new.forward ≡ old.forward
  pub backward : (old new : QueueLinkState) → of_link.since old new → new.backward ≡ old.backward

-- the members are those of seats of the quotas of tenants
pub record AreSeats (of_quotas : TicketMembers (List Drawing)) : Type 0 where
  pub knows : (seats : List Drawing) (tenant : ℕ) → tenant < length seats → of_quotas.knows seats tenant
  pub drawn : (seats : List Drawing) (tenant window : ℕ) → of_quotas.drawn seats tenant window
      ≡ tickets_of_tenant seats tenant window
  pub itself : (seats : List Drawing) → of_quotas.since seats seats
  pub later : (old new : List Drawing) → of_quotas.since old new → AreLater old new

-- seats are a later state of themselves
pub seats-stay : (seats : List Drawing) → AreLater seats seats
seats-stay [] = tt
seats-stay (seat ∷ seats) =
    (record { quota = refl; share = refl; draws = ([], sym (append-nil seat.draws)) }, seats-stay seats)

-- a seat beside one with known tickets has known tickets too
tells-too : (old new : Option Drawing) (window : ℕ) (before : List ℕ) → tickets_of_seat window old ≡ Some before
    → MatchOption old (Unit {0}) (λ seat. IsSomeAnd new (IsLater seat))
    → (now : List ℕ) × (tickets_of_seat window new ≡ Some now)
tells-too None new window before told beside = absurd cc
tells-too (Some seat) None window before told beside = absurd beside
tells-too (Some seat) (Some later) window before told beside = (_, refl)

-- later seats belong to as many tenants, so their tickets are known
pub told-later : (old new : List Drawing) (tenant window : ℕ) (before : List ℕ) → AreLater old new
    → tickets_of_tenant old tenant window ≡ Some before → (now : List ℕ) × (tickets_of_tenant new tenant window ≡ Some now)
told-later old new tenant window before later told =
    tells-too (slice_get old tenant) (slice_get new tenant) window before told (AllZip-left IsLater old new later tenant)
