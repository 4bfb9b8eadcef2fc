-- A connection that workers visit among others (this project's own).
use Rattle.std.specs.Prelude.{◌≡◌, false}
use Rattle.mrpc_base.specs.declared.clock.Clock.{Ghosts as ClockMembers}
use Rattle.mrpc_base.specs.declared.link.Link.{Ghosts as LinkMembers}
use Rattle.mrpc_base.specs.declared.tickets.Tickets.{Ghosts as TicketMembers}
use Rattle.service_loop.specs.Rounds.{HasAdvanced, IsFinished, HasSameIdentity}
use Rattle.service_loop.specs.declared.endpoint.Endpoint.{Endpoint}

module _ {C Q L : Type 0} (of_clock : ClockMembers C) (of_quotas : TicketMembers Q) (of_link : LinkMembers L) where
  -- the second is a later state of the first: it keeps what a connection keeps, and unless it ran out of memory it
  -- has advanced
  pub record IsLaterEndpoint (old new : Endpoint C Q L) : Type 0 where
    pub same : HasSameIdentity of_clock of_quotas of_link old new
    pub memory : new.memory ≡ false → old.memory ≡ false
    pub goes_on : new.memory ≡ false → HasAdvanced of_clock of_quotas of_link old new

  -- it gets no further visit: it is finished, or ran out of memory
  abbrev pub IsRetired : Endpoint C Q L → Type 0
  IsRetired e = e.memory ≡ false → IsFinished of_clock of_quotas of_link e
