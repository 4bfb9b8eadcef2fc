-- Connections that were visited, and then closed.
use Rattle.std.proofs.Common.{List, [], ◌∷◌}
use Rattle.std.specs.Prelude.{All}
use Rattle.std.specs.List.{AllZip}
use Rattle.std.proofs.lemmas.List.Elements.{All-head, All-tail}
use Rattle.mrpc_base.specs.declared.clock.Clock.{Ghosts as ClockMembers}
use Rattle.mrpc_base.specs.declared.link.Link.{Ghosts as LinkMembers}
use Rattle.mrpc_base.specs.declared.tickets.Tickets.{Ghosts as TicketMembers}
use Rattle.tenant_quota.specs.Drawing.{Drawing}
use Rattle.link_queue.specs.Queueing.{QueueLinkState}
use Rattle.service_wiring.specs.Pooling.{IsLaterEndpoint, IsRetired}
use Rattle.service_wiring.specs.declared.closed_connection.ClosedConnection.{ClosedConnection}
use Rattle.service_threads.specs.Closings.{IsClosedOf, ServedEndpoint}
use Rattle.service_threads.specs.Parts.{WasClosed}

module _ {C : Type 0} (of_clock : ClockMembers C) (of_quotas : TicketMembers (List Drawing))
    (of_link : LinkMembers QueueLinkState) where
  -- each is a later state of its initial one, and finished unless it ran out of memory
  pub all-closed : (firsts lasts : List (ServedEndpoint C)) (all : List ClosedConnection)
      → AllZip (IsLaterEndpoint of_clock of_quotas of_link) firsts lasts → All (IsRetired of_clock of_quotas of_link) lasts
      → AllZip (WasClosed of_clock of_quotas of_link) lasts all
      → AllZip (IsClosedOf of_clock of_quotas of_link) firsts all
  all-closed [] [] [] turned done closed = tt
  all-closed [] [] (x ∷ all) turned done closed = absurd closed
  all-closed [] (last ∷ lasts) all turned done closed = absurd turned
  all-closed (first ∷ firsts) [] all turned done closed = absurd turned
  all-closed (first ∷ firsts) (last ∷ lasts) [] turned done closed = absurd closed
  all-closed (first ∷ firsts) (last ∷ lasts) (x ∷ all) turned done closed = (
    record {
      last = last;
      turned = turned.0;
      whole = closed.0.whole;
      done = All-head (IsRetired of_clock of_quotas of_link) last lasts done;
      parts = closed.0.parts;
    },
    all-closed firsts lasts all turned.1 (All-tail (IsRetired of_clock of_quotas of_link) last lasts done) closed.1,
  )
