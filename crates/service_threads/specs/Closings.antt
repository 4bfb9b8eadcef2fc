-- What the threads of a run leave of a bound connection (this project's own).
use Rattle.std.specs.Prelude.{◌≡◌, List, [], ◌∷◌}
use Rattle.mrpc_base.specs.declared.clock.Clock.{Ghosts as ClockMembers}
use Rattle.mrpc_base.specs.declared.link.Link.{Ghosts as LinkMembers}
use Rattle.mrpc_base.specs.declared.tickets.Tickets.{Ghosts as TicketMembers}
use Rattle.tenant_quota.specs.Drawing.{Drawing}
use Rattle.app_stub.specs.declared.port.AppEnd.{AppEnd}
use Rattle.link_queue.specs.Queueing.{QueueLinkState}
use Rattle.link_queue.specs.Writers.{end_backward, end_forward, inner_start_of, writer_backward, writer_forward, writer_start}
use Rattle.link_queue.specs.declared.writer.QueueWriter.{QueueWriter}
use Rattle.link_queue.specs.declared.writer_end.WriterEnd.{WriterEnd}
use Rattle.run_plan.specs.declared.application.Application.{Application}
use Rattle.run_plan.specs.declared.plan.Plan.{Plan}
use Rattle.service_loop.specs.Rounds.{IsEndpoint}
use Rattle.service_loop.specs.declared.endpoint.Endpoint.{Endpoint}
use Rattle.service_wiring.specs.Applications.{IsEndOf}
use Rattle.service_wiring.specs.Pooling.{IsLaterEndpoint, IsRetired}
use Rattle.service_wiring.specs.Closing.{IsLeftOf}
use Rattle.service_wiring.specs.Wired.{ConnectionStart, IsWired, IsWiredConn, IsWiredTask}
use Rattle.service_wiring.specs.declared.applications.AppTask.{AppTask}
use Rattle.service_wiring.specs.declared.closed_connection.ClosedConnection.{ClosedConnection}

-- a connection of a run: its numbers in the plan, its clock, its quotas, and a link whose frames a writer sends on
abbrev pub ServedEndpoint : Type 0 → Type 0
ServedEndpoint C = Endpoint C (List Drawing) QueueLinkState

-- the initial state of a bound connection: by the plan, for one of its applications, after the handshake
pub record Opening (C L : Type 0) : Type 0 where
  pub plan : Plan
  pub app : Application
  pub begun : ConnectionStart C L

-- connections, the tasks of their applications and the writers of their links were wired from these openings, in
-- order
abbrev pub AreWired : {C R L : Type 0} {g : LinkMembers L} → List (Opening C L) → List (ServedEndpoint C) → List AppTask
    → List (QueueWriter R L g) → Type 0
AreWired [] [] [] [] = Unit {0}
AreWired (o ∷ openings) (item ∷ items) (job ∷ jobs) (writer ∷ writers) =
    IsWired o.plan o.app o.begun item job writer × AreWired openings items jobs writers
AreWired _ _ _ _ = ⊥

-- what a writer left: the inner link is the one that the writer was made with, and its queues are the same
pub record IsWrittenBy {R L : Type 0} {g : LinkMembers L} (writer : QueueWriter R L g) (end : WriterEnd L g) : Type 0
  where
    pub start : inner_start_of end ≡ writer_start writer
    pub forward : end_forward end ≡ writer_forward writer
    pub backward : end_backward end ≡ writer_backward writer

module _ {C : Type 0} (of_clock : ClockMembers C) (of_quotas : TicketMembers (List Drawing))
    (of_link : LinkMembers QueueLinkState) where
  -- These are the parts of a finished, later state of the first connection. Nothing is known of them if it ran out of
  -- memory.
  pub record IsClosedOf (first : ServedEndpoint C) (closed : ClosedConnection) : Type 0 where
    pub last : ServedEndpoint C
    pub turned : IsLaterEndpoint of_clock of_quotas of_link first last
    pub whole : IsEndpoint of_clock of_quotas of_link last
    pub done : IsRetired of_clock of_quotas of_link last
    pub parts : IsLeftOf last closed

  -- What is left of a connection with this opening: of its own part, of its application, and of the writer of its
  -- link.
  pub record IsLeft {L : Type 0} {g : LinkMembers L} (opening : Opening C L) (closed : ClosedConnection) (end : AppEnd)
      (writer : WriterEnd L g) : Type 0 where
    pub first : ServedEndpoint C
    pub job : AppTask
    pub conn : IsWiredConn opening.plan opening.app opening.begun first
    pub app_job : IsWiredTask opening.plan opening.app opening.begun first job
    pub handed : first.link.handed ≡ []
    pub given : first.link.given ≡ []
    pub failures : first.link.failures ≡ 0
    pub closed_of : IsClosedOf first closed
    pub end_of : IsEndOf job end
    pub start : inner_start_of writer ≡ opening.begun.link
    pub forward : end_forward writer ≡ first.link.forward
    pub backward : end_backward writer ≡ first.link.backward

  -- what is left of each connection, in the order of their openings
  abbrev pub AreLeft : {L : Type 0} {g : LinkMembers L} → List (Opening C L) → List ClosedConnection → List AppEnd
      → List (WriterEnd L g) → Type 0
  AreLeft [] [] [] [] = Unit {0}
  AreLeft (o ∷ openings) (closed ∷ all_closed) (end ∷ ends) (writer ∷ writers) =
      IsLeft o closed end writer × AreLeft openings all_closed ends writers
  AreLeft _ _ _ _ = ⊥
