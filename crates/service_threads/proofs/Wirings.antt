-- What the threads leave of connections that were wired.
use Rattle.std.proofs.Common.{List, [], ◌∷◌, sym, ◌∙◌}
use Rattle.std.specs.Prelude.{All}
use Rattle.std.specs.List.{AllZip}
use Rattle.std.proofs.lemmas.List.Elements.{All-cons, All-nil}
use Rattle.mrpc_base.specs.declared.clock.Clock.{Ghosts as ClockMembers}
use Rattle.mrpc_base.specs.declared.link.Link.{Ghosts as LinkMembers}
use Rattle.mrpc_base.specs.declared.tickets.Tickets.{Ghosts as TicketMembers}
use Rattle.tenant_quota.specs.Drawing.{Drawing}
use Rattle.app_stub.specs.declared.port.AppEnd.{AppEnd}
use Rattle.link_queue.specs.Queueing.{QueueLinkState}
use Rattle.link_queue.specs.declared.writer.QueueWriter.{QueueWriter}
use Rattle.link_queue.specs.declared.writer_end.WriterEnd.{WriterEnd}
use Rattle.service_wiring.specs.Applications.{IsEndOf, IsAppTask}
use Rattle.service_wiring.specs.Wired.{IsWired}
use Rattle.service_wiring.specs.declared.applications.AppTask.{AppTask}
use Rattle.service_wiring.specs.declared.closed_connection.ClosedConnection.{ClosedConnection}
use Rattle.service_threads.specs.Closings.{AreLeft, AreWired, IsClosedOf, IsLeft, IsWrittenBy, ServedEndpoint, Opening}

module _ {C R L : Type 0} {g : LinkMembers L} where
  -- the tasks of wired applications may run
  pub jobs-of : (openings : List (Opening C L)) (items : List (ServedEndpoint C)) (jobs : List AppTask)
      (writers : List (QueueWriter R L g)) → AreWired openings items jobs writers → All IsAppTask jobs
  jobs-of [] [] [] [] wired = All-nil IsAppTask
  jobs-of [] [] [] (x ∷ writers) wired = absurd wired
  jobs-of [] [] (x ∷ jobs) writers wired = absurd wired
  jobs-of [] (x ∷ items) jobs writers wired = absurd wired
  jobs-of (o ∷ openings) [] jobs writers wired = absurd wired
  jobs-of (o ∷ openings) (item ∷ items) [] writers wired = absurd wired
  jobs-of (o ∷ openings) (item ∷ items) (job ∷ jobs) [] wired = absurd wired
  jobs-of (o ∷ openings) (item ∷ items) (job ∷ jobs) (writer ∷ writers) wired =
      All-cons IsAppTask job jobs wired.0.app_job.is_task (jobs-of openings items jobs writers wired.1)

module _ {C R L : Type 0} (of_clock : ClockMembers C) (of_quotas : TicketMembers (List Drawing))
    (of_link : LinkMembers QueueLinkState) {g : LinkMembers L} where
  one-left : (o : Opening C L) (item : ServedEndpoint C) (job : AppTask) (writer : QueueWriter R L g) (closed : ClosedConnection)
      (end : AppEnd) (last : WriterEnd L g) → IsWired o.plan o.app o.begun item job writer
      → IsClosedOf of_clock of_quotas of_link item closed → IsEndOf job end → IsWrittenBy writer last
      → IsLeft of_clock of_quotas of_link o closed end last
  one-left o item job writer closed end last wired closed_of end_of by = record {
    first = item;
    job = job;
    conn = wired.conn;
    app_job = wired.app_job;
    handed = wired.link.handed;
    given = wired.link.given;
    failures = wired.link.failures;
    closed_of = closed_of;
    end_of = end_of;
    start = by.start ∙ wired.link.start;
    forward = by.forward ∙ sym wired.link.forward;
    backward = by.backward ∙ sym wired.link.backward;
  }

  -- what is left of each is that of the connection that was wired
  pub all-left : (openings : List (Opening C L)) (items : List (ServedEndpoint C)) (jobs : List AppTask)
      (writers : List (QueueWriter R L g)) (all : List ClosedConnection) (ends : List AppEnd) (lasts : List (WriterEnd L g))
      → AreWired openings items jobs writers → AllZip (IsClosedOf of_clock of_quotas of_link) items all
      → AllZip IsEndOf jobs ends → AllZip IsWrittenBy writers lasts
      → AreLeft of_clock of_quotas of_link openings all ends lasts
  all-left [] [] [] [] [] [] [] wired closed end written = tt
  all-left [] [] [] [] (x ∷ all) ends lasts wired closed end written = absurd closed
  all-left [] [] [] [] [] (x ∷ ends) lasts wired closed end written = absurd end
  all-left [] [] [] [] [] [] (x ∷ lasts) wired closed end written = absurd written
  all-left [] [] [] (x ∷ writers) all ends lasts wired closed end written = absurd wired
  all-left [] [] (x ∷ jobs) writers all ends lasts wired closed end written = absurd wired
  all-left [] (x ∷ items) jobs writers all ends lasts wired closed end written = absurd wired
  all-left (o ∷ openings) [] jobs writers all ends lasts wired closed end written = absurd wired
  all-left (o ∷ openings) (item ∷ items) [] writers all ends lasts wired closed end written = absurd wired
  all-left (o ∷ openings) (item ∷ items) (job ∷ jobs) [] all ends lasts wired closed end written = absurd wired
  all-left (o ∷ openings) (item ∷ items) (job ∷ jobs) (writer ∷ writers) [] ends lasts wired closed end written =
      absurd closed
  all-left (o ∷ openings) (item ∷ items) (job ∷ jobs) (writer ∷ writers) (x ∷ all) [] lasts wired closed end written =
      absurd end
  all-left (o ∷ openings) (item ∷ items) (job ∷ jobs) (writer ∷ writers) (x ∷ all) (e ∷ ends) [] wired closed end
      written = absurd written
  all-left (o ∷ openings) (item ∷ items) (job ∷ jobs) (writer ∷ writers) (x ∷ all) (e ∷ ends) (last ∷ lasts) wired
      closed end written = (
        one-left o item job writer x e last wired.0 closed.0 end.0 written.0,
        all-left openings items jobs writers all ends lasts wired.1 closed.1 end.1 written.1,
      )
