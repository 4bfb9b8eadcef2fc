-- The code's own: the parts of a connection after they were reconciled.
use Rattle.std.specs.Prelude.{◌≡◌, ◌++◌, ℕ, Bool, List, Option, Some, None, true, false}
use mathlib.Core.List.{IsPrefix}
use Rattle.mrpc_base.specs.Failures.{HasRisen}
use Rattle.mrpc_base.specs.declared.clock.Clock.{Ghosts as ClockMembers}
use Rattle.mrpc_base.specs.declared.link.Link.{Ghosts as LinkMembers}
use Rattle.mrpc_base.specs.declared.tickets.Tickets.{Ghosts as TicketMembers}
use Rattle.tenant_quota.specs.Drawing.{Drawing}
use Rattle.app_stub.specs.Ports.{HasTakenUpToClose}
use Rattle.app_stub.specs.declared.port.AppEnd.{AppEnd}
use Rattle.app_stub.specs.declared.port.AppSent.{AppSent}
use Rattle.call_history.specs.Tickets.{tickets_of_trace}
use Rattle.conn_core.specs.Connections.{conn_trace, conn_frames}
use Rattle.message_delivery.specs.Noticing.{IsReclaiming, notices_of, number_ring_of, sent_numbers, ring_of}
use Rattle.descriptor_ring.specs.Rings.{AllSent}
use Rattle.link_queue.specs.Known.{HasGrownBy}
use Rattle.link_queue.specs.Queueing.{ClosedLinkState, QueueLinkState}
use Rattle.service_loop.specs.Calls.{timestamps_at_calls, timestamps_in}
use Rattle.service_loop.specs.Rounds.{IsEndpoint}
use Rattle.service_loop.specs.Serving.{AreSameSubmissions, IsServed}
use Rattle.service_loop.specs.declared.delivering.Deliveries.{Deliveries}
use Rattle.service_loop.specs.declared.visit_account.VisitAccount.{VisitAccount}
use Rattle.service_loop.specs.declared.submissions.Submissions.{Submissions}
use Rattle.service_wiring.specs.Closing.{IsLeftOf}
use Rattle.service_wiring.specs.declared.closed_connection.ClosedConnection.{ClosedConnection}
use Rattle.service_threads.specs.Closings.{ServedEndpoint}
use Rattle.service_threads.specs.declared.served.BoundConn.{BoundConn}
use Rattle.shared_heap.specs.Fresh.{Noting}

-- Relates an inner link to the closed link of its queue, and whether it failed.
pub record HasPassed {L : Type 0} (g : LinkMembers L) (start : L) (passed : ClosedLinkState) (failed : Bool) (now : L)
    : Type 0 where
  pub sent : List (List ℕ)
  pub came : List ℕ
  pub handed : g.handed now ≡ g.handed start ++ sent
  pub in_order : IsPrefix sent passed.handed
  pub all_handed : failed ≡ false → sent ≡ passed.handed
  pub given : HasGrownBy (g.given start) (g.given now) came
  pub given_first : IsPrefix passed.given came
  pub all_came : passed.ended ≡ true → passed.given ≡ came
  pub ended : passed.ended ≡ true → g.ended now ≡ true
  pub learnt : passed.failed ≡ true → failed ≡ true
  pub rose : failed ≡ true → HasRisen (g.failures start) (g.failures now)
  pub stays : failed ≡ false → g.failures now ≡ g.failures start
  pub since : (first : L) → g.since first start → g.since first now

-- The calls of a connection whose ring was closed, once all that was sent on it and all stores are known.
pub record KnowsAll (note : Noting) (sent : AllSent) (old new : Submissions) : Type 0 where
  pub served : IsServed new
  pub known : new.reader.known ≡ note.stores
  pub heap : new.reader.heap ≡ old.reader.heap
  pub taken : new.calls.taken ≡ sent.items
  pub conn : new.conn ≡ old.conn
  pub steps : new.steps.now ≡ old.steps.now
  pub finished : new.finished ≡ old.finished
  pub accepted : new.accepted ≡ old.accepted

-- The calls of a connection, given whether its link failed.
pub record IsFailedIf (failed : Bool) (old new : Submissions) : Type 0 where
  pub served : IsServed new
  pub same : AreSameSubmissions old new
  pub calls : new.calls ≡ old.calls
  pub frames : conn_frames new.conn ≡ conn_frames old.conn
  pub tickets : (tenant window : ℕ) → tickets_of_trace tenant window (conn_trace new.conn)
      ≡ tickets_of_trace tenant window (conn_trace old.conn)
  pub moments : timestamps_in (conn_trace new.conn) ≡ timestamps_in (conn_trace old.conn)
  pub at_calls : timestamps_at_calls (conn_trace new.conn) ≡ timestamps_at_calls (conn_trace old.conn)
  pub finished : new.finished ≡ old.finished
  pub accepted : new.accepted ≡ old.accepted
  pub ends : failed ≡ true → new.conn.ended ≡ true
  pub works : failed ≡ false → new.conn ≡ old.conn

-- What was left of a connection and of its application, before it is reconciled: the rings are theirs, and were
-- closed and taken to their ends.
pub record AreReconcilable (submissions : Submissions) (deliveries : Deliveries) (end : AppEnd) (sent : AppSent)
    : Type 0 where
  pub served : IsServed submissions
  pub heap : end.note.heap ≡ submissions.reader.heap
  pub last : end.note.last ≡ true
  pub calls : sent.calls.ring ≡ submissions.calls.ring
  pub calls_closed : submissions.calls.closed ≡ true
  pub no_notices : deliveries.notices.notices ≡ None
  pub no_blocks : deliveries.notices.blocks ≡ None
  pub notices : ring_of deliveries.notices.notices deliveries.notices.noticed ≡ Some end.notices.ring
  pub blocks : number_ring_of deliveries.notices.blocks deliveries.notices.numbered ≡ Some end.blocks.ring
  pub took : HasTakenUpToClose end
  pub reclaims : sent.reclaims.ring ≡ deliveries.reclaims.numbers.ring
  pub reclaims_closed : deliveries.reclaims.numbers.closed ≡ true

-- The same parts after they were reconciled.
pub record AreReconciled (submissions : Submissions) (deliveries : Deliveries) (began : Option VisitAccount)
    (end : AppEnd)
    (sent : AppSent) (failed : Bool) (b : BoundConn) : Type 0 where
  pub mid : Submissions
  pub fails : IsFailedIf failed submissions mid
  pub knows : KnowsAll end.note sent.calls mid b.submissions
  pub note : b.note ≡ end.note
  pub reader : b.reader ≡ end.reader
  pub arrivals : b.arrivals ≡ deliveries.arrivals
  pub share : b.share ≡ began
  pub notices : b.notices.taken ≡ end.notices.taken
  pub told : end.notices.taken ≡ notices_of deliveries.notices
  pub blocks : b.blocks.taken ≡ end.blocks.taken
  pub numbers : end.blocks.taken ≡ sent_numbers deliveries.notices
  pub returned : b.reclaims.numbers.taken ≡ sent.reclaims.items
  pub reclaiming : (numbers back : List ℕ) → IsReclaiming numbers back deliveries.reclaims
      → IsReclaiming numbers back b.reclaims

-- These are the parts of a connection whose invariant holds.
pub record WasClosed {C : Type 0} (of_clock : ClockMembers C) (of_quotas : TicketMembers (List Drawing))
    (of_link : LinkMembers QueueLinkState) (last : ServedEndpoint C) (closed : ClosedConnection) : Type 0 where
  pub whole : IsEndpoint of_clock of_quotas of_link last
  pub parts : IsLeftOf last closed
