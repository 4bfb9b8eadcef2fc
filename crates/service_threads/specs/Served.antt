-- What a run did on a bound connection (this project's own).
use Rattle.std.specs.Prelude.{◌≡◌, ◌≤◌, ◌<◌, ◌^◌, ℕ, List, [], ◌++◌, All, length, map, None, Some, IsPermutation, IsTrue, true, false}
use Rattle.std.specs.List.{AllZip}
use mathlib.Core.List.{IsPrefix}
use Rattle.mrpc_base.specs.Failures.{HasRisen}
use Rattle.mrpc_base.specs.declared.clock.Clock.{Ghosts as ClockMembers}
use Rattle.mrpc_base.specs.declared.link.Link.{Ghosts as LinkMembers}
use Rattle.mrpc_base.specs.declared.tickets.TheConstants.{WINDOWS}
use Rattle.call_history.specs.Trace.{taken}
use Rattle.call_history.specs.Tickets.{tickets_of_trace}
use Rattle.conn_core.specs.Connections.{conn_trace, conn_frames}
use Rattle.receive_core.specs.ReceiverTraces.{ReceiverTrace}
use Rattle.tenant_quota.specs.Drawing.{AreLater, Drawing, tickets_of_tenant}
use Rattle.message_delivery.specs.Arriving.{HaveSameIdentity, IsComplete, IsArrivalTrace}
use Rattle.message_delivery.specs.Noticing.{IsReclaiming, IsNoticeOf}
use Rattle.message_delivery.specs.declared.arrivals.StreamState.TheVariants.{Ended, Failed}
use Rattle.app_program.specs.Programs.{Submission, program_reclaims, program_stores, program_submits}
use Rattle.app_stub.specs.Echoing.{Echo, HasEchoed}
use Rattle.app_stub.specs.Serving.{all_served_replies, all_served_stores, blocks_of, submission_of}
use Rattle.link_queue.specs.Known.{HasGrownBy}
use Rattle.qos_order.specs.Account.{IsBalanced}
use Rattle.run_plan.specs.Chains.{app_table}
use Rattle.run_plan.specs.declared.application.Application.{Application}
use Rattle.run_plan.specs.declared.application.Role.{Role}
use Rattle.run_plan.specs.declared.application.Role.TheVariants as role
use Rattle.run_plan.specs.declared.plan.Plan.{Plan}
use Rattle.service_loop.specs.Calls.{timestamps_at_calls, timestamps_in}
use Rattle.service_loop.specs.Delivering.{IsLaterTrace, held_numbers, message_blocks, placed_messages_of}
use Rattle.service_loop.specs.Serving.{IsServed}
use Rattle.service_loop.specs.declared.visit_account.VisitAccount.{VisitAccount}
use Rattle.service_threads.specs.Closings.{Opening}
use Rattle.service_threads.specs.declared.served.BoundConn.{BoundConn}

-- ---- the application

-- these stores were made, these calls submitted and all taken by the service, and these block numbers came back
pub record HasMade (stores : List (ℕ × ℕ)) (calls : List Submission) (blocks : List ℕ) (b : BoundConn) : Type 0 where
  pub stored : b.note.stores ≡ stores
  pub submitted : map submission_of b.submissions.calls.taken ≡ calls
  pub returned : b.reclaims.numbers.taken ≡ blocks

-- an echo's heaps and ring
abbrev pub echo_on : {C L : Type 0} → Opening C L → Echo
echo_on o = record {
  table = app_table o.plan o.app;
  heap = o.app.heap;
  receive = o.begun.reader.heap.words;
  ring = o.app.ring;
}

-- What the application of a role did. The stores and calls of a client are those of its program. Those of a server are
-- its program's for each request that it was notified of, and those of an echo are its copies'. Each gave back the
-- block of each notice, and a client those of its program before.
abbrev pub HasRunAs : Role → Echo → BoundConn → Type 0
HasRunAs (role.Client program) e b = HasMade (program_stores program) (program_submits 0 program)
    (program_reclaims program ++ blocks_of b.notices.taken b.blocks.taken) b
HasRunAs (role.Server program) e b = HasMade (all_served_stores program b.notices.taken)
    (all_served_replies program 0 b.notices.taken) (blocks_of b.notices.taken b.blocks.taken) b
HasRunAs role.Echo e b =
    HasEchoed e b.notices.taken b.note.stores (map submission_of b.submissions.calls.taken) b.reader
    × (b.reclaims.numbers.taken ≡ blocks_of b.notices.taken b.blocks.taken)

-- ---- its rounds

-- The account of a connection with this weight: the rounds of all visits were given, kept or dropped. While visits
-- are counted, at least as many rounds were given as calls were taken.
pub record WasVisited (weight : ℕ) (b : BoundConn) (share : VisitAccount) : Type 0 where
  pub weight_is : share.weight ≡ weight
  pub balanced : IsBalanced weight share.account
  pub rounds : share.account.visits < 2 ^ 40 → length (taken (conn_trace b.submissions.conn)) ≤ share.account.rounds

-- if the plan's connections are weighted, the connection has an account of its visits, else none
pub record HasAccount (plan : Plan) (app : Application) (b : BoundConn) : Type 0 where
  pub weighed : plan.weighted ≡ true → (share : VisitAccount) × (b.share ≡ Some share) × WasVisited app.weight b share
  pub plain : plan.weighted ≡ false → b.share ≡ None

-- ---- what arrived

-- All that was delivered to an application. Its receiver's trace extends the initial one. Each frame that can be
-- handled was handled, and each line is the fate of a frame, in order. Each placed message was sent to the
-- application as a notice, with the number of its block. Each of these blocks is held or came back, among the numbers
-- that were judged.
pub record WasDelivered (life : ReceiverTrace) (piece : List ℕ) (b : BoundConn) : Type 0 where
  pub later : ReceiverTrace
  pub lives : IsLaterTrace piece life later
  pub numbers : List ℕ
  pub back : List ℕ
  pub lived : IsArrivalTrace later b.arrivals
  pub all : IsComplete b.arrivals
  pub told : AllZip IsNoticeOf (placed_messages_of later.fates) b.notices.taken
  pub blocks : b.blocks.taken ≡ message_blocks (placed_messages_of later.fates)
  pub returned : IsReclaiming numbers back b.reclaims
  pub held : IsPermutation (message_blocks (placed_messages_of later.fates))
      (held_numbers b.arrivals.inbound.heap.held ++ back)

module _ {C L : Type 0} (of_link : LinkMembers L) where
  -- What was received from a link and delivered: a prefix of what the link gave since, and all of it if the stream
  -- has ended, as the link reported.
  pub record HasArrivedFrom (opening : Opening C L) (now : L) (b : BoundConn) : Type 0 where
    pub piece : List ℕ
    pub rest : List ℕ
    pub came : HasGrownBy (of_link.given opening.begun.link) (of_link.given now) (piece ++ rest)
    pub delivered : WasDelivered opening.begun.life piece b
    pub whole : b.arrivals.stream ≡ Ended → rest ≡ []
    pub ended : b.arrivals.stream ≡ Ended → IsTrue (of_link.ended now)
    pub failed : b.arrivals.stream ≡ Failed → b.submissions.conn.ended ≡ true

  -- What a link was handed: a prefix of the frames of the history, and all of them unless the connection has ended.
  pub record WasHanded (opening : Opening C L) (now : L) (b : BoundConn) : Type 0 where
    pub passed : List (List ℕ)
    pub handed : of_link.handed now ≡ of_link.handed opening.begun.link ++ passed
    pub in_order : IsPrefix passed (conn_frames b.submissions.conn)
    pub all : b.submissions.conn.ended ≡ false → passed ≡ conn_frames b.submissions.conn

module _ {C L : Type 0} (of_clock : ClockMembers C) (of_link : LinkMembers L) where
  -- What a run did on a connection with this opening, and what is left of it, of its seats and of its link after the
  -- run.
  pub record HasServed (opening : Opening C L) (b : BoundConn) (seats : List Drawing) (now : L) : Type 0 where
    pub number : b.submissions.conn.conn ≡ opening.app.conn
    pub table : b.submissions.conn.table ≡ app_table opening.plan opening.app
    pub limit : b.submissions.conn.limit ≡ opening.plan.loads
    pub steps : b.submissions.steps.now ≡ opening.begun.steps
    -- The heap that its calls are loaded from has the size of the plan. The application read the heap that its messages
    -- were placed in.
    pub send_heap : b.submissions.reader.heap.words ≡ opening.app.heap
    pub receive_heap : b.reader.heap ≡ opening.begun.reader.heap
    -- Its calls are those that its application submitted, in order, all of them or, if the connection has ended, a
    -- prefix. Its loads are fresh, and all scheduled operations were applied where they were due.
    pub served : IsServed b.submissions
    pub finished : b.submissions.finished ≡ true
    pub known : b.submissions.reader.known ≡ b.note.stores
    pub did : HasRunAs opening.app.role (echo_on opening) b
    pub account : HasAccount opening.plan opening.app b
    -- each timestamp is the clock's
    pub moments : All (of_clock.gives opening.begun.clock) (timestamps_in (conn_trace b.submissions.conn))
    pub least : All (λ ms. of_clock.least opening.begun.clock
        ≤ ms) (timestamps_at_calls (conn_trace b.submissions.conn))
    pub arrived : HasArrivedFrom of_link opening now b
    -- under the initial table, policy and heap
    pub same_arrivals : HaveSameIdentity opening.begun.arrivals b.arrivals
    pub handed : WasHanded of_link opening now b
    -- the connection has ended exactly if the count of its link's failures rose
    pub rose : b.submissions.conn.ended ≡ true → HasRisen (of_link.failures opening.begun.link) (of_link.failures now)
    pub stays : b.submissions.conn.ended ≡ false → of_link.failures now ≡ of_link.failures opening.begun.link
    pub same_link : (first : L) → of_link.since first opening.begun.link → of_link.since first now
    -- its seats drew exactly the tickets of its history
    pub same_seats : AreLater opening.begun.seats seats
    pub drawn : (tenant window : ℕ) (earlier : List ℕ) → tenant < length opening.begun.seats → window < WINDOWS
        → tickets_of_tenant opening.begun.seats tenant window ≡ Some earlier
        → tickets_of_tenant seats tenant window
        ≡ Some (earlier ++ tickets_of_trace tenant window (conn_trace b.submissions.conn))
