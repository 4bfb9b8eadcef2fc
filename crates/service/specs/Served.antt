-- What a run did on the connections of its plan (this project's own).
use Rattle.std.specs.Prelude.{◌≡◌, ◌⊎◌, ℕ, List, [], ◌∷◌, All, length, Option, Some, IsTrue, false}
use Rattle.std.specs.List.{flat_map}
use Rattle.std.specs.Io.KnownBytes.{Appends}
use Rattle.std.specs.Option.{option_copied}
use Rattle.mrpc_base.specs.Failures.{HasCause}
use Rattle.mrpc_base.specs.Links.{IsEmptyIfKnown}
use Rattle.mrpc_base.specs.declared.clock.Clock.{Ghosts as ClockMembers}
use Rattle.mrpc_base.specs.declared.link.Link.{Ghosts as LinkMembers}
use Rattle.frame_transport.specs.declared.fault.FeedFault.{FeedFault}
use Rattle.frame_transport.specs.declared.format.Frame.{Frame}
use Rattle.tenant_quota.specs.Drawing.{Drawing}
use Rattle.call_history.specs.Tickets.{tickets_of_trace}
use Rattle.conn_core.specs.Connections.{conn_trace}
use Rattle.receive_core.specs.ReceiverTraces.{after_piece, after_hello, empty_trace}
use Rattle.message_delivery.specs.declared.arrivals.StreamState.{StreamState}
use Rattle.message_delivery.specs.declared.arrivals.StreamState.TheVariants.{Ended, Failed}
use Rattle.link_handshake.specs.Handshake.{IsBound, IsUnbound, IsUnboundCause, hello_of}
use Rattle.link_handshake.specs.declared.unbound.Unbound.{Unbound as Cause}
use Rattle.link_handshake.specs.declared.unbound.Unbound.TheVariants.{Transport}
use Rattle.run_plan.specs.Chains.{inbound_of, app_table}
use Rattle.run_plan.specs.Links.{application_in}
use Rattle.run_plan.specs.declared.application.Application.{Application}
use Rattle.run_plan.specs.declared.plan.Plan.{Plan}
use Rattle.service_wiring.specs.Scheduling.{AreOpsOfPlan}
use Rattle.service_threads.specs.Closings.{Opening}
use Rattle.service_threads.specs.Served.{HasServed}
use Rattle.service_threads.specs.declared.served.BoundConn.{BoundConn}
use Rattle.service.specs.declared.served.ConnectionOutcome.{ConnectionOutcome}
use Rattle.service.specs.declared.served.ConnectionOutcome.TheVariants.{Unbound, Bound}
use Rattle.service.specs.declared.served.ServedConn.{ServedConn}

-- the hello of an application's connection: a frame with the plan's service and the application's table
abbrev pub app_hello : Plan → Application → List ℕ
app_hello plan app = hello_of app.conn plan.service (app_table plan app)

-- ---- links

-- a link as opened: nothing was sent to it or received from it, and it never failed
pub record IsNewLink {L : Type 0} (of_link : LinkMembers L) (link : L) : Type 0 where
  pub handed : of_link.handed link ≡ []
  pub given : IsEmptyIfKnown (of_link.given link)
  pub not_ended : of_link.ended link ≡ false
  pub failures : of_link.failures link ≡ 0

-- each two items in a row have the ends of one link
abbrev pub ArePairs : {A L : Type 0} → (A → L) → (L → L → Type 0) → List A → Type 0
ArePairs link pair [] = Unit {0}
ArePairs link pair (a ∷ []) = ⊥
ArePairs link pair (a ∷ b ∷ more) = pair (link a) (link b) × ArePairs link pair more

-- ---- the outcome of a connection

-- A connection wasn't bound: what its link gave, up to the stream's state, leaves it unbound for this cause. Its link
-- was handed its hello alone, or nothing if it failed at it. The stream has ended only if the link reported so. The
-- link's count of failures rose exactly if the stream failed, and then the cause is the transport.
pub record WasRefused {L : Type 0} (of_link : LinkMembers L) (plan : Plan) (app : Application) (start now : L)
    (why : Cause) : Type 0 where
  pub stream : List ℕ
  pub fault : Option FeedFault
  pub state : StreamState
  pub came : Appends (of_link.given start) (of_link.given now) stream
  pub unbound : IsUnbound (app_table plan app) plan.service stream fault state why
  pub says : IsUnboundCause why
  pub handed : (of_link.handed now ≡ app_hello plan app ∷ []) ⊎ ((of_link.handed now ≡ []) × (state ≡ Failed))
  pub ended : state ≡ Ended → IsTrue (of_link.ended now)
  pub cause : HasCause (state ≡ Failed) (of_link.failures start) (of_link.failures now)
  pub transport : state ≡ Failed → why ≡ Transport

-- A connection was bound with this opening: by the hello that is a prefix of what its link gave, after which its
-- receiver continues with the remaining bytes. Its own hello was handed over, and its link had no failure. It has the
-- operations that the plan schedules for it, the policy that judges deliveries to its application, a new heap for
-- these, which its application reads, and seats of all tenants without draws.
pub record WasBound {C L : Type 0} (of_link : LinkMembers L) (plan : Plan) (clock : C) (app : Application) (start : L)
    (opening : Opening C L) : Type 0 where
  pub its_plan : opening.plan ≡ plan
  pub its_app : opening.app ≡ app
  pub its_clock : opening.begun.clock ≡ clock
  pub stream : List ℕ
  pub fault : Option FeedFault
  pub hello : Frame
  pub came : Appends (of_link.given start) (of_link.given opening.begun.link) stream
  pub bound : IsBound (app_table plan app) plan.service stream fault hello
  pub life : opening.begun.life ≡ after_hello (after_piece empty_trace stream fault) hello
  pub handed : of_link.handed opening.begun.link ≡ app_hello plan app ∷ []
  pub failures : of_link.failures opening.begun.link ≡ 0
  pub steps : AreOpsOfPlan plan app opening.begun.steps
  pub table : opening.begun.arrivals.table.now ≡ app_table plan app
  pub policy : option_copied opening.begun.arrivals.policy ≡ inbound_of plan app
  pub words : opening.begun.reader.heap.words ≡ app.receive
  pub one_heap : opening.begun.arrivals.writer.heap ≡ opening.begun.reader.heap
  pub not_loaded : opening.begun.reader.loads ≡ []
  pub seats : length opening.begun.seats ≡ length plan.declared.tenants
  pub not_drawn : All (λ seat. seat.draws ≡ []) opening.begun.seats

-- what a run did on a bound connection, and what is left of its seats
pub record WasServedBound {C L : Type 0} (of_clock : ClockMembers C) (of_link : LinkMembers L) (plan : Plan) (clock : C)
    (app : Application) (start now : L) (b : BoundConn) : Type 0 where
  pub opening : Opening C L
  pub seats : List Drawing
  pub bound : WasBound of_link plan clock app start opening
  pub served : HasServed of_clock of_link opening b seats now

module _ {C L : Type 0} (of_clock : ClockMembers C) (of_link : LinkMembers L) (plan : Plan) (clock : C) where
  -- the outcome of an application's connection, from its link as opened and as it is now
  abbrev pub IsConnectionOutcome : Application → L → L → ConnectionOutcome → Type 0
  IsConnectionOutcome app start now (Unbound why) = WasRefused of_link plan app start now why
  IsConnectionOutcome app start now (Bound b) = WasServedBound of_clock of_link plan clock app start now b

  -- what a run did on the connection with this number: it is that of the plan's application, and its link is a later
  -- state of the one opened for it
  pub record WasServed (conn : ℕ) (s : ServedConn L) : Type 0 where
    pub app : Application
    pub its_app : application_in plan.applications conn ≡ Some app
    pub number : s.conn ≡ conn
    pub start : L
    pub is_new : IsNewLink of_link start
    pub same_link : (first : L) → of_link.since first start → of_link.since first s.link
    pub outcome : IsConnectionOutcome app start s.link s.outcome

-- ---- tickets

-- the tickets of a tenant's window in the history of a connection
abbrev pub tickets_on : ℕ → ℕ → ConnectionOutcome → List ℕ
tickets_on tenant window (Unbound why) = []
tickets_on tenant window (Bound b) = tickets_of_trace tenant window (conn_trace b.submissions.conn)

-- the tickets of all connections of a run
abbrev pub all_tickets : {L : Type 0} → ℕ → ℕ → List (ServedConn L) → List ℕ
all_tickets tenant window conns = flat_map (λ s. tickets_on tenant window s.outcome) conns
