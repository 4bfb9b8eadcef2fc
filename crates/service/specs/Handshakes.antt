-- The code's own: ends of links after the handshake.
use Rattle.std.specs.Prelude.{◌≡◌, ◌≢◌, ℕ, List, [], ◌∷◌, ◌++◌, Bool, Option, Some, None, IsTrue, true, false}
use Rattle.std.specs.List.{AllZip}
use Rattle.std.specs.Io.KnownBytes.{Appends}
use Rattle.std.specs.Option.{option_copied}
use Rattle.mrpc_base.specs.Failures.{HasCause, HasRisen}
use Rattle.mrpc_base.specs.declared.link.Link.{Ghosts as LinkMembers}
use Rattle.mrpc_table.specs.declared.table.Table.{Table}
use Rattle.frame_transport.specs.declared.fault.FeedFault.{FeedFault}
use Rattle.frame_transport.specs.declared.format.Frame.{Frame}
use Rattle.receive_core.specs.ReceiverTraces.{after_piece, after_hello, empty_trace}
use Rattle.message_delivery.specs.Arriving.{IsArrivalTrace}
use Rattle.message_delivery.specs.declared.arrivals.Arrivals.{Arrivals}
use Rattle.message_delivery.specs.declared.arrivals.StreamState.{StreamState}
use Rattle.message_delivery.specs.declared.arrivals.StreamState.TheVariants.{Ended, Failed}
use Rattle.link_handshake.specs.Handshake.{IsBound, IsUnbound, IsUnboundCause}
use Rattle.link_handshake.specs.declared.unbound.Unbound.{Unbound}
use Rattle.link_handshake.specs.declared.unbound.Unbound.TheVariants.{Transport}
use Rattle.run_plan.specs.Chains.{inbound_of, app_table}
use Rattle.run_plan.specs.Links.{application_in}
use Rattle.run_plan.specs.declared.application.Application.{Application}
use Rattle.run_plan.specs.declared.plan.Plan.{Plan}
use Rattle.shared_heap.specs.Fresh.{Reading}
use Rattle.service.specs.Ends.{OpenedEnd, conns_of_ends}
use Rattle.service.specs.Served.{ArePairs, IsNewLink, WasRefused, app_hello}
use Rattle.service.specs.declared.handshake.HandshakeEnd.{HandshakeEnd}
use Rattle.service.specs.declared.handshake.HelloEnd.{HelloEnd}

-- Why a connection isn't bound, given what its link gave, the link's failures and whether it has ended. What was
-- received shows the cause, unless the connection's own hello wasn't sent because its link failed at it.
pub record WasLeftUnbound (service : List ℕ) (T : Table) (given given' : Option (List ℕ)) (failures faults' : ℕ)
    (said ended : Bool) (why : Unbound) : Type 0 where
  pub stream : List ℕ
  pub fault : Option FeedFault
  pub state : StreamState
  pub came : Appends given given' stream
  pub unbound : IsUnbound T service stream fault state why
  pub says : IsUnboundCause why
  pub ends : state ≡ Ended → IsTrue ended
  pub cause : said ≡ true → HasCause (state ≡ Failed) failures faults'
  pub failed : said ≡ false → state ≡ Failed
  pub stays : said ≡ false → faults' ≡ failures
  pub transport : state ≡ Failed → why ≡ Transport

module _ {L : Type 0} (of_link : LinkMembers L) (plan : Plan) where
  -- Nothing was received from the link yet. It was handed its hello if this was sent, and otherwise nothing, since it
  -- failed.
  pub record WasHelloSent (app : Application) (start now : L) (said : Bool) : Type 0 where
    pub given : of_link.given now ≡ of_link.given start
    pub handed : said ≡ true → of_link.handed now ≡ app_hello plan app ∷ []
    pub not_handed : said ≡ false → of_link.handed now ≡ []
    pub stays : said ≡ true → of_link.failures now ≡ of_link.failures start
    pub rose : said ≡ false → HasRisen (of_link.failures start) (of_link.failures now)
    pub same_link : (first : L) → of_link.since first start → of_link.since first now

  -- an end of a link of a connection of the plan, which sent its hello or failed at it
  pub record IsHelloEnd (e : OpenedEnd L) (i : HelloEnd L) : Type 0 where
    pub its_app : application_in plan.applications e.conn ≡ Some i.app.now
    pub is_new : IsNewLink of_link e.link
    pub said : WasHelloSent i.app.now e.link i.link i.said

  -- a link gave a hello that binds the connection, and its arrivals continue after that hello
  pub record WasHelloReceived (app : Application) (start now : L) (a : Arrivals) (reader : Reading) : Type 0 where
    pub stream : List ℕ
    pub fault : Option FeedFault
    pub hello : Frame
    pub came : Appends (of_link.given start) (of_link.given now) stream
    pub bound : IsBound (app_table plan app) plan.service stream fault hello
    pub lived : IsArrivalTrace (after_hello (after_piece empty_trace stream fault) hello) a
    pub handed : of_link.handed now ≡ app_hello plan app ∷ []
    pub failures : of_link.failures now ≡ 0
    pub working : a.stream ≢ Failed
    pub none_held : a.inbound.heap.held ≡ []
    pub table : a.table.now ≡ app_table plan app
    pub policy : option_copied a.policy ≡ inbound_of plan app
    pub one_heap : reader.heap ≡ a.writer.heap
    pub not_loaded : reader.loads ≡ []
    pub words : reader.heap.words ≡ app.receive

  -- what an end received: the hello of the other side, or the cause that leaves the connection unbound
  abbrev pub IsHelloOutcome : Application → L → L → Arrivals → Reading → Option Unbound → Type 0
  IsHelloOutcome app start now a reader None = WasHelloReceived app start now a reader
  IsHelloOutcome app start now a reader (Some why) = WasRefused of_link plan app start now why

  -- an end of a link of a connection of the plan, after the handshake
  pub record IsHandshakeEnd (e : OpenedEnd L) (g : HandshakeEnd L) : Type 0 where
    pub its_app : application_in plan.applications e.conn ≡ Some g.app.now
    pub is_new : IsNewLink of_link e.link
    pub same_link : (first : L) → of_link.since first e.link → of_link.since first g.link
    pub heard : IsHelloOutcome g.app.now e.link g.link g.arrivals g.reader g.unbound

  -- both ends of a link after the handshake, appended to others
  pub record AreBothHandshakeEnds (a b : OpenedEnd L) (after_hello greeted' : List (HandshakeEnd L)) : Type 0 where
    pub first : HandshakeEnd L
    pub second : HandshakeEnd L
    pub added : greeted' ≡ after_hello ++ first ∷ second ∷ []
    pub a_is_end : IsHandshakeEnd a first
    pub b_is_end : IsHandshakeEnd b second

  -- the ends of connections, two by two those of one link, were opened and made the handshake
  pub record AreHandshakeEnds (pair : L → L → Type 0) (conns : List ℕ) (after_hello : List (HandshakeEnd L))
      : Type 0 where
    pub ends : List (OpenedEnd L)
    pub are : conns_of_ends ends ≡ conns
    pub pairs : ArePairs (λ e. e.link) pair ends
    pub each : AllZip IsHandshakeEnd ends after_hello
