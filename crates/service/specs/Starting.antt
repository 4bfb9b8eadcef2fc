-- The code's own: the states of a run's connections before its threads start.
use Rattle.std.specs.Prelude.{◌≡◌, ◌≤◌, ℕ, List, [], ◌∷◌, ◌++◌, All, length, map, Some}
use Rattle.std.specs.Global.{Vec}
use Rattle.std.specs.List.{AllZip}
use Rattle.mrpc_base.specs.declared.link.Link.{Ghosts as LinkMembers}
use Rattle.tenant_quota.specs.Drawing.{Drawing, IsShareAfter, all_shares, kept_half}
use Rattle.link_handshake.specs.declared.unbound.Unbound.{Unbound as Cause}
use Rattle.link_queue.specs.declared.writer.QueueWriter.{QueueWriter}
use Rattle.run_plan.specs.Links.{application_in}
use Rattle.run_plan.specs.declared.application.Application.{Application}
use Rattle.run_plan.specs.declared.plan.Plan.{Plan}
use Rattle.service_loop.specs.declared.scheduled_op.ScheduledOp.{ScheduledOp}
use Rattle.service_wiring.specs.Wired.{ConnectionStart, IsWired}
use Rattle.service_wiring.specs.declared.applications.AppTask.{AppTask}
use Rattle.service_threads.specs.Closings.{AreWired, ServedEndpoint, Opening}
use Rattle.service_threads.specs.Joining.{IsSeatSplit}
use Rattle.service.specs.Ends.{OpenedEnd}
use Rattle.service.specs.PreparedRun.{HasScheduledOps}
use Rattle.service.specs.Served.{IsNewLink, WasBound, WasRefused}
use Rattle.service.specs.declared.starting.StartState.{StartState}
use Rattle.service.specs.declared.starting.StartState.TheVariants.{Bound, Unbound}

module _ {C L : Type 0} (of_link : LinkMembers L) (plan : Plan) (clock : C) where
  -- an end of a link whose connection isn't bound
  pub record IsUnboundEnd (e : OpenedEnd L) (conn : ℕ) (link : L) (why : Cause) : Type 0 where
    pub app : Application
    pub its_app : application_in plan.applications e.conn ≡ Some app
    pub number : conn ≡ e.conn
    pub is_new : IsNewLink of_link e.link
    pub same_link : (first : L) → of_link.since first e.link → of_link.since first link
    pub refused : WasRefused of_link plan app e.link link why

  -- an end of a link whose connection has this opening
  pub record IsStartedEnd (e : OpenedEnd L) (conn : ℕ) (o : Opening C L) : Type 0 where
    pub app : Application
    pub its_app : application_in plan.applications e.conn ≡ Some app
    pub number : conn ≡ e.conn
    pub is_new : IsNewLink of_link e.link
    pub same_link : (first : L) → of_link.since first e.link → of_link.since first o.begun.link
    pub bound : WasBound of_link plan clock app e.link o

  -- the state of each connection; the bound ones have these openings, in the same order
  abbrev pub AreStartStates : List (OpenedEnd L) → List (StartState L) → List (Opening C L) → Type 0
  AreStartStates [] [] openings = openings ≡ []
  AreStartStates (e ∷ ends) (Unbound conn link why ∷ standings) openings =
      IsUnboundEnd e conn link why × AreStartStates ends standings openings
  AreStartStates (e ∷ ends) (Bound conn ∷ standings) openings = (o : Opening C L) × (more : List (Opening C L))
      × (openings ≡ o ∷ more) × IsStartedEnd e conn o × AreStartStates ends standings more
  AreStartStates _ _ _ = ⊥

-- Connections have started at these ends. The bound ones split their seats from the whole.
pub record HaveStarted {C R L : Type 0} (of_link : LinkMembers L) (plan : Plan) (clock : C) (whole : List Drawing)
    (ends : List (OpenedEnd L)) (standings : List (StartState L)) (items : List (ServedEndpoint C))
    (jobs : List AppTask)
    (writers : List (QueueWriter R L of_link)) (seats : List Drawing) : Type 0 where
  pub openings : List (Opening C L)
  pub standing : AreStartStates of_link plan clock ends standings openings
  pub wired : AreWired openings items jobs writers
  pub split : IsSeatSplit whole (map (λ o. o.begun.seats) openings) seats
  pub shares : All (λ seat. IsShareAfter (length items) seat.share) seats
  pub tenants : length seats ≡ length plan.declared.tenants
  pub not_drawn : All (λ seat. seat.draws ≡ []) seats
  pub few : length items ≤ length ends
  pub as_many : length standings ≡ length ends

-- Connections have started at all of these ends. The whole of the seats, without draws, has all shares.
pub record AllStarted {C R L : Type 0} (of_link : LinkMembers L) (plan : Plan) (clock : C) (ends : List (OpenedEnd L))
    (standings : List (StartState L)) (items : List (ServedEndpoint C)) (jobs : List AppTask)
    (writers : List (QueueWriter R L of_link))
    (seats : List Drawing) : Type 0 where
  pub whole : List Drawing
  pub shares : All (λ seat. seat.share ≡ all_shares) whole
  pub begun : HaveStarted of_link plan clock whole ends standings items jobs writers seats

-- the operations scheduled for the connection of each end
abbrev pub HaveScheduledOpsAt : {L : Type 0} → Plan → List (OpenedEnd L) → List (Vec ScheduledOp) → Type 0
HaveScheduledOpsAt plan ends steps = AllZip (λ e due. HasScheduledOps plan e.conn due.items) ends steps

-- A bound connection of an application, with this opening, was appended to the others, and the tasks of its threads
-- to theirs. It took half of each share.
pub record HasStartedNext {C R L : Type 0} {g : LinkMembers L} (plan : Plan) (app : Application)
    (first : ConnectionStart C L)
    (standings standings' : List (StartState L)) (items items' : List (ServedEndpoint C)) (jobs jobs' : List AppTask)
    (writers writers' : List (QueueWriter R L g)) (seats seats' : List Drawing) : Type 0 where
  pub item : ServedEndpoint C
  pub job : AppTask
  pub writer : QueueWriter R L g
  pub wired : IsWired plan app first item job writer
  pub stands : standings' ≡ standings ++ Bound app.conn ∷ []
  pub one_item : items' ≡ items ++ item ∷ []
  pub one_task : jobs' ≡ jobs ++ job ∷ []
  pub one_writer : writers' ≡ writers ++ writer ∷ []
  pub halves : seats' ≡ map kept_half seats
