-- The invariant of a connection between two rounds, and how it advances (this project's own).
use Rattle.std.specs.Prelude.{◌≡◌, ℕ, ◌≤◌, ◌<◌, ◌^◌, All, length, Option, None, IfSome, IsTrue, option_map, true, false}
use Rattle.mrpc_base.specs.Failures.{HasCause}
use Rattle.mrpc_base.specs.declared.clock.Clock.{Ghosts as ClockMembers}
use Rattle.mrpc_base.specs.declared.link.Link.{Ghosts as LinkMembers}
use Rattle.mrpc_base.specs.declared.tickets.Tickets.{Ghosts as TicketMembers}
use Rattle.qos_order.specs.Account.{IsBalanced, IsWeight, granted, new_account}
use Rattle.conn_core.specs.Connections.{conn_trace}
use Rattle.conn_core.specs.ConnectionSteps.{HasDrawnTickets, HasHandedOver}
use Rattle.service_loop.specs.Calls.{timestamps_at_calls, timestamps_in}
use Rattle.service_loop.specs.Serving.{IsServed}
use Rattle.service_loop.specs.Serving.{AreSameSubmissions}
use Rattle.service_loop.specs.ScheduledOps.{KnowTenants}
use Rattle.message_delivery.specs.declared.arrivals.StreamState.TheVariants.{Ended, Failed}
use Rattle.service_loop.specs.Delivering.{AreDelivering, IsCountedAsEnded, HasDeliveredMore}
use Rattle.service_loop.specs.Delivering.{AreSameDeliveries}
use Rattle.service_loop.specs.declared.endpoint.Endpoint.{Endpoint}
use Rattle.service_loop.specs.declared.visit_account.VisitAccount.{VisitAccount}

-- ---- shares

-- the weight of a connection, if its rounds go by weight
abbrev pub weight_of_visits : Option VisitAccount → Option ℕ
weight_of_visits share = option_map (λ s. s.weight) share

-- a visit account without visits
abbrev pub IsNewVisitAccount : VisitAccount → Type 0
IsNewVisitAccount share = IsWeight share.weight × (share.account ≡ new_account)

-- The visit account of a connection between two visits, with this many kept rounds and accepted calls. It is balanced
-- and keeps these rounds. While it counts visits, it was given at least as many rounds as calls were accepted.
pub record IsVisitAccountOf (kept accepted : ℕ) (share : VisitAccount) : Type 0 where
  pub weight : IsWeight share.weight
  pub balanced : IsBalanced share.weight share.account
  pub keeps : share.account.kept ≡ kept
  pub rounds : share.account.visits < 2 ^ 40 → accepted ≤ share.account.rounds

abbrev pub HasVisitAccount : {C Q L : Type 0} → Endpoint C Q L → Type 0
HasVisitAccount e = IfSome e.share (IsVisitAccountOf e.kept e.submissions.accepted)

-- the order grants a connection with a visit account as many rounds as its weight allows
abbrev pub IsGrantedByWeight : {C Q L : Type 0} → (ℕ → ℕ → ℕ) → Endpoint C Q L → Type 0
IsGrantedByWeight grant_of e = IfSome e.share (λ share. (kept : ℕ)
    → grant_of e.submissions.conn.conn kept ≡ granted share.weight kept)

-- ---- rounds

-- The members of the traits: the timestamps of a clock, the quotas known and the tickets drawn, and a link's frames
-- sent, bytes received and failures counted.
module _ {C Q L : Type 0} (of_clock : ClockMembers C) (of_quotas : TicketMembers Q) (of_link : LinkMembers L) where
  -- The invariant of a connection between two rounds. The calls are served so far, and each timestamp is the clock's;
  -- what was delivered is what arrived. If the stream failed, the connection has ended; if it has ended, nothing more
  -- is received.
  pub record IsConsistent (e : Endpoint C Q L) : Type 0 where
    pub served : IsServed e.submissions
    pub known : KnowTenants (of_quotas.knows e.tickets) e.submissions.steps.now
    pub moments : All (of_clock.gives e.clock.now) (timestamps_in (conn_trace e.submissions.conn))
    pub least : All (λ ms. of_clock.least e.clock.now ≤ ms) (timestamps_at_calls (conn_trace e.submissions.conn))
    pub delivering : AreDelivering e.deliveries
    pub ended : e.submissions.conn.ended ≡ true → IsCountedAsEnded e.deliveries.arrivals
    pub failed : e.deliveries.arrivals.stream ≡ Failed → e.submissions.conn.ended ≡ true
    pub finished : e.deliveries.arrivals.stream ≡ Ended → IsTrue (of_link.ended e.link)
    pub room : 0 < length e.buffer.items
    pub most : length e.buffer.items ≤ 2 ^ 32

  -- the invariant with its visit account, unless it ran out of memory
  abbrev pub IsEndpoint : Endpoint C Q L → Type 0
  IsEndpoint e = e.memory ≡ false → IsConsistent e × HasVisitAccount e

  -- what a connection keeps in every later state
  pub record HasSameIdentity (old new : Endpoint C Q L) : Type 0 where
    pub submissions : AreSameSubmissions old.submissions new.submissions
    pub deliveries : AreSameDeliveries old.deliveries new.deliveries
    pub clock : new.clock.now ≡ old.clock.now
    pub link : (first : L) → of_link.since first old.link → of_link.since first new.link
    pub tickets : (first : Q) → of_quotas.since first old.tickets → of_quotas.since first new.tickets
    pub weight : weight_of_visits new.share ≡ weight_of_visits old.share

  -- A connection advances. Its link was handed the frames of its history, and the tickets of its history were drawn. It
  -- ended exactly if the link's count of failures rose, and what was delivered came from the link.
  pub record HasAdvanced (old new : Endpoint C Q L) : Type 0 where
    pub handed : HasHandedOver old.submissions.conn new.submissions.conn (of_link.handed old.link)
        (of_link.handed new.link)
    pub draws : HasDrawnTickets of_quotas.knows of_quotas.drawn of_quotas.since old.submissions.conn
        new.submissions.conn old.tickets
        new.tickets
    pub cause : HasCause ((old.submissions.conn.ended ≡ false) × (new.submissions.conn.ended ≡ true))
        (of_link.failures old.link) (of_link.failures new.link)
    pub stays_ended : old.submissions.conn.ended ≡ true → new.submissions.conn.ended ≡ true
    pub delivers : HasDeliveredMore (of_link.given old.link) (of_link.given new.link) old.deliveries new.deliveries

  -- the connection is finished: its application's rings were taken to their closings, the last drain is done, and the
  -- rings of notices were closed
  pub record IsFinished (e : Endpoint C Q L) : Type 0 where
    pub finished : e.submissions.finished ≡ true
    pub reclaims : e.deliveries.reclaims.closed ≡ true
    pub notices : e.deliveries.notices.notices ≡ None
    pub blocks : e.deliveries.notices.blocks ≡ None
