-- The code's own: the outcomes of connections, from their states before the threads and what was done on the bound
-- ones.
use Rattle.std.specs.Prelude.{◌≡◌, List, [], ◌∷◌, All, length, map}
use Rattle.std.specs.List.{AllZip}
use Rattle.mrpc_base.specs.declared.clock.Clock.{Ghosts as ClockMembers}
use Rattle.mrpc_base.specs.declared.link.Link.{Ghosts as LinkMembers}
use Rattle.tenant_quota.specs.Drawing.{Drawing, all_shares}
use Rattle.run_plan.specs.declared.plan.Plan.{Plan}
use Rattle.service_threads.specs.Closings.{Opening}
use Rattle.service_threads.specs.Joining.{IsSeatSplit}
use Rattle.service_threads.specs.Served.{HasServed}
use Rattle.service_threads.specs.declared.reconciling.ReconciledConnection.{ReconciledConnection}
use Rattle.service.specs.Ends.{OpenedEnd}
use Rattle.service.specs.Served.{WasServed}
use Rattle.service.specs.Starting.{AreStartStates}
use Rattle.service.specs.declared.starting.StartState.{StartState}
use Rattle.service.specs.declared.starting.StartState.TheVariants as standing
use Rattle.service.specs.declared.served.ConnectionOutcome.TheVariants as outcome
use Rattle.service.specs.declared.served.ServedConn.{ServedConn}

-- each bound connection, with the next of the reconciled ones
abbrev pub outcomes_of : {L : Type 0} → List (StartState L) → List (ReconciledConnection L) → List (ServedConn L)
outcomes_of [] met = []
outcomes_of (standing.Unbound conn link why ∷ standings) met =
    record { conn = conn; link = link; outcome = outcome.Unbound why } ∷ outcomes_of standings met
outcomes_of (standing.Bound conn ∷ standings) [] = []
outcomes_of (standing.Bound conn ∷ standings) (m ∷ met) =
    record { conn = conn; link = m.link; outcome = outcome.Bound m.bound } ∷ outcomes_of standings met

-- the reconciled connections that remain
abbrev pub unmatched_of : {L : Type 0} → List (StartState L) → List (ReconciledConnection L)
    → List (ReconciledConnection L)
unmatched_of [] met = met
unmatched_of (standing.Unbound conn link why ∷ standings) met = unmatched_of standings met
unmatched_of (standing.Bound conn ∷ standings) [] = []
unmatched_of (standing.Bound conn ∷ standings) (m ∷ met) = unmatched_of standings met

module _ {C L : Type 0} (of_clock : ClockMembers C) (of_link : LinkMembers L) (plan : Plan) (clock : C) where
  -- what a run did on the connection of an opened end, whose link is a later state of that end's
  pub record WasServedAt (e : OpenedEnd L) (s : ServedConn L) : Type 0 where
    pub served : WasServed of_clock of_link plan clock e.conn s
    pub same_link : (first : L) → of_link.since first e.link → of_link.since first s.link

  -- A run is over. These were the states of the connections before the threads, the bound ones were served, and their
  -- seats were split from the whole, which has all shares.
  pub record HaveRun (ends : List (OpenedEnd L)) (standings : List (StartState L)) (met : List (ReconciledConnection L))
      (seats : List Drawing) : Type 0 where
    pub openings : List (Opening C L)
    pub standing : AreStartStates of_link plan clock ends standings openings
    pub served : AllZip (λ o m. HasServed of_clock of_link o m.bound m.seats m.link) openings met
    pub whole : List Drawing
    pub shares : All (λ seat. seat.share ≡ all_shares) whole
    pub split : IsSeatSplit whole (map (λ o. o.begun.seats) openings) seats
    pub tenants : length seats ≡ length plan.declared.tenants
    pub not_drawn : All (λ seat. seat.draws ≡ []) seats
