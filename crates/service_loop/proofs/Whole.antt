-- The invariant of a connection holds again after each part of a round.
use Rattle.std.proofs.Common.{◌≡◌, ◌≢◌, ◌≤◌, ◌<◌, ◌^◌, ◌⊎◌, inl, inr, ℕ, Bool, true, false, List, [], length}
use Rattle.std.proofs.Common.{refl, sym, subst, ◌∙◌, append-nil}
use Rattle.std.specs.Prelude.{All, IsTrue}
use Rattle.mrpc_base.specs.Failures.{HasCause}
use Rattle.mrpc_base.specs.declared.clock.Clock.{Ghosts as ClockMembers}
use Rattle.mrpc_base.specs.declared.link.Link.{Ghosts as LinkMembers}
use Rattle.mrpc_base.specs.declared.tickets.Tickets.{Ghosts as TicketMembers}
use Rattle.call_history.specs.Tickets.{tickets_of_trace}
use Rattle.conn_core.specs.Connections.{conn_trace, conn_frames}
use Rattle.conn_core.specs.ConnectionSteps.{HasDrawnTickets}
use Rattle.service_loop.specs.Calls.{timestamps_at_calls, timestamps_in}
use Rattle.service_loop.specs.Serving.{IsServed}
use Rattle.service_loop.specs.ScheduledOps.{KnowTenants}
use Rattle.service_loop.specs.declared.scheduled_op.ScheduledOp.{ScheduledOp}
use Rattle.message_delivery.specs.declared.arrivals.StreamState.{StreamState}
use Rattle.message_delivery.specs.declared.arrivals.StreamState.TheVariants.{Ended, Failed, Open}
use Rattle.service_loop.specs.Delivering.{AreDelivering, IsCountedAsEnded, HasDeliveredMore}
use Rattle.service_loop.specs.Rounds.{HasAdvanced, IsConsistent}
use Rattle.service_loop.specs.declared.endpoint.Endpoint.{Endpoint}
use Rattle.service_loop.proofs.Cases.{draw-none, known-later}

either : (b : Bool) → (b ≡ true) ⊎ (b ≡ false)
either true = inl refl
either false = inr refl

pub failed-ended : (x : StreamState) → x ≡ Failed → x ≢ Open
failed-ended x failed unclosed = let wrong : Failed ≡ Open = sym failed ∙ unclosed in absurd cc

module _ {C Q L : Type 0} (clock : ClockMembers C) (quotas : TicketMembers Q) (link : LinkMembers L) where
  -- the proof obligations for a connection whose invariant held
  pub record Again (old new : Endpoint C Q L) : Type 0 where
    pub served : IsServed new.submissions
    pub steps : new.submissions.steps.now ≡ old.submissions.steps.now
    pub knows : (tenant : ℕ) → quotas.knows old.tickets tenant → quotas.knows new.tickets tenant
    pub same_clock : new.clock.now ≡ old.clock.now
    pub moments : All (clock.gives old.clock.now) (timestamps_in (conn_trace old.submissions.conn))
        → All (clock.gives old.clock.now) (timestamps_in (conn_trace new.submissions.conn))
    pub least : All (λ ms. clock.least old.clock.now ≤ ms) (timestamps_at_calls (conn_trace old.submissions.conn))
        → All (λ ms. clock.least old.clock.now ≤ ms) (timestamps_at_calls (conn_trace new.submissions.conn))
    pub delivering : AreDelivering new.deliveries
    pub ended : new.submissions.conn.ended ≡ true → IsCountedAsEnded new.deliveries.arrivals
    pub failed : new.deliveries.arrivals.stream ≡ Failed → new.submissions.conn.ended ≡ true
    pub finished : new.deliveries.arrivals.stream ≡ Ended → IsTrue (link.ended new.link)
    pub buffer : length new.buffer.items ≡ length old.buffer.items

  pub whole-again : (old new : Endpoint C Q L) → IsConsistent clock quotas link old → Again old new
      → IsConsistent clock quotas link new
  whole-again old new h again = record {
    served = again.served;
    known = subst (λ (steps : List ScheduledOp). KnowTenants (quotas.knows new.tickets) steps) (sym again.steps)
        (known-later (quotas.knows old.tickets) (quotas.knows new.tickets) again.knows old.submissions.steps.now h.known);
    moments = subst (λ (x : C). All (clock.gives x) (timestamps_in (conn_trace new.submissions.conn))) (sym again.same_clock)
        (again.moments h.moments);
    least = subst (λ (x : C). All (λ ms. clock.least x ≤ ms) (timestamps_at_calls (conn_trace new.submissions.conn)))
        (sym again.same_clock) (again.least h.least);
    delivering = again.delivering;
    ended = again.ended;
    failed = again.failed;
    finished = again.finished;
    room = subst (λ n. 0 < n) (sym again.buffer) h.room;
    most = subst (λ n. n ≤ 2 ^ 32) (sym again.buffer) h.most;
  }

  -- how deliveries and the end of the link relate, if nothing was sent and no ticket drawn
  pub record HasDelivered (old new : Endpoint C Q L) : Type 0 where
    pub frames : conn_frames new.submissions.conn ≡ conn_frames old.submissions.conn
    pub drawn : (tenant window : ℕ) → tickets_of_trace tenant window (conn_trace new.submissions.conn)
        ≡ tickets_of_trace tenant window (conn_trace old.submissions.conn)
    pub ends : ((new.submissions.conn.ended ≡ old.submissions.conn.ended)
        × (new.deliveries.arrivals.stream ≢ Failed))
        ⊎ ((new.submissions.conn.ended ≡ true) × (new.deliveries.arrivals.stream ≡ Failed))
    pub on : HasDeliveredMore (link.given old.link) (link.given new.link) old.deliveries new.deliveries
    pub cause : HasCause ((old.deliveries.arrivals.stream ≢ Failed) × (new.deliveries.arrivals.stream ≡ Failed))
        (link.failures old.link) (link.failures new.link)
    pub over : IsCountedAsEnded old.deliveries.arrivals → IsCountedAsEnded new.deliveries.arrivals
    pub stream : IsCountedAsEnded old.deliveries.arrivals
        → new.deliveries.arrivals.stream ≡ old.deliveries.arrivals.stream
    pub handed : link.handed new.link ≡ link.handed old.link
    pub tickets : new.tickets ≡ old.tickets

  pub failed-on : (old new : Endpoint C Q L) → HasDelivered old new → new.deliveries.arrivals.stream ≡ Failed
      → new.submissions.conn.ended ≡ true
  failed-on old new d is = elim d.ends [
    | inl same ↦ absurd (same.1 is)
    | inr failed ↦ failed.0
  ]

  stays-on : (old new : Endpoint C Q L) → HasDelivered old new → old.submissions.conn.ended ≡ true
      → new.submissions.conn.ended ≡ true
  stays-on old new d is = elim d.ends [
    | inl same ↦ same.0 ∙ is
    | inr failed ↦ failed.0
  ]

  -- the link failed in this part if the connection ended in it
  fails-here : (old new : Endpoint C Q L) → IsConsistent clock quotas link old → HasDelivered old new
      → (old.submissions.conn.ended ≡ false) × (new.submissions.conn.ended ≡ true)
      → (old.deliveries.arrivals.stream ≢ Failed) × (new.deliveries.arrivals.stream ≡ Failed)
  fails-here old new h d ends = elim d.ends [
    | inl same ↦ absurd (let wrong : true ≡ false = sym ends.1 ∙ same.0 ∙ ends.0 in cc)
    | inr failed ↦ ((λ is. absurd (let wrong : true ≡ false = sym (h.failed is) ∙ ends.0 in cc)), failed.1)
  ]

  -- and only then
  ends-here : (old new : Endpoint C Q L) → IsConsistent clock quotas link old → HasDelivered old new
      → (old.deliveries.arrivals.stream ≢ Failed) × (new.deliveries.arrivals.stream ≡ Failed)
      → (old.submissions.conn.ended ≡ false) × (new.submissions.conn.ended ≡ true)
  ends-here old new h d fails = elim (either old.submissions.conn.ended) [
    | inl is ↦ absurd (fails.0 (sym (d.stream (h.ended is)) ∙ fails.1))
    | inr is ↦ (is, failed-on old new d fails.1)
  ]

  pub goes-delivered : (old new : Endpoint C Q L) → IsConsistent clock quotas link old → HasDelivered old new
      → HasAdvanced clock quotas link old new
  goes-delivered old new h d = record {
    handed = (
      [],
      d.frames ∙ sym (append-nil (conn_frames old.submissions.conn)),
      d.handed ∙ sym (append-nil (link.handed old.link)),
    );
    draws = subst (λ (x : Q). HasDrawnTickets quotas.knows quotas.drawn quotas.since old.submissions.conn
        new.submissions.conn old.tickets x) (sym d.tickets)
        (draw-none quotas.knows quotas.drawn quotas.since old.submissions.conn new.submissions.conn old.tickets d.drawn);
    cause = record {
      rose = λ ends. d.cause.rose (fails-here old new h d ends);
      stays = λ none. d.cause.stays (λ fails. none (ends-here old new h d fails));
      never_falls = d.cause.never_falls;
    };
    stays_ended = stays-on old new d;
    delivers = d.on;
  }
