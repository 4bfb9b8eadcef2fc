-- The code's own: what the parts of a round preserve, and how a visit is counted.
use Rattle.std.specs.Prelude.{◌≡◌, ◌⊎◌, ℕ, ◌+◌, ◌≤◌, Bool, true, false, [], ◌∷◌, ◌++◌, length, drop, Option, None, Some, slice_get}
use Rattle.call_history.specs.Trace.{timestamp}
use Rattle.call_history.specs.Tickets.{tickets_of_trace}
use Rattle.conn_core.specs.Connections.{Connection, IsSameConnection, conn_trace, conn_frames}
use Rattle.descriptor_ring.specs.Rings.{IsDescriptorOf}
use Rattle.descriptor_ring.specs.declared.descriptor.Descriptor.{Descriptor}
use Rattle.qos_order.specs.Account.{IsWithinGrant, IsBalanced, IsWeight, Visit, granted, kept_rounds, after_visit}
use Rattle.service_loop.specs.Calls.{timestamps_at_calls, timestamps_in}
use Rattle.service_loop.specs.Serving.{IsServing}
use Rattle.service_loop.specs.ScheduledOps.{AreCountsAscending}
use Rattle.service_loop.specs.declared.scheduled_op.ScheduledOp.{ScheduledOp}
use Rattle.service_loop.specs.declared.visit_account.VisitAccount.{VisitAccount}
use Rattle.service_loop.specs.declared.submissions.Submissions.{Submissions}

-- a connection advanced, but nothing was sent, no ticket was drawn, and no timestamp recorded
pub record IsSilentAdvance (before after : Connection) : Type 0 where
  pub same : IsSameConnection before after
  pub frames : conn_frames after ≡ conn_frames before
  pub tickets : (tenant window : ℕ) → tickets_of_trace tenant window (conn_trace after)
      ≡ tickets_of_trace tenant window (conn_trace before)
  pub ended : after.ended ≡ before.ended
  pub moments : timestamps_in (conn_trace after) ≡ timestamps_in (conn_trace before)
  pub moment : timestamp (conn_trace after) ≡ timestamp (conn_trace before)

-- at most one call was taken, at the current timestamp
abbrev pub HasTakenNow : Connection → Connection → Type 0
HasTakenNow before after = (timestamps_at_calls (conn_trace after) ≡ timestamps_at_calls (conn_trace before))
    ⊎ (timestamps_at_calls (conn_trace after)
    ≡ timestamps_at_calls (conn_trace before) ++ timestamp (conn_trace before) ∷ [])

-- the first remaining operation is due: its count is reached, or no more calls follow
pub record IsDue (s : Submissions) : Type 0 where
  pub due : ScheduledOp
  pub first : slice_get s.steps.now s.applied ≡ Some due
  pub reached : (s.calls.closed ≡ true) ⊎ (due.count ≤ s.accepted)

-- no remaining operation is due; after the closing none remains
pub record HasNoneDue (closing : Bool) (s : Submissions) : Type 0 where
  pub all : closing ≡ true → s.applied ≡ length s.steps.now
  pub later : closing ≡ false → AreCountsAscending (s.accepted + 1) (drop s.applied s.steps.now)

-- only operations were applied
pub record HasOnlyAppliedOps (old new : Submissions) : Type 0 where
  pub beside : IsSilentAdvance old.conn new.conn
  pub at_calls : timestamps_at_calls (conn_trace new.conn) ≡ timestamps_at_calls (conn_trace old.conn)
  pub reader : new.reader ≡ old.reader
  pub calls : new.calls ≡ old.calls
  pub steps : new.steps.now ≡ old.steps.now
  pub accepted : new.accepted ≡ old.accepted
  pub finished : new.finished ≡ old.finished

-- a timestamp was passed: it is the latest now, unless it isn't greater than the last one
pub record HasTimestamp (now : ℕ) (before after : Connection) : Type 0 where
  pub same : IsSameConnection before after
  pub frames : conn_frames after ≡ conn_frames before
  pub tickets : (tenant window : ℕ) → tickets_of_trace tenant window (conn_trace after)
      ≡ tickets_of_trace tenant window (conn_trace before)
  pub ended : after.ended ≡ before.ended
  pub moments : (timestamps_in (conn_trace after) ≡ timestamps_in (conn_trace before))
      ⊎ (timestamps_in (conn_trace after) ≡ timestamps_in (conn_trace before) ++ now ∷ [])
  pub at_calls : timestamps_at_calls (conn_trace after) ≡ timestamps_at_calls (conn_trace before)
  pub latest : now ≤ timestamp (conn_trace after)

-- a descriptor was taken last, and isn't handled yet
pub record HasTakenLast (call : Descriptor) (s : Submissions) : Type 0 where
  pub earlier : Submissions
  pub serving : IsServing earlier
  pub taken : s.calls.taken ≡ earlier.calls.taken ++ call ∷ []
  pub few : length s.calls.taken ≤ 4294967294
  pub of_heap : IsDescriptorOf earlier.calls.heap call
  pub closed : s.calls.closed ≡ earlier.calls.closed
  pub ring_heap : s.calls.heap ≡ earlier.calls.heap
  pub conn : s.conn ≡ earlier.conn
  pub reader : s.reader ≡ earlier.reader
  pub steps : s.steps.now ≡ earlier.steps.now
  pub applied : s.applied ≡ earlier.applied
  pub accepted : s.accepted ≡ earlier.accepted

-- calls advanced as far as they could, and no call was taken and no timestamp recorded
pub record IsDrainAdvance (before after : Connection) : Type 0 where
  pub moments : timestamps_in (conn_trace after) ≡ timestamps_in (conn_trace before)
  pub at_calls : timestamps_at_calls (conn_trace after) ≡ timestamps_at_calls (conn_trace before)
  pub ended : before.ended ≡ true → after.ended ≡ true

-- a visit can be counted in the account of a share
pub record CanCount (visit : Visit) (share : VisitAccount) : Type 0 where
  pub weight : IsWeight share.weight
  pub balanced : IsBalanced share.weight share.account
  pub fits : IsWithinGrant (granted share.weight share.account.kept) visit

-- the visit was counted there
pub record HasCounted (visit : Visit) (old new : VisitAccount) : Type 0 where
  pub weight : new.weight ≡ old.weight
  pub account : new.account ≡ after_visit old.weight old.account visit
  pub balanced : IsBalanced old.weight new.account

-- A visit that left this many rounds of its grant was counted in the visit account, if there is one, which keeps
-- these rounds. Without one, the rounds kept are those that the ending keeps.
abbrev pub IsVisitCounted : Visit → ℕ → Option VisitAccount → Option VisitAccount → ℕ → Type 0
IsVisitCounted visit left (Some old) (Some new) kept = HasCounted visit old new × (kept ≡ new.account.kept)
IsVisitCounted visit left None None kept = kept ≡ kept_rounds visit.ending left
IsVisitCounted visit left _ _ kept = ⊥
