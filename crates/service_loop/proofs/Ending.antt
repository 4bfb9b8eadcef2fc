-- How drains and the end of a link change submissions.
use Rattle.std.proofs.Common.{◌≡◌, ℕ, true, false, List, [], ◌∷◌, map, sym, ◌∙◌, subst, append-nil}
use Rattle.mrpc_base.specs.Failures.{HasCause}
use Rattle.shared_heap.specs.Fresh.{Reading}
use Rattle.descriptor_ring.specs.Rings.{Receiving}
use Rattle.call_history.specs.Trace.{Trace, pending_calls}
use Rattle.call_history.specs.Draining.{HasPartlyDrained, HasDrained}
use Rattle.call_history.specs.Transitions.{IsTransition, ConnState, IsValidState, fails, refused_for_link}
use Rattle.call_history.specs.Frames.{frames_of_trace}
use Rattle.call_history.specs.Positions.{IsSettled}
use Rattle.call_history.specs.Rules.{JudgeContext}
use Rattle.call_history.specs.Tickets.{tickets_of_trace}
use Rattle.call_history.specs.declared.happening.Cause.TheVariants as cause
use Rattle.call_history.specs.declared.happening.Happening.TheVariants.{Refused}
use Rattle.call_history.specs.declared.happening.AcceptedCall.{AcceptedCall}
use Rattle.conn_core.specs.Connections.{Connection, IsSameConnection, conn_trace, conn_state, conn_frames, judge_context}
use Rattle.conn_core.specs.ConnectionSteps.{IsStep}
use Rattle.service_loop.specs.Serving.{IsServed, HasServedCalls}
use Rattle.service_loop.specs.Within.{IsDrainAdvance}
use Rattle.service_loop.specs.declared.scheduled_op.ScheduledOp.{ScheduledOp}
use Rattle.service_loop.specs.declared.submissions.Submissions.{Submissions}
use Rattle.service_loop.proofs.Events.{HandsNone, frames-from, hands-none}
use Rattle.service_loop.proofs.Going.{serves-beside}
use Rattle.service_loop.proofs.Settling.{settled-at-end}
use Rattle.service_loop.proofs.Views.{SameViews, StaysLinked, failed-in, linked-drained, views-failed, views-failing}

-- ---- the end of a link

refused-one : (seq : ℕ) (past : Trace) → HandsNone past (Refused seq cause.Transport ∷ past)
refused-one seq past = record {
  frames = λ T conn. append-nil (frames_of_trace T conn past);
  tickets = λ tenant window. append-nil (tickets_of_trace tenant window past);
}

hands-then : (a b c : Trace) → HandsNone a b → HandsNone b c → HandsNone a c
hands-then a b c ab bc = record {
  frames = λ T conn. bc.frames T conn ∙ ab.frames T conn;
  tickets = λ tenant window. bc.tickets tenant window ∙ ab.tickets tenant window;
}

none-refused : (calls : List AcceptedCall) (past : Trace) → HandsNone past (refused_for_link calls past)
none-refused [] past = hands-none past
none-refused (call ∷ calls) past =
    hands-then past (Refused call.seq cause.Transport ∷ past)
    (refused_for_link calls (Refused call.seq cause.Transport ∷ past)) (refused-one call.seq past)
    (none-refused calls (Refused call.seq cause.Transport ∷ past))

none-failed : (u : JudgeContext) (old new : ConnState) → IsTransition u old fails new → HandsNone old.past new.past
none-failed u old new comes =
    subst (HandsNone old.past) (sym (failed-in u old new comes).past) (none-refused (pending_calls old.past) old.past)

-- submissions whose connection has ended by its link
pub record FailsBy (old new : Submissions) (b : Connection) : Type 0 where
  pub is : new ≡ record old { conn = b }
  pub step : IsStep old.conn fails b
  pub same : IsSameConnection old.conn b
  pub is_valid_state : IsValidState (judge_context new.conn) (conn_state new.conn)

pub frames-failed : (a b : Connection) → IsSameConnection a b → IsStep a fails b → conn_frames b ≡ conn_frames a
frames-failed a b same step = frames-from a b same (none-failed (judge_context a) (conn_state a) (conn_state b) step)

pub tickets-failed : (a b : Connection) → IsStep a fails b → (tenant window : ℕ)
    → tickets_of_trace tenant window (conn_trace b) ≡ tickets_of_trace tenant window (conn_trace a)
tickets-failed a b step = (none-failed (judge_context a) (conn_state a) (conn_state b) step).tickets

served-by : (old : Submissions) (b : Connection) → IsStep old.conn fails b → IsSameConnection old.conn b
    → IsValidState (judge_context b) (conn_state b) → IsServed old → IsServed (record old { conn = b })
served-by old b step same is-course h =
    let views : SameViews (conn_trace old.conn) (conn_trace b) =
    views-failed (judge_context old.conn) (conn_state old.conn) (conn_state b) step in
    let ended : b.ended ≡ true = (failed-in (judge_context old.conn) (conn_state old.conn) (conn_state b) step).ended in
    record {
      serving = serves-beside old.conn b old.reader old.calls old.steps.now old.applied old.accepted same
          (λ is. absurd (let wrong : true ≡ false = sym ended ∙ is in cc)) views.taken views.steps views.away h.serving;
      settled = settled-at-end (judge_context b) (conn_state b) is-course ended;
      finished = h.finished;
      all_came = h.all_came;
    }

pub served-failed : (old new : Submissions) (b : Connection) → FailsBy old new b → IsServed old → IsServed new
served-failed old new b by h =
    subst IsServed (sym by.is)
    (served-by old b by.step by.same
    (subst (λ (s : Submissions). IsValidState (judge_context s.conn) (conn_state s.conn)) by.is by.is_valid_state) h)

-- ---- drains

-- a drain of a connection that hadn't ended: it completed, or its link failed
pub record Ends (failed : Type 0) (a b : Connection) : Type 0 where
  pub unended : a.ended ≡ false
  pub views : SameViews (conn_trace a) (conn_trace b)
  pub settled : IsSettled (judge_context b) (conn_trace b) (map (λ (call : ℕ × ℕ). call.1) b.chain.row)
  pub ends : failed → b.ended ≡ true
  pub failed_so : b.ended ≡ true → failed

pub ends-done : (failed : Type 0) (a b : Connection) → a.ended ≡ false → (failed → ⊥)
    → HasDrained (judge_context a) (conn_state a) (conn_state b)
    → IsSettled (judge_context b) (conn_trace b) (map (λ (call : ℕ × ℕ). call.1) b.chain.row) → Ends failed a b
ends-done failed a b unended none drains settled =
    let linked : StaysLinked (conn_state a) (conn_state b) = linked-drained (judge_context a) (conn_state a) (conn_state b) drains in
    record {
      unended = unended;
      views = linked.views;
      settled = settled;
      ends = λ is. absurd (none is);
      failed_so = λ is. absurd (let wrong : true ≡ false = sym is ∙ linked.ended ∙ unended in cc);
    }

pub ends-failed : (failed : Type 0) (a b : Connection) (between : ConnState) → a.ended ≡ false → failed
    → HasPartlyDrained (judge_context a) (conn_state a) between → IsTransition (judge_context a) between fails (conn_state b)
    → IsValidState (judge_context b) (conn_state b) → Ends failed a b
ends-failed failed a b between unended is begins comes is-course =
    let ended : b.ended ≡ true = (failed-in (judge_context a) between (conn_state b) comes).ended in
    record {
      unended = unended;
      views = views-failing (judge_context a) (conn_state a) between (conn_state b) begins comes;
      settled = settled-at-end (judge_context b) (conn_state b) is-course ended;
      ends = λ is. ended;
      failed_so = λ ended. is;
    }

pub drained-ends : (failed : Type 0) (a b : Connection) → Ends failed a b → IsDrainAdvance a b
drained-ends failed a b h = record {
  moments = h.views.moments;
  at_calls = h.views.at_calls;
  ended = λ is. absurd (let wrong : true ≡ false = sym is ∙ h.unended in cc);
}

pub serves-ends : (failed : Type 0) (a b : Connection) (r : Reading) (ring : Receiving) (steps : List ScheduledOp)
    (applied count : ℕ) → Ends failed a b → IsSameConnection a b → HasServedCalls a r ring steps applied count
    → HasServedCalls b r ring steps applied count
serves-ends failed a b r ring steps applied count h same serves =
    serves-beside a b r ring steps applied count same (λ is. h.unended) h.views.taken h.views.steps h.views.away serves

pub cause-ends : (failed : Type 0) (a b : Connection) (x y : ℕ) → Ends failed a b → HasCause failed x y
    → HasCause ((a.ended ≡ false) × (b.ended ≡ true)) x y
cause-ends failed a b x y h by = record {
  rose = λ both. by.rose (h.failed_so both.1);
  stays = λ none. by.stays (λ is. none (h.unended, h.ends is));
  never_falls = by.never_falls;
}
