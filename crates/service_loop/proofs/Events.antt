-- The events of an operation, a timestamp and an acceptance.
use Rattle.std.proofs.Common.{◌≡◌, ℕ, [], ◌∷◌, ◌++◌, refl, ap, sym, ◌∙◌, subst, append-nil}
use Rattle.mrpc_table.specs.declared.table.Table.{Table}
use Rattle.engine_core.specs.declared.op.Op.{Op as Step}
use Rattle.call_history.specs.Trace.{Trace, timestamp, taken}
use Rattle.call_history.specs.Transitions.{IsTransition, ConnState, accepts, changes, has_turn, is_away, is_sent, link_failed, operates, rises, stays, takes}
use Rattle.call_history.specs.Frames.{frames_of_trace}
use Rattle.call_history.specs.Rules.{MayTake, JudgeContext}
use Rattle.call_history.specs.Tickets.{tickets_of_trace}
use Rattle.call_history.specs.declared.happening.Cause.TheVariants as cause
use Rattle.call_history.specs.declared.happening.Happening.TheVariants.{Op, Refused, Took}
use Rattle.call_history.specs.declared.happening.AcceptedCall.{AcceptedCall}
use Rattle.call_history.specs.declared.happening.TookCopy.{TookCopy}
use Rattle.call_history.specs.declared.happening.TookCopy.TheVariants.{Copy, Malformed}
use Rattle.conn_core.specs.Connections.{Connection, IsSameConnection, conn_trace, conn_frames}
use Rattle.service_loop.specs.Calls.{timestamps_at_calls, timestamps_in, rejected_count}
use Rattle.service_loop.specs.ScheduledOps.{applied_ops}

-- ---- what is sent and drawn

-- the new events send nothing and draw nothing
pub record HandsNone (past new : Trace) : Type 0 where
  pub frames : (T : Table) (conn : ℕ) → frames_of_trace T conn new ≡ frames_of_trace T conn past
  pub tickets : (tenant window : ℕ) → tickets_of_trace tenant window new ≡ tickets_of_trace tenant window past

pub hands-none : (past : Trace) → HandsNone past past
hands-none past = record { frames = λ T conn. refl; tickets = λ tenant window. refl }

pub frames-from : (a b : Connection) → IsSameConnection a b → HandsNone (conn_trace a) (conn_trace b) → conn_frames b ≡ conn_frames a
frames-from a b same none =
    ap (λ (T : Table). frames_of_trace T b.conn (conn_trace b)) same.table ∙ ap
    (λ (n : ℕ). frames_of_trace a.table n (conn_trace b)) same.conn
    ∙ none.frames a.table a.conn

-- ---- an operation of an operator

pub record HasStepped (old new : ConnState) (step : Step) : Type 0 where
  pub past : new.past ≡ Op step ∷ old.past
  pub ended : new.ended ≡ old.ended

pub stepped-in : (u : JudgeContext) (old new : ConnState) (step : Step) → IsTransition u old (operates step) new
    → HasStepped old new step
stepped-in u old new step (takes call is running may new-is) = absurd cc
stepped-in u old new step (is_away method number addr is full new-is) = absurd cc
stepped-in u old new step (changes s is may new-is) =
    let same : s ≡ step = cc in
    record {
      past = ap (λ (c : ConnState). c.past) new-is ∙ ap (λ (x : Step). Op x ∷ old.past) same;
      ended = ap (λ (c : ConnState). c.ended) new-is;
    }
stepped-in u old new step (rises ms is above new-is) = absurd cc
stepped-in u old new step (stays ms is below new-is) = absurd cc
stepped-in u old new step (has_turn p s o e is has new-is) = absurd cc
stepped-in u old new step (is_sent s bytes is running ready new-is) = absurd cc
stepped-in u old new step (link_failed is new-is) = absurd cc

-- ---- an acceptance

-- a call was accepted, and nothing else
pub record TakesIn (call : AcceptedCall) (past new : Trace) : Type 0 where
  pub taken : taken new ≡ taken past ++ call ∷ []
  pub steps : applied_ops new ≡ applied_ops past
  pub moments : timestamps_in new ≡ timestamps_in past
  pub at_calls : timestamps_at_calls new ≡ timestamps_at_calls past ++ timestamp past ∷ []
  pub away : rejected_count new ≡ rejected_count past
  pub moment : timestamp new ≡ timestamp past
  pub none : HandsNone past new

takes-one : (call : AcceptedCall) (past : Trace) → TakesIn call past (Took call ∷ past)
takes-one call past = record {
  taken = refl;
  steps = refl;
  moments = refl;
  at_calls = refl;
  away = refl;
  moment = refl;
  none = record {
    frames = λ T conn. append-nil (frames_of_trace T conn past);
    tickets = λ tenant window. append-nil (tickets_of_trace tenant window past);
  };
}

takes-refused : (call : AcceptedCall) (past : Trace) → TakesIn call past (Refused call.seq cause.Malformed ∷ Took call ∷ past)
takes-refused call past = record {
  taken = refl;
  steps = refl;
  moments = refl;
  at_calls = refl;
  away = refl;
  moment = refl;
  none = record {
    frames = λ T conn. append-nil (frames_of_trace T conn (Took call ∷ past)) ∙ append-nil (frames_of_trace T conn past);
    tickets = λ tenant window.
        append-nil (tickets_of_trace tenant window (Took call ∷ past)) ∙ append-nil (tickets_of_trace tenant window past);
  };
}

-- the state after it
record GoesBy (call : AcceptedCall) (old new : ConnState) : Type 0 where
  views : TakesIn call old.past new.past
  ended : new.ended ≡ old.ended

goes-by : (copy : TookCopy) (call : AcceptedCall) (c : ConnState) → GoesBy call c (elim copy [
  | Copy tree ↦ record c { past = Took call ∷ c.past; row = c.row ++ (call.seq, 0) ∷ [] }
  | Malformed reason place value ↦ record c { past = Refused call.seq cause.Malformed ∷ Took call ∷ c.past }
])
goes-by (Copy tree) call c = record { views = takes-one call c.past; ended = refl }
goes-by (Malformed reason place value) call c = record { views = takes-refused call c.past; ended = refl }

pub record HasAccepted (u : JudgeContext) (call : AcceptedCall) (old new : ConnState) : Type 0 where
  pub may : MayTake u old.past call
  pub views : TakesIn call old.past new.past
  pub ended : new.ended ≡ old.ended

pub accepted-in : (u : JudgeContext) (old new : ConnState) (call : AcceptedCall) → IsTransition u old (accepts call) new
    → HasAccepted u call old new
accepted-in u old new call (takes other is running may new-is) =
    let same : other ≡ call = cc in
    subst (λ (x : AcceptedCall). HasAccepted u x old new) same (record {
      may = may;
      views = subst (λ (c : ConnState). TakesIn other old.past c.past) (sym new-is) (goes-by other.copy other old).views;
      ended = ap (λ (c : ConnState). c.ended) new-is ∙ (goes-by other.copy other old).ended;
    })
accepted-in u old new call (is_away method number addr is full new-is) = absurd cc
accepted-in u old new call (changes s is may new-is) = absurd cc
accepted-in u old new call (rises ms is above new-is) = absurd cc
accepted-in u old new call (stays ms is below new-is) = absurd cc
accepted-in u old new call (has_turn p s o e is has new-is) = absurd cc
accepted-in u old new call (is_sent s bytes is running ready new-is) = absurd cc
accepted-in u old new call (link_failed is new-is) = absurd cc
