-- The transitions of a connection: what each adds to the history, and how it moves calls along the chain (this
-- project's own).
use Rattle.std.specs.Prelude.{◌≡◌, ℕ, ◌+◌, ◌<◌, ◌≤◌, Bool, true, false, List, [], ◌∷◌, ◌++◌, All, Contains, length, map, Some, slice_get}
use Rattle.frame_transport.specs.declared.format.TheConstants.{HEADER_LEN}
use Rattle.policy_access.specs.Verdict.{rule_name}
use Rattle.mrpc_table.specs.declared.call.Call.{Call}
use Rattle.engine_core.specs.Answers.{nothing}
use Rattle.engine_core.specs.Chains.{HasChanged, Entry, changed}
use Rattle.engine_core.specs.Moves.{Row, first_at, advanced, restarted, without_call, moved_by}
use Rattle.engine_core.specs.Turns.{IsTurnOutcome}
use Rattle.engine_core.specs.declared.op.Op.{Op as Step}
use Rattle.engine_core.specs.declared.outcome.Noted.{Noted}
use Rattle.engine_core.specs.declared.outcome.Noted.TheVariants as notes
use Rattle.engine_core.specs.declared.outcome.Outcome.{Outcome}
use Rattle.engine_core.specs.declared.outcome.Outcome.TheVariants as outcomes
use Rattle.engine_core.specs.declared.outcome.Why.{Why}
use Rattle.engine_core.specs.declared.outcome.Why.TheVariants.{Denied, Short, Over}
use Rattle.engine_core.specs.declared.policy.Policy.{Policy}
use Rattle.engine_core.specs.declared.policy.Policy.TheVariants.{Access}
use Rattle.call_history.specs.Trace.{Trace, chain, timestamp, level_in_trace, noted, noted_calls, pending_calls, has_failed, form}
use Rattle.call_history.specs.Legal.{IsLegalTrace}
use Rattle.call_history.specs.Positions.{AreLegalPositions}
use Rattle.call_history.specs.Rules.{JudgeContext, MayTake, payload}
use Rattle.call_history.specs.declared.happening.Cause.{Cause}
use Rattle.call_history.specs.declared.happening.Cause.TheVariants as cause
use Rattle.call_history.specs.declared.happening.Happening.TheVariants.{Took, Away, Op, Moment, Charged, Drawn, Counted, Redacted, Sent, Refused}
use Rattle.call_history.specs.declared.happening.AcceptedCall.{AcceptedCall}
use Rattle.engine_core.specs.declared.call_row.TheConstants.{MAX_CALLS}
use Rattle.call_history.specs.declared.happening.TookCopy.TheVariants.{Copy, Malformed}

-- a connection between two transitions: its trace, the positions of its calls, and whether its link failed
pub record ConnState : Type 0 where
  pub past : Trace
  pub row : Row
  pub ended : Bool

-- ---- turns

-- the trace after a note
abbrev pub with_note : List ℕ → ℕ → Noted → Trace → Trace
with_note name seq notes.Nothing past = past
with_note name seq (notes.Charged left) past = Charged seq name left ∷ past
with_note name seq (notes.Drawn window ticket) past = Drawn seq name window ticket ∷ past
with_note name seq notes.Counted past = Counted seq name ∷ past

-- the name of the rule at an index of a policy; empty for a policy without rules
abbrev pub rule_name_at : Policy → ℕ → List ℕ
rule_name_at (Access policy) place = rule_name policy place
rule_name_at _ place = []

-- the cause of a refusal by an entry
abbrev pub cause_of : Entry → Why → Cause
cause_of e (Denied rule) = cause.Access e.name e.version (rule_name_at e.policy rule)
cause_of e (Short left cost) = cause.Rate e.name left cost
cause_of e (Over ticket cap) = cause.Quota e.name ticket cap

-- the state after a turn of an entry with this outcome for a call
abbrev pub trace_after_turn : Entry → ℕ → Outcome → ConnState → ConnState
trace_after_turn e seq (outcomes.Passed n) c = record c { past = with_note e.name seq n c.past; row = advanced seq c.row }
trace_after_turn e seq (outcomes.Held left cost) c = c
trace_after_turn e seq (outcomes.Refused n why) c = record c {
  past = Refused seq (cause_of e why) ∷ with_note e.name seq n c.past;
  row = without_call seq c.row;
}
trace_after_turn e seq outcomes.Redacted c = record c {
  past = Redacted seq e.name e.version ∷ c.past;
  row = restarted seq c.row;
}

-- ---- transitions

-- a transition of a connection
pub data Transition : Type 0 where
  -- a call is accepted; a malformed one is refused at once
  accepts : AcceptedCall → Transition
  -- a submission is rejected, since `MAX_CALLS` calls are pending
  turns_away : (method number addr : ℕ) → Transition
  operates : Step → Transition
  -- the clock reads a timestamp
  shows : ℕ → Transition
  -- the entry at a position has a turn with this outcome for a call
  turns : (position seq : ℕ) → Outcome → Transition
  -- a call is sent in a frame of this many bytes
  sends : (seq bytes : ℕ) → Transition
  -- the link fails
  fails : Transition

-- the state after an acceptance
abbrev pub accepted : AcceptedCall → ConnState → ConnState
accepted call c = elim call.copy [
  | Copy tree ↦ record c { past = Took call ∷ c.past; row = c.row ++ (call.seq, 0) ∷ [] }
  | Malformed reason place value ↦ record c { past = Refused call.seq cause.Malformed ∷ Took call ∷ c.past }
]

-- calls are refused for the failed link, in order
abbrev pub refused_for_link : List AcceptedCall → Trace → Trace
refused_for_link [] past = past
refused_for_link (call ∷ calls) past = refused_for_link calls (Refused call.seq cause.Transport ∷ past)

-- the entry at a position has a turn with the first call there
pub record IsEntryTurn (u : JudgeContext) (c : ConnState) (position seq : ℕ) (outcome : Outcome) (e : Entry) : Type 0 where
  pub entry : slice_get (chain c.past).entries position ≡ Some e
  pub first : first_at position c.row ≡ Some (seq, position)
  pub call : Call
  pub is_form : form u.conn seq c.past ≡ Some call
  pub comes : IsTurnOutcome e.policy (level_in_trace e.name c.past) (timestamp c.past) call (noted e.name seq c.past) outcome

-- the first call at the end of the chain has this number, and the frame of its form this many bytes
pub record IsReady (u : JudgeContext) (c : ConnState) (seq bytes : ℕ) : Type 0 where
  pub first : first_at (length (chain c.past).entries) c.row ≡ Some (seq, length (chain c.past).entries)
  pub sent : Call
  pub is_form : form u.conn seq c.past ≡ Some sent
  pub long : bytes ≡ HEADER_LEN + length (payload u.table sent)

-- a transition leads from one state to the next
pub data IsTransition (u : JudgeContext) (old : ConnState) (event : Transition) (new : ConnState) : Type 0 where
  takes : (call : AcceptedCall) → event ≡ accepts call → old.ended ≡ false → MayTake u old.past call
      → new ≡ accepted call old → IsTransition u old event new
  is_away : (method number addr : ℕ) → event ≡ turns_away method number addr → length (pending_calls old.past) ≡ MAX_CALLS
      → new ≡ record old { past = Away method number addr ∷ old.past } → IsTransition u old event new
  changes : (step : Step) → event ≡ operates step → HasChanged (chain old.past) step (changed step (chain old.past))
      → new ≡ record old { past = Op step ∷ old.past; row = moved_by step (chain old.past).entries old.row }
      → IsTransition u old event new
  rises : (ms : ℕ) → event ≡ shows ms → timestamp old.past < ms
      → new ≡ record old { past = Moment ms ∷ old.past } → IsTransition u old event new
  -- a timestamp that isn't later than the last changes nothing
  stays : (ms : ℕ) → event ≡ shows ms → ms ≤ timestamp old.past → new ≡ old → IsTransition u old event new
  has_turn : (position seq : ℕ) (outcome : Outcome) (e : Entry) → event ≡ turns position seq outcome
      → IsEntryTurn u old position seq outcome e → new ≡ trace_after_turn e seq outcome old → IsTransition u old event new
  is_sent : (seq bytes : ℕ) → event ≡ sends seq bytes → old.ended ≡ false → IsReady u old seq bytes
      → new ≡ record old { past = Sent seq bytes ∷ old.past; row = without_call seq old.row } → IsTransition u old event new
  -- the pending calls are refused
  link_failed : event ≡ fails
      → new ≡ record { past = refused_for_link (pending_calls old.past) old.past; row = []; ended = true }
      → IsTransition u old event new

-- transitions lead from one state to another, one after the other
abbrev pub AreTransitions : JudgeContext → ConnState → List Transition → ConnState → Type 0
AreTransitions u old [] new = new ≡ old
AreTransitions u old (event ∷ events) new = (next : ConnState) × IsTransition u old event next × AreTransitions u next events new

-- the initial state of a connection
abbrev pub initial_state : ConnState
initial_state = record { past = []; row = []; ended = false }

-- if an entry has noted nothing of a pending call, the call's number is greater than that of every call it has
-- noted
abbrev pub AreNotesAscending : Trace → Type 0
AreNotesAscending past = (name : List ℕ) (seq : ℕ) → Contains (map (λ call. call.seq) (pending_calls past)) seq
    → noted name seq past ≡ nothing → All (λ other. other < seq) (noted_calls name past)

-- The invariant of a connection between transitions. Its history is legal, and its row has exactly the pending
-- calls, in order, at legal positions. Entries note calls in order, and after a failure of the link no call is
-- pending.
pub record IsValidState (u : JudgeContext) (c : ConnState) : Type 0 where
  pub legal : IsLegalTrace u c.past
  pub calls : map (λ call. call.0) c.row ≡ map (λ call. call.seq) (pending_calls c.past)
  pub places : AreLegalPositions u c.past (map (λ call. call.1) c.row)
  pub notes_ascend : AreNotesAscending c.past
  pub failed : has_failed c.past ≡ true → c.ended ≡ true
  pub none_left : c.ended ≡ true → c.row ≡ []
