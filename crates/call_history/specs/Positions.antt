-- Legal positions of calls on a chain (this project's own).
use Rattle.std.specs.Prelude.{◌≡◌, ℕ, ◌<◌, ◌≤◌, List, length, take, All, Some, slice_get}
use Rattle.std.specs.List.{AllZip}
use Rattle.engine_core.specs.Answers.{hold}
use Rattle.engine_core.specs.Chains.{Entry}
use Rattle.call_history.specs.Trace.{Trace, chain, pending_calls}
use Rattle.call_history.specs.Rules.{JudgeContext, IsAllowedInTrace, IsAnswerInTrace}
use Rattle.call_history.specs.declared.happening.AcceptedCall.{AcceptedCall}

-- positions never increase along the calls
abbrev pub AreNonIncreasing : List ℕ → Type 0
AreNonIncreasing positions = (i j p q : ℕ) → i < j → slice_get positions i ≡ Some p → slice_get positions j ≡ Some q → q ≤ p

-- a legal position of a call: at most the length of the chain, and every entry before it lets the call pass
pub record IsLegalPosition (u : JudgeContext) (past : Trace) (call : AcceptedCall) (position : ℕ) : Type 0 where
  pub within : position ≤ length (chain past).entries
  pub allowed : All (IsAllowedInTrace u past call.seq) (take position (chain past).entries)

-- legal positions of the pending calls, in order, that never increase
pub record AreLegalPositions (u : JudgeContext) (past : Trace) (positions : List ℕ) : Type 0 where
  pub each : AllZip (IsLegalPosition u past) (pending_calls past) positions
  pub never_rise : AreNonIncreasing positions

-- The call is the first at its position: all calls with smaller numbers are at later positions.
pub record IsHead (past : Trace) (positions : List ℕ) (call : AcceptedCall) (position : ℕ) : Type 0 where
  pub place : ℕ
  pub is_call : slice_get (pending_calls past) place ≡ Some call
  pub at : slice_get positions place ≡ Some position
  pub first : (i p : ℕ) → i < place → slice_get positions i ≡ Some p → position < p

-- the entry at the call's position holds it, at this level and cost
pub record IsHeld (u : JudgeContext) (past : Trace) (call : AcceptedCall) (position level cost : ℕ) : Type 0 where
  pub entry : Entry
  pub at : slice_get (chain past).entries position ≡ Some entry
  pub holds : IsAnswerInTrace u past entry call.seq (hold level cost)

-- no call can advance: none is at the end of the chain, and the first call at each position is held there
pub record IsSettled (u : JudgeContext) (past : Trace) (positions : List ℕ) : Type 0 where
  pub none_ready : All (λ p. p < length (chain past).entries) positions
  pub held : (call : AcceptedCall) (position : ℕ) → IsHead past positions call position
      → (level : ℕ) × (cost : ℕ) × IsHeld u past call position level cost
