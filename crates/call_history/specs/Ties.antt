-- Engines, and calls with their marks, that agree with the trace of a connection (this project's own).
use Rattle.std.specs.Prelude.{◌≡◌, ◌≢◌, ℕ, ◌+◌, ◌<◌, List, [], ◌∷◌, ◌++◌, All, length, map, insert, remove, set, slice_get, Some}
use Rattle.engine_core.specs.Chains.{HasChanged, changed, new_entry, upgraded}
use Rattle.engine_core.specs.Engines.{EngineParts, chain_of_engines, clocked}
use Rattle.engine_core.specs.Marks.{HasMarksUpTo, IsTrueFor, PendingCall, past_of}
use Rattle.engine_core.specs.Policies.{initial_level, level_after_upgrade}
use Rattle.engine_core.specs.Turns.{noted_in}
use Rattle.engine_core.specs.Working.{HasWorked}
use Rattle.engine_core.specs.declared.op.Op.{Op as Operation}
use Rattle.engine_core.specs.declared.op.Op.TheVariants.{Attach, Detach, Upgrade}
use Rattle.engine_core.specs.declared.outcome.Outcome.{Outcome}
use Rattle.engine_core.specs.declared.outcome.Outcome.TheVariants as outcomes
use Rattle.engine_core.specs.declared.policy.Policy.{Policy}
use Rattle.engine_core.specs.Chains.{Entry}
use Rattle.call_history.specs.Trace.{Trace, chain, copied, form, level_in_trace, timestamp, noted, taken}
use Rattle.call_history.specs.Transitions.{with_note}
use Rattle.call_history.specs.Legal.{IsLegalPrefix}
use Rattle.call_history.specs.Rules.{JudgeContext}
use Rattle.call_history.specs.declared.happening.Happening.TheVariants.{Took, Op, Moment, Redacted}
use Rattle.call_history.specs.declared.happening.AcceptedCall.{AcceptedCall}

-- an engine has the level and the timestamp that follow from the trace
pub record IsEngineOfTrace (past : Trace) (e : EngineParts) : Type 0 where
  pub level : e.level ≡ level_in_trace e.entry.name past
  pub last : e.last ≡ timestamp past

-- A call is in its form. Its marks agree with what was noted of it since the attachment of each engine, and no mark is
-- wrong.
pub record IsCallOfTrace (conn : ℕ) (past : Trace) (engines : List EngineParts) (attached : ℕ) (s : PendingCall)
    : Type 0 where
  pub is_form : form conn s.call.seq past ≡ Some s.call
  pub notes : All (λ e. past_of s.marks e.entry.attach ≡ noted e.entry.name s.call.seq past) engines
  pub marked : HasMarksUpTo attached s
  pub true_for : All (λ e. IsTrueFor e.entry s) engines

-- the engines, after `attached` attachments, and the calls with their marks agree with the trace
pub record AreTied (conn : ℕ) (past : Trace) (engines : List EngineParts) (attached : ℕ) (calls : List PendingCall)
    : Type 0 where
  pub same_chain : chain_of_engines engines attached ≡ chain past
  pub engines_of_trace : All (IsEngineOfTrace past) engines
  pub calls_of_trace : All (IsCallOfTrace conn past engines attached) calls

-- no pending call of the list has this number
abbrev pub IsNumberApart : ℕ → List PendingCall → Type 0
IsNumberApart seq calls = All (λ s. s.call.seq ≢ seq) calls

-- no two calls have one number
abbrev pub AreNumbersApart : List PendingCall → Type 0
AreNumbersApart [] = Unit {0}
AreNumbersApart (s ∷ calls) = IsNumberApart s.call.seq calls × AreNumbersApart calls

-- the trace after a turn of an entry for a call, before a refusal of the call
abbrev pub worked : Entry → ℕ → Outcome → Trace → Trace
worked e seq outcomes.Redacted past = Redacted seq e.name e.version ∷ past
worked e seq outcome past = with_note e.name seq (noted_in outcome) past

-- ---- after one more event

-- In each law, engines and calls agree with a trace. After an event, the changed engines and calls agree with the trace
-- that has that event too.

-- the call has the next number: one more than there are accepted calls
abbrev pub HasNextNumber : Trace → AcceptedCall → Type 0
HasNextNumber past call = call.seq ≡ length (taken past) + 1

-- the pending call is the copy that was made of an accepted one
abbrev pub IsAcceptedCopy : ℕ → AcceptedCall → PendingCall → Type 0
IsAcceptedCopy conn call s = copied conn call call.copy ≡ Some s.call

-- no engine has marked the pending call
abbrev pub IsUnmarked : PendingCall → Type 0
IsUnmarked s = s.marks ≡ []

-- a call of the next number is accepted: its copy joins the pending calls, without a mark
abbrev pub AreTiedAfterAcceptance : Type 0
AreTiedAfterAcceptance = (u : JudgeContext) (past : Trace) (engines : List EngineParts) (attached : ℕ) (calls : List PendingCall)
    (call : AcceptedCall) (s : PendingCall) → IsLegalPrefix u past → AreTied u.conn past engines attached calls
    → IsNumberApart call.seq calls → HasNextNumber past call → IsAcceptedCopy u.conn call s → IsUnmarked s
    → AreTied u.conn (Took call ∷ past) engines attached (calls ++ s ∷ [])

-- the operation is valid for the chain that follows from the trace
abbrev pub IsApplicable : Trace → Operation → Type 0
IsApplicable past operation = HasChanged (chain past) operation (changed operation (chain past))

-- the engine of a new entry: its policy's first level, as of the latest timestamp
abbrev pub new_engine : Trace → Entry → EngineParts
new_engine past entry = record { entry = entry; level = initial_level entry.policy; last = timestamp past }

-- an entry is attached: its engine joins the others at its position, under the next attachment number
abbrev pub AreTiedAfterAttach : Type 0
AreTiedAfterAttach = (conn : ℕ) (past : Trace) (engines : List EngineParts) (attached : ℕ) (calls : List PendingCall)
    (at : ℕ) (name label : List ℕ) (policy : Policy) → AreTied conn past engines attached calls
    → IsApplicable past (Attach at name label policy)
    → AreTied conn (Op (Attach at name label policy) ∷ past)
    (insert engines at (new_engine past (new_entry name (attached + 1) policy))) (attached + 1) calls

-- the engine is at this position of the chain
abbrev pub IsEngineAt : List EngineParts → ℕ → EngineParts → Type 0
IsEngineAt engines position e = slice_get engines position ≡ Some e

-- the engine's entry has this name
abbrev pub IsEngineNamed : List ℕ → EngineParts → Type 0
IsEngineNamed name e = e.entry.name ≡ name

-- the entry of a name is detached: its engine leaves
abbrev pub AreTiedAfterDetach : Type 0
AreTiedAfterDetach = (u : JudgeContext) (past : Trace) (engines : List EngineParts) (attached : ℕ) (calls : List PendingCall)
    (name : List ℕ) (place : ℕ) (e : EngineParts) → IsLegalPrefix u past → AreTied u.conn past engines attached calls
    → IsEngineAt engines place e → IsEngineNamed name e
    → AreTied u.conn (Op (Detach name) ∷ past) (remove engines place) attached calls

-- the second engine is the first with another policy: a level that is converted, and the same timestamp; and marks that
-- were true for the first are true for it
pub record IsUpgradedEngine (policy : Policy) (e e' : EngineParts) : Type 0 where
  pub entry : e'.entry ≡ upgraded e.entry policy
  pub level : e'.level ≡ level_after_upgrade e.entry.policy policy e.level
  pub last : e'.last ≡ e.last
  pub true_for : (s : PendingCall) → IsTrueFor e.entry s → IsTrueFor e'.entry s

-- the entry of a name gets another policy: its engine is replaced
abbrev pub AreTiedAfterUpgrade : Type 0
AreTiedAfterUpgrade = (u : JudgeContext) (past : Trace) (engines : List EngineParts) (attached : ℕ) (calls : List PendingCall)
    (name label : List ℕ) (policy : Policy) (place : ℕ) (e e' : EngineParts) → IsLegalPrefix u past
    → AreTied u.conn past engines attached calls → IsEngineAt engines place e → IsEngineNamed name e
    → IsUpgradedEngine policy e e'
    → AreTied u.conn (Op (Upgrade name label policy) ∷ past) (set engines place e') attached calls

-- each engine after a later timestamp
abbrev pub all_clocked : ℕ → List EngineParts → List EngineParts
all_clocked now engines = map (λ e. clocked now e) engines

-- the clock advances to a later timestamp: time passes for each engine
abbrev pub AreTiedAfterTimestamp : Type 0
AreTiedAfterTimestamp = (u : JudgeContext) (past : Trace) (engines : List EngineParts) (attached : ℕ) (calls : List PendingCall)
    (now : ℕ) → IsLegalPrefix u past → AreTied u.conn past engines attached calls → timestamp past < now
    → AreTied u.conn (Moment now ∷ past) (all_clocked now engines) attached calls

-- an engine has worked on a call: both are replaced, and the event records the outcome
abbrev pub AreTiedAfterTurn : Type 0
AreTiedAfterTurn = (u : JudgeContext) (past : Trace) (engines : List EngineParts) (attached : ℕ) (calls : List PendingCall)
    (position place now : ℕ) (outcome : Outcome) (engines' : List EngineParts) (calls' : List PendingCall)
    → IsLegalPrefix u past → AreTied u.conn past engines attached calls → AreNumbersApart calls
    → (w : HasWorked engines calls position place now outcome engines' calls')
    → AreTied u.conn (worked w.engine.entry w.call.call.seq outcome past) engines' attached calls'
