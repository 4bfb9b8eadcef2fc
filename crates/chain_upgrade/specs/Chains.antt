-- A chain as contracts see it: its engines and its pending calls, without queues (this project's own).
use Rattle.std.specs.Prelude.{◌≡◌, ℕ, ◌<◌, ◌≤◌, List, [], ◌∷◌, ◌++◌, map, length, set, slice_get, All, Option, Some, None}
use Rattle.engine_core.specs.Chains.{Chain, IsChain, Refusal, no_such, taken, no_place, full, other_kind}
use Rattle.engine_core.specs.Engines as parts
use Rattle.engine_core.specs.Engines.{EngineParts}
use Rattle.engine_core.specs.declared.call_row.TheConstants.{MAX_CALLS}
use Rattle.engine_core.specs.Marks.{HasMarksUpTo, IsTrueFor, PendingCall, past_of, seqs_of}
use Rattle.engine_core.specs.Moves.{Row, first_at, advanced, without_call, restarted}
use Rattle.engine_core.specs.Policies.{IsPolicy}
use Rattle.engine_core.specs.Turns.{IsTurnOutcome}
use Rattle.engine_core.specs.Working.{IsTurn, HasKeptMarksOf, IsCallAfter, IsEngineAfter, AreMarksAfterTurn}
use Rattle.engine_core.specs.declared.outcome.Noted.TheVariants.{Nothing}
use Rattle.engine_core.specs.declared.outcome.Outcome.{Outcome}
use Rattle.engine_core.specs.declared.outcome.Outcome.TheVariants as outcomes
use Rattle.chain_upgrade.specs.declared.turned.Turned.{Turned}
use Rattle.chain_upgrade.specs.declared.turned.Turned.TheVariants.{Idle, Moved, Held, Refused, Redacted}
use Rattle.chain_upgrade.specs.declared.fault.ChainFault.{ChainFault}
use Rattle.chain_upgrade.specs.declared.fault.ChainFault.TheVariants.{NoSuch, Taken, At, ChainFull, OtherKind, Memory}

-- The engines are in the order in which they judge; `attached` is the number of attachments so far. The pending calls
-- are by ascending number, and the row has their numbers and positions. The number of engines is the position for
-- transport.
pub record ChainParts : Type 0 where
  pub engines : List EngineParts
  pub attached : ℕ
  pub calls : List PendingCall
  pub row : Row

-- the entries of the engines, with the number of attachments
abbrev pub chain_of_state : ChainParts → Chain
chain_of_state c = parts.chain_of_engines c.engines c.attached

-- numbers ascend, and all are above a number
abbrev pub AreAscendingAbove : ℕ → List ℕ → Type 0
AreAscendingAbove low [] = Unit {0}
AreAscendingAbove low (number ∷ numbers) = (low < number) × AreAscendingAbove number numbers

-- numbers ascend
abbrev pub AreAscending : List ℕ → Type 0
AreAscending [] = Unit {0}
AreAscending (number ∷ numbers) = AreAscendingAbove number numbers

-- positions never rise, and all are at most this
abbrev pub IsFallingFrom : ℕ → Row → Type 0
IsFallingFrom position [] = Unit {0}
IsFallingFrom position (call ∷ row) = (call.1 ≤ position) × IsFallingFrom call.1 row

-- these calls may be pending on these engines, after `attached` attachments
pub record ArePendingOn (engines : List EngineParts) (attached : ℕ) (calls : List PendingCall) : Type 0 where
  -- at most eight entries, whose names and attachments are distinct
  pub chain : IsChain (parts.chain_of_engines engines attached)
  pub policies : All (λ e. IsPolicy e.entry.policy) engines
  -- at most 64 calls, by ascending number
  pub few : length calls ≤ MAX_CALLS
  pub ascend : AreAscending (seqs_of calls)
  -- marks are of past attachments alone, and true for each entry
  pub marks : All (λ s. HasMarksUpTo attached s) calls
  pub true_for : All (λ e. All (λ s. IsTrueFor e.entry s) calls) engines

-- the invariant of chains
pub record IsChainState (c : ChainParts) : Type 0 where
  pub stands : ArePendingOn c.engines c.attached c.calls
  -- the row has these calls, and no call is at a later position than one with a smaller number
  pub row : map (λ call. call.0) c.row ≡ seqs_of c.calls
  pub falls : IsFallingFrom (length c.engines) c.row

-- ---- turns

-- a property of the call's number and the outcome of a turn, if there was a call
abbrev pub OnTurn : Turned → (ℕ → Outcome → Type 0) → Type 0
OnTurn Idle Holds = Unit {0}
OnTurn (Moved seq noted) Holds = Holds seq (outcomes.Passed noted)
OnTurn (Held seq level cost) Holds = Holds seq (outcomes.Held level cost)
OnTurn (Refused seq noted why) Holds = Holds seq (outcomes.Refused noted why)
OnTurn (Redacted seq) Holds = Holds seq outcomes.Redacted

-- The row after a turn with this outcome for the call with a number. One that passed advances, and a refused one is
-- removed. After a redaction it starts over, with the calls of greater numbers.
abbrev pub row_after : ℕ → Outcome → Row → Row
row_after seq (outcomes.Passed noted) row = advanced seq row
row_after seq (outcomes.Held level cost) row = row
row_after seq (outcomes.Refused noted why) row = without_call seq row
row_after seq outcomes.Redacted row = restarted seq row

-- the calls after a turn with this outcome for one of them: a refused one is removed
abbrev pub calls_after : Outcome → List PendingCall → PendingCall → List PendingCall → List PendingCall
calls_after (outcomes.Refused noted why) front call back = front ++ back
calls_after _ front call back = front ++ call ∷ back

-- the engine at a position has a turn with the call with a number; `call'` and `engine'` are their states afterwards
pub record IsEngineTurn (before : ChainParts) (position moment seq : ℕ) (outcome : Outcome)
    (after : ChainParts) : Type 0 where
  pub engine : EngineParts
  pub engine' : EngineParts
  pub is_engine : slice_get before.engines position ≡ Some engine
  pub engines : after.engines ≡ set before.engines position engine'
  pub call : PendingCall
  pub call' : PendingCall
  pub number : call.call.seq ≡ seq
  pub front : List PendingCall
  pub back : List PendingCall
  pub calls_before : before.calls ≡ front ++ call ∷ back
  pub calls : after.calls ≡ calls_after outcome front call' back
  -- the turn is that of an entry with the notes of the marks
  pub comes : IsTurnOutcome engine.entry.policy engine.level moment call.call
      (past_of call.marks engine.entry.attach) outcome
  -- the call as the engine gets it, with its marks of the chain's engines alone
  pub met : PendingCall
  pub keeps : HasKeptMarksOf before.engines call met
  pub turn : IsTurn engine moment met outcome
  pub leaves_engine : IsEngineAfter outcome engine engine'
  pub leaves_call : IsCallAfter engine.entry.policy outcome call.call call'.call
  pub leaves_marks : AreMarksAfterTurn engine.entry outcome met call'

-- the first call at a position advances, by a turn that notes nothing
pub record IsUnnotedPass (before : ChainParts) (position : ℕ) (after : ChainParts) : Type 0 where
  pub seq : ℕ
  pub first : first_at position before.row ≡ Some (seq, position)
  pub turn : (moment : ℕ) → IsEngineTurn before position moment seq (outcomes.Passed Nothing) after
  pub row : after.row ≡ advanced seq before.row
  pub attached : after.attached ≡ before.attached

-- ---- faults

-- the reason that a fault reports; out of memory has none
abbrev pub refusal_in : ChainFault → Option Refusal
refusal_in (NoSuch name) = Some (no_such name)
refusal_in (Taken name) = Some (taken name)
refusal_in (At position) = Some (no_place position)
refusal_in (ChainFull engines) = Some (full engines)
refusal_in (OtherKind name) = Some (other_kind name)
refusal_in Memory = None
