-- How many entries are known to let each pending call pass, and what an entry answers to one of them.
use Rattle.std.specs.Prelude.{◌≡◌, ℕ, ◌<◌, ◌≤◌, List, [], ◌∷◌, All, length, take, slice_get, Some}
use Rattle.std.specs.List.{AllZip}
use Rattle.engine_core.specs.Answers.{Answer, pass, note, hold, redact}
use Rattle.engine_core.specs.Chains.{Entry}
use Rattle.engine_core.specs.Engines.{EngineParts}
use Rattle.engine_core.specs.Marks.{PendingCall, seqs_of}
use Rattle.engine_core.specs.Turns.{refusal}
use Rattle.engine_core.specs.declared.outcome.Noted.TheVariants.{Nothing}
use Rattle.engine_core.specs.declared.outcome.Outcome.{Outcome}
use Rattle.engine_core.specs.declared.outcome.Outcome.TheVariants.{Passed, Held, Refused, Redacted}
use Rattle.call_history.specs.Trace.{Trace, chain, timestamp}
use Rattle.call_history.specs.Legal.{IsLegalPrefix}
use Rattle.call_history.specs.Rules.{IsAnswerInTrace, IsAt, IsAllowedInTrace, JudgeContext}
use Rattle.call_history.specs.Ties.{AreTied, worked}
use Rattle.audit_rules.specs.declared.ask.EntryOutcome.{EntryOutcome}

-- numbers strictly ascend, starting above one number, and none is above another
abbrev pub IsRising : (below top : ℕ) → List ℕ → Type 0
IsRising below top [] = Unit {0}
IsRising below top (n ∷ numbers) = (below < n) × (n ≤ top) × IsRising n top numbers

-- this many entries from the first let a call pass
abbrev pub HasPassedFirst : JudgeContext → Trace → ℕ → ℕ → Type 0
HasPassedFirst u past seq reached = All (IsAllowedInTrace u past seq) (take reached (chain past).entries)

-- The trace leads to these engines and these calls, and this many entries from the first let each of the calls pass.
pub record IsRowOfTrace (u : JudgeContext) (past : Trace) (engines : List EngineParts) (attached : ℕ)
    (calls : List PendingCall) (reached : List ℕ) (now : ℕ) : Type 0 where
  pub prefix : IsLegalPrefix u past
  pub ties : AreTied u.conn past engines attached calls
  pub reaches : AllZip (HasPassedFirst u past) (seqs_of calls) reached
  pub shows : now ≡ timestamp past

-- the answer that comes first in a turn
abbrev pub answer_of : Outcome → Answer
answer_of (Passed Nothing) = pass
answer_of (Passed n) = note n
answer_of (Held level cost) = hold level cost
answer_of (Refused Nothing why) = refusal why
answer_of (Refused n why) = note n
answer_of Redacted = redact

-- a pending call at an entry, and the state after a turn of the entry for it
pub record IsEntryOutcome (u : JudgeContext) (past : Trace) (attached seq : ℕ) (name : List ℕ) (asked : EntryOutcome)
    (calls : List PendingCall) (engines' : List EngineParts) (calls' : List PendingCall) (reached' : List ℕ)
    : Type 0 where
  pub entry : Entry
  pub is_entry : slice_get (chain past).entries asked.at ≡ Some entry
  pub place : slice_get (seqs_of calls) asked.place ≡ Some seq
  pub is_at : IsAt u past seq name entry
  pub gives : IsAnswerInTrace u past entry seq (answer_of asked.outcome)
  pub ties : AreTied u.conn (worked entry seq asked.outcome past) engines' attached calls'
  pub reaches : AllZip (HasPassedFirst u past) (seqs_of calls') reached'
  pub reached_it : slice_get reached' asked.place ≡ Some asked.at
  pub within : asked.at < length engines'
  -- it is at no other entry of this name
  pub only : (other : Entry) → IsAt u past seq name other → other ≡ entry
