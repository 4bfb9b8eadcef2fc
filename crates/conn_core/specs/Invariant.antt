-- The invariant of a connection's own fields: the code's own. No public clause cites this module.
use Rattle.std.specs.Prelude.{◌≡◌, ◌≢◌, ℕ, ◌+◌, ◌≤◌, ◌<◌, Bool, List, [], ◌∷◌, ◌++◌, All, insert, length, remove, set, slice_get, sum, IfSome, Option, Some, None}
use Rattle.std.specs.List.{AllZip, sum_by}
use Rattle.mrpc_table.specs.Valid.{IsValid}
use Rattle.mrpc_table.specs.declared.limits.TheConstants.{MAX_LOADS}
use Rattle.mrpc_table.specs.declared.call.Call.{Call}
use Rattle.mrpc_table.specs.declared.table.Table.{Table}
use Rattle.policy_redact.specs.Redacting.{cleared}
use Rattle.policy_redact.specs.declared.redact.Clear.{Clear}
use Rattle.engine_core.specs.Answers.{IsEntryAnswer, note}
use Rattle.engine_core.specs.Chains.{HasChanged, Entry, new_entry, upgraded}
use Rattle.engine_core.specs.Engines.{EngineParts}
use Rattle.engine_core.specs.Marks.{PendingCall, past_of}
use Rattle.engine_core.specs.Moves.{moved_by, position_of}
use Rattle.engine_core.specs.Policies.{initial_level, level_after_upgrade}
use Rattle.engine_core.specs.declared.op.Op.{Op}
use Rattle.engine_core.specs.declared.op.Op.TheVariants.{Attach, Detach, Upgrade}
use Rattle.engine_core.specs.declared.outcome.Noted.{Noted}
use Rattle.engine_core.specs.declared.outcome.Noted.TheVariants as notes
use Rattle.engine_core.specs.declared.outcome.Outcome.{Outcome}
use Rattle.engine_core.specs.declared.outcome.Outcome.TheVariants as outcomes
use Rattle.engine_core.specs.declared.outcome.Why.{Why}
use Rattle.engine_core.specs.declared.outcome.Why.TheVariants.{Denied, Short, Over}
use Rattle.engine_core.specs.declared.policy.Policy.TheVariants.{Redact}
use Rattle.frame_transport.specs.declared.format.TheConstants.{MAX_PAYLOAD}
use Rattle.graph_copy.specs.Answers.{load_count}
use Rattle.graph_copy.specs.declared.copying.CopyResult.{CopyResult}
use Rattle.graph_copy.specs.declared.copying.CopyResult.TheVariants as results
use Rattle.chain_upgrade.specs.Chains.{ChainParts, chain_of_state}
use Rattle.call_history.specs.Trace.{chain, copied, timestamp, taken}
use Rattle.call_history.specs.Draining.{HasSentSome}
use Rattle.call_history.specs.Transitions.{cause_of, turns}
use Rattle.call_history.specs.Records.{HasRule, StoredHistory, op_at}
use Rattle.call_history.specs.Loads.{IsLoaded, Loads}
use Rattle.call_history.specs.Rules.{IsValidCopy, payload}
use Rattle.call_history.specs.declared.happening.Cause.TheVariants as cause
use Rattle.call_history.specs.declared.happening.Happening.{Happening}
use Rattle.call_history.specs.declared.happening.Happening.TheVariants as what
use Rattle.call_history.specs.declared.happening.AcceptedCall.{AcceptedCall}
use Rattle.call_history.specs.declared.happening.TookCopy.{TookCopy}
use Rattle.call_history.specs.declared.happening.TookCopy.TheVariants.{Copy, Malformed}
use Rattle.conn_core.specs.declared.answers.Ask.{Ask}
use Rattle.conn_core.specs.Connections.{Connection, IsConnection, IsSameConnection, conn_trace, conn_frames}
use Rattle.conn_core.specs.ConnectionSteps.{HasDrawnTickets, HasFailedAfter, IsStep, conn_parts}

-- ---- the operation that set an entry's policy

-- an operation set the entry's present policy
abbrev pub HasSetPolicy : Op → Entry → Type 0
HasSetPolicy (Attach at name label policy) e = (name ≡ e.name) × (policy ≡ e.policy)
HasSetPolicy (Detach name) e = ⊥
HasSetPolicy (Upgrade name label policy) e = (name ≡ e.name) × (policy ≡ e.policy)

-- the index is that of the operation
pub record IsPolicyOp (steps : List Op) (place : ℕ) (e : Entry) : Type 0 where
  pub within : place < length steps
  pub put : HasSetPolicy (op_at steps place) e

-- ---- what an acceptance adds

-- the call of a submission, with a number
pub record IsAsked (seq : ℕ) (ask : Ask) (call : AcceptedCall) : Type 0 where
  pub number : call.seq ≡ seq
  pub method : call.method ≡ ask.method
  pub request : call.number ≡ ask.number
  pub address : call.addr ≡ ask.addr
  pub stores : call.after ≡ ask.after

-- the copy that a result has
abbrev pub copy_of : CopyResult → TookCopy
copy_of (results.Copied tree loads) = Copy tree
copy_of (results.Malformed reason place value loads) = Malformed reason place value

-- a call and its form follow from a submission and the result of the copy
pub record IsOfCopyResult (conn seq : ℕ) (ask : Ask) (answer : CopyResult) (call : AcceptedCall)
    (form : Option Call) : Type 0 where
  pub asked : IsAsked seq ask call
  pub copy : call.copy ≡ copy_of answer
  pub count : call.count ≡ load_count answer
  pub form_is : form ≡ copied conn call call.copy

-- what holds of a call that was copied by these loads, and of its form
pub record IsWellCopied (T : Table) (H limit : ℕ) (own : Loads) (call : AcceptedCall) (form : Option Call)
    : Type 0 where
  pub loaded : IsLoaded T H limit call own
  pub few : call.count ≤ limit
  pub sound : IsValidCopy T call call.copy
  pub short : IfSome form (λ f. length (payload T f) ≤ MAX_PAYLOAD)

-- the events of an acceptance, in order: a call without a form is refused at once
abbrev pub acceptance_events : AcceptedCall → Option Call → List Happening
acceptance_events call None = what.Took call ∷ what.Refused call.seq cause.Malformed ∷ []
acceptance_events call (Some form) = what.Took call ∷ []

-- a chain after a call was added to it
abbrev pub with_call : Option Call → ChainParts → ChainParts
with_call None c = c
with_call (Some form) c = record c {
  calls = c.calls ++ record { call = form; marks = [] } ∷ [];
  row = c.row ++ (form.seq, 0) ∷ [];
}

-- ---- what a turn adds

-- the event of a note, if any
abbrev pub note_events : List ℕ → ℕ → Noted → List Happening
note_events name seq notes.Nothing = []
note_events name seq (notes.Charged left) = what.Charged seq name left ∷ []
note_events name seq (notes.Drawn window ticket) = what.Drawn seq name window ticket ∷ []
note_events name seq notes.Counted = what.Counted seq name ∷ []

-- the events of a turn of an entry with this outcome for a call, in order
abbrev pub turn_events : Entry → ℕ → Outcome → List Happening
turn_events e seq (outcomes.Passed n) = note_events e.name seq n
turn_events e seq (outcomes.Held left cost) = []
turn_events e seq (outcomes.Refused n why) = note_events e.name seq n ++ what.Refused seq (cause_of e why) ∷ []
turn_events e seq outcomes.Redacted = what.Redacted seq e.name e.version ∷ []

-- the rule of a refusal, if it has one, is a rule of the policy that an operation sets
abbrev pub HasOpRule : Op → Why → Type 0
HasOpRule step (Denied rule) = HasRule step rule
HasOpRule step (Short level cost) = Unit {0}
HasOpRule step (Over ticket cap) = Unit {0}

abbrev pub IsRefusedByOpRule : Op → Outcome → Type 0
IsRefusedByOpRule step (outcomes.Refused n why) = HasOpRule step why
IsRefusedByOpRule step _ = Unit {0}

-- how many records a note needs
abbrev pub records_of : Noted → ℕ
records_of notes.Nothing = 0
records_of (notes.Charged left) = 1
records_of (notes.Drawn window ticket) = 1
records_of notes.Counted = 1

-- how many records a turn needs
abbrev pub records_in : Outcome → ℕ
records_in (outcomes.Passed n) = records_of n
records_in (outcomes.Held left cost) = 0
records_in (outcomes.Refused n why) = records_of n + 1
records_in outcomes.Redacted = 1

-- ---- what a send adds

-- the first ready call leaves the chain, and is recorded as sent
pub record IsRemovedAsSent (seq bytes : ℕ) (before after : ChainParts) (old new : StoredHistory) : Type 0 where
  pub call : PendingCall
  pub number : call.call.seq ≡ seq
  pub calls : before.calls ≡ call ∷ after.calls
  pub row : before.row ≡ (seq, length before.engines) ∷ after.row
  pub engines : after.engines ≡ before.engines
  pub attached : after.attached ≡ before.attached
  pub steps : new.steps ≡ old.steps
  pub told : new.happenings ≡ old.happenings ++ what.Sent seq bytes ∷ []
  pub room : old.room ≤ new.room + 1

-- ---- what an operation changes

-- the engines after it
abbrev pub AreEngines : Op → ℕ → ChainParts → List EngineParts → Type 0
AreEngines (Attach at name label policy) now c engines = engines ≡ insert c.engines at (record {
  entry = new_entry name (c.attached + 1) policy;
  level = initial_level policy;
  last = now;
})
AreEngines (Detach name) now c engines = engines ≡ remove c.engines (position_of name (chain_of_state c).entries)
AreEngines (Upgrade name label policy) now c engines = (e : EngineParts)
    → slice_get c.engines (position_of name (chain_of_state c).entries) ≡ Some e
    → engines ≡ set c.engines (position_of name (chain_of_state c).entries) (record {
      entry = upgraded e.entry policy;
      level = level_after_upgrade e.entry.policy policy e.level;
      last = e.last;
    })

-- an operation was applied to a chain at a timestamp
pub record IsChanged (step : Op) (now : ℕ) (before after : ChainParts) : Type 0 where
  pub changes : HasChanged (chain_of_state before) step (chain_of_state after)
  pub engines : AreEngines step now before after.engines
  pub calls : after.calls ≡ before.calls
  pub row : after.row ≡ moved_by step (chain_of_state before).entries before.row

-- by position, the operation that set each engine's policy, after an operation with this index
abbrev pub op_indices_after : Op → List Entry → ℕ → List ℕ → List ℕ
op_indices_after (Attach at name label policy) entries place places = insert places at place
op_indices_after (Detach name) entries place places = remove places (position_of name entries)
op_indices_after (Upgrade name label policy) entries place places = set places (position_of name entries) place

-- ---- what a failure of the link adds

-- the events of a link failure: the pending calls are refused
abbrev pub failure_events : List PendingCall → List Happening
failure_events [] = []
failure_events (s ∷ calls) = what.Refused s.call.seq cause.Transport ∷ failure_events calls

-- ---- capacity for records

-- An entry may still need a record for a call: at some level and timestamp it calls for a note, or it would
-- clear fields.
pub data MayRecord (s : PendingCall) (e : Entry) : Type 0 where
  may_note : (level timestamp : ℕ) (n : Noted)
      → IsEntryAnswer e.policy level timestamp s.call (past_of s.marks e.attach) (note n)
      → 1 ≤ records_of n → MayRecord s e
  may_clear : (clears : List Clear) → e.policy ≡ Redact clears → cleared clears s.call ≢ s.call.tree → MayRecord s e

-- for each entry, an upper bound on the records that it may still need for a call
abbrev pub AreDue : List Entry → PendingCall → List ℕ → Type 0
AreDue entries s due = AllZip (λ e n. MayRecord s e → 1 ≤ n) entries due

-- the records that a call may still need, its fate included
abbrev pub due_of : List ℕ → ℕ
due_of due = sum due + 1

-- there is capacity for all records that the pending calls may still need
pub record HasRoom (calls : List PendingCall) (entries : List Entry) (room : ℕ) : Type 0 where
  pub dues : List (List ℕ)
  pub each : AllZip (AreDue entries) calls dues
  pub enough : sum_by due_of dues ≤ room

-- ---- a connection

-- a connection, as contracts see these fields
abbrev pub connection_of : ℕ → Table → ℕ → ChainParts → StoredHistory → Bool → Connection
connection_of conn table limit chain history ended = record {
  conn = conn;
  table = table;
  limit = limit;
  chain = chain;
  happenings = history.happenings;
  ended = ended;
}

-- the invariant of these fields
pub record HasConnInvariant (c : Connection) (steps : List ℕ) (history : StoredHistory) (accepted ms : ℕ) : Type 0 where
  pub connection : IsConnection c
  pub valid : IsValid c.table
  pub least_limit : 1 ≤ c.limit
  pub greatest_limit : c.limit ≤ MAX_LOADS
  pub count : accepted ≡ length (taken (conn_trace c))
  pub latest : ms ≡ timestamp (conn_trace c)
  pub engine_steps : AllZip (IsPolicyOp history.steps) steps (chain_of_state c.chain).entries
  pub short : All (λ s. length (payload c.table s.call) ≤ MAX_PAYLOAD) c.chain.calls
  pub room : HasRoom c.chain.calls (chain_of_state c.chain).entries history.room

-- ---- drains

-- A connection advanced by turns alone. It is the same connection with the same chain, and no frame was sent. The
-- tickets drawn since are those that its history adds, and the trees of its calls have no more parts than before.
pub record HasAdvancedByTurns {Q : Type 0} (Knows : Q → ℕ → Type 0) (drawn_of : Q → ℕ → ℕ → Option (List ℕ)) (Since : Q
    → Q → Type 0)
    (before after : Connection) (old new : Q) : Type 0 where
  pub same : IsSameConnection before after
  pub same_chain : chain (conn_trace after) ≡ chain (conn_trace before)
  pub same_frames : conn_frames after ≡ conn_frames before
  pub draws : HasDrawnTickets Knows drawn_of Since before after old new
  pub fewer : conn_parts after ≤ conn_parts before

-- The first call at a position advanced by a turn without a note: no event was added, and the trees of the calls have
-- no more parts than before.
pub record HasPassedUnnoted (position : ℕ) (before after : Connection) : Type 0 where
  pub seq : ℕ
  pub step : IsStep before (turns position seq (outcomes.Passed notes.Nothing)) after
  pub happenings : after.happenings ≡ before.happenings
  pub fewer : conn_parts after ≤ conn_parts before
  pub same : IsSameConnection before after

-- some calls were sent, and then the link failed
abbrev pub HasFailedAfterSends : {L : Type 0} → (L → List ℕ → L → Type 0) → (L → List (List ℕ)) → (L → ℕ)
    → (L → L → Type 0)
    → Connection → Connection → L → L → Type 0
HasFailedAfterSends Refuses handed_of faults_of Since = HasFailedAfter HasSentSome Refuses handed_of faults_of Since
