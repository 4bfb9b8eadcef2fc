-- How a run keeps its connections and quotas, and what one line changes of them: the code's own. No public definition
-- takes a word from here.
use Rattle.std.specs.Prelude.{◌≡◌, ◌⊎◌, ℕ, ◌+◌, ◌-◌, ◌<◌, ◌≤◌, ◌^◌, false, List, [], ◌∷◌, ◌++◌, All, length, map, take, drop, Option, Some, IfSome, IsSomeAnd, Ok, Err, Result}
use Rattle.std.specs.Io.KnownBytes.{Appends}
use Rattle.mrpc_base.specs.Heap.{Heap, Race, races_with}
use Rattle.mrpc_base.specs.Quota.{Counters, drawn_in, tickets_of}
use Rattle.mrpc_base.specs.declared.tickets.TheConstants.{WINDOWS}
use Rattle.mrpc_table.specs.declared.call.Call.{Call}
use Rattle.mrpc_table.specs.declared.limits.TheConstants.{MIN_HEAP, MAX_HEAP}
use Rattle.mrpc_table.specs.declared.table.Table.{Table}
use Rattle.engine_core.specs.Policies.{IsPolicy, KnowsTenantOf}
use Rattle.engine_core.specs.Chains.{Refusal, IsRejection}
use Rattle.engine_core.specs.declared.op.Op.{Op}
use Rattle.chain_upgrade.specs.Chains.{chain_of_state}
use Rattle.graph_copy.specs.Copies.{loads_since}
use Rattle.replay_script.specs.Lines.{op_in}
use Rattle.replay_script.specs.declared.script.ScriptLine.{ScriptLine}
use Rattle.replay_script.specs.declared.script.ScriptLine.TheVariants as line
use Rattle.replay_script.specs.declared.script.Script.{Script}
use Rattle.call_history.specs.Trace.{taken}
use Rattle.call_history.specs.Draining.{HasPartlyDrained}
use Rattle.call_history.specs.Transitions.{ConnState, turns_away}
use Rattle.call_history.specs.Frames.{frames_of_trace, frame_of}
use Rattle.call_history.specs.Tickets.{tickets_of_trace}
use Rattle.audit_text.specs.Lines.{audit}
use Rattle.conn_core.specs.Connections.{Connection as Calls, IsConnection, IsSameConnection, conn_trace, conn_state}
use Rattle.conn_core.specs.ConnectionSteps.{IsAcceptance, IfPolicy, IsReadBy, IsStep}
use Rattle.conn_core.specs.declared.answers.Ask.{Ask}
use Rattle.mrpc_base.specs.Heap.{IsRoomChange, IsLoad}
use Rattle.replay_run.specs.Follows.{IsLineEffect, IsSendFailure, IsStateAfter, IsRunToFailedSend, OpenConnection, ScriptState, new_connection, event_on, start, script_context}
use Rattle.replay_run.specs.Running.{joined_frames, sent_frames}
use Rattle.replay_run.specs.Tickets.{tickets}
use Rattle.replay_run.specs.declared.connection.RunConnection.{RunConnection}
use Rattle.replay_run.specs.declared.replay_error.ReplayError.{ReplayError}
use Rattle.replay_run.specs.declared.replay_error.ReplayError.TheVariants.{Memory, Out, Wire}

-- properties of a run's result
abbrev pub OnRan : {T : Type 0} → Result T ReplayError → (Done Breaks NoMemory Untold : Type 0) → Type 0
OnRan (Ok value) Done Breaks NoMemory Untold = Done
OnRan (Err Wire) Done Breaks NoMemory Untold = Breaks
OnRan (Err Memory) Done Breaks NoMemory Untold = NoMemory
OnRan (Err Out) Done Breaks NoMemory Untold = Untold

-- ---- quotas

abbrev pub knows : Counters → ℕ → Type 0
knows quotas tenant = tenant < quotas.tenants

abbrev pub drawn_of : Counters → ℕ → ℕ → Option (List ℕ)
drawn_of quotas tenant window = tickets_of (drawn_in quotas tenant window)

abbrev pub HaveSameTenants : Counters → Counters → Type 0
HaveSameTenants old new = new.tenants ≡ old.tenants

-- if the tickets of a tenant's window are known, those drawn between two states were drawn, and no others
abbrev pub IsDrawnIn : (tenant window : ℕ) → ConnState → ConnState → Option (List ℕ) → Option (List ℕ) → Type 0
IsDrawnIn tenant window old new drawn drawn' = IfSome drawn' (λ now. IsSomeAnd drawn (λ earlier.
    (more : List ℕ) × (tickets_of_trace tenant window new.past ≡ tickets_of_trace tenant window old.past ++ more)
    × (now ≡ earlier ++ more)))

pub record HasDrawn (old new : ConnState) (quotas quotas' : Counters) : Type 0 where
  pub same : quotas'.tenants ≡ quotas.tenants
  pub drawn : (tenant window : ℕ) → tenant < quotas.tenants → window < WINDOWS
      → IsDrawnIn tenant window old new (drawn_of quotas tenant window) (drawn_of quotas' tenant window)

-- ---- a connection

-- the connection as definitions see it
abbrev pub open_connection_of : RunConnection → OpenConnection
open_connection_of c = record {
  conn = c.calls.conn;
  words = c.heap.size;
  stores = c.heap.stores;
  races = c.heap.races;
  loads = c.heap.loads;
  course = conn_state c.calls;
}

-- no race is of an earlier load than those before it
abbrev pub AreInOrder : List Race → Type 0
AreInOrder [] = Unit {0}
AreInOrder (race ∷ races) = All (λ other. race.load ≤ other.load) races × AreInOrder races

-- a heap between two submissions
pub record IsBetweenSubmissions (heap : Heap) : Type 0 where
  pub least : MIN_HEAP ≤ heap.size
  pub greatest : heap.size ≤ MAX_HEAP
  pub begun : heap.begun ≡ 0
  pub in_order : AreInOrder heap.races

-- its calls are judged by the table and the limit of a script
pub record IsOfScript (s : Script) (c : RunConnection) : Type 0 where
  pub table : c.calls.table ≡ s.table
  pub limit : c.calls.limit ≡ s.loads

-- a connection that was just opened
pub record IsJustOpened (T : Table) (limit : ℕ) (c : RunConnection) : Type 0 where
  pub table : c.calls.table ≡ T
  pub limit_is : c.calls.limit ≡ limit
  pub rests : IsBetweenSubmissions c.heap
  pub going : c.calls.ended ≡ false
  pub none_told : c.told ≡ 0
  pub none : c.calls.happenings ≡ []
  pub sound : IsConnection c.calls

-- one more connection, which was just opened
pub record HasOpened (s : Script) (conn words : ℕ) (old new : List RunConnection) : Type 0 where
  pub one : RunConnection
  pub more : new ≡ old ++ one ∷ []
  pub opened : open_connection_of one ≡ new_connection conn words
  pub fresh : IsJustOpened s.table s.loads one

-- a connection between two lines
pub record IsBetweenLines (s : Script) (c : RunConnection) : Type 0 where
  pub of_script : IsOfScript s c
  pub rests : IsBetweenSubmissions c.heap
  pub going : c.calls.ended ≡ false
  pub told : c.told ≡ length c.calls.happenings
  pub sound : IsConnection c.calls

-- what a line leaves unchanged
pub record HasKept (old new : RunConnection) : Type 0 where
  pub same : IsSameConnection old.calls new.calls
  pub rests : IsBetweenSubmissions new.heap
  pub told : new.told ≡ old.told

-- a line of this kind leads from one to the other
abbrev pub IsEffectFor : (Script → ScriptLine → Type 0) → RunConnection → RunConnection → Type 0
IsEffectFor Is old new = (s : Script) (l : ScriptLine) → IsOfScript s old → Is s l
    → IsLineEffect s l (open_connection_of old) (open_connection_of new)

-- ---- stores and races

pub record IsStored (place value : ℕ) (old new : Heap) : Type 0 where
  pub size : new.size ≡ old.size
  pub loads : new.loads ≡ old.loads
  pub stores : new.stores ≡ old.stores ++ (place, value) ∷ []
  pub races : new.races ≡ old.races
  pub begun : new.begun ≡ old.begun

pub record IsRaceQueued (load place value : ℕ) (old new : Heap) : Type 0 where
  pub size : new.size ≡ old.size
  pub loads : new.loads ≡ old.loads
  pub stores : new.stores ≡ old.stores
  pub races : new.races ≡ races_with old.races (record { load = load; place = place; value = value })
  pub begun : new.begun ≡ old.begun

-- ---- submissions

-- a call was accepted, by loads from a heap, or rejected; the remaining races aren't made yet
pub data IsSubmission (ask : Ask) (before after : Calls) (old new : Heap) : Type 0 where
  accepted : (seq : ℕ) → IsAcceptance old.size ask seq (loads_since old.loads new.loads) before after
      → new.loads ≡ old.loads ++ loads_since old.loads new.loads → new.size ≡ old.size
      → IsReadBy IsRoomChange IsLoad old (loads_since old.loads new.loads) new → IsSubmission ask before after old new
  rejected : IsStep before (turns_away ask.method ask.number ask.addr) after → new ≡ old
      → IsSubmission ask before after old new

-- ---- preconditions of a line

-- an operation that its chain accepts
pub record MayOperate (step : Op) (c : Calls) : Type 0 where
  pub ranges : IfPolicy step IsPolicy
  pub attachments : c.chain.attached + 1 < 2 ^ 32
  pub versions : All (λ e. e.entry.version + 1 < 2 ^ 32) c.chain.engines
  pub free : (refusal : Refusal) → IsRejection (chain_of_state c.chain) step refusal → ⊥

-- what a script that was read guarantees of a line when it is reached: its connection can run it
abbrev pub MayRun : Script → ScriptLine → RunConnection → Type 0
MayRun s (line.Conn conn words) c = ⊥
MayRun s (line.Store conn place value) c = (1 ≤ place) × (place < c.heap.size)
MayRun s (line.Race conn load place value) c = (1 ≤ load) × (1 ≤ place) × (place < c.heap.size)
MayRun s (line.Submit conn method number addr) c = length (taken (conn_trace c.calls)) + 1 < 2 ^ 32
MayRun s (line.Attach conn at name policy) c =
    (step : Op) × (op_in s.declared.policies (line.Attach conn at name policy) ≡ Some step) × MayOperate step c.calls
MayRun s (line.Detach conn name) c =
    (step : Op) × (op_in s.declared.policies (line.Detach conn name) ≡ Some step) × MayOperate step c.calls
MayRun s (line.Upgrade conn name policy) c =
    (step : Op) × (op_in s.declared.policies (line.Upgrade conn name policy) ≡ Some step) × MayOperate step c.calls
MayRun s (line.Moment conn ms) c = Unit {0}
MayRun s (line.Turn conn at) c = at < length c.calls.chain.engines
MayRun s (line.Send conn) c = Unit {0}
MayRun s (line.Drain conn) c = Unit {0}

-- the tenants of its quotas are known
abbrev pub KnowsTenants : Counters → Calls → Type 0
KnowsTenants quotas c = All (λ e. KnowsTenantOf (knows quotas) e.entry.policy) c.chain.engines

-- ---- the frames of a line

-- the frames of the sends between two states were written
pub record HasSentFrames (T : Table) (conn : ℕ) (old new : ConnState) (wire wire' : Option (List ℕ)) : Type 0 where
  pub more : List (List ℕ)
  pub frames : frames_of_trace T conn new.past ≡ frames_of_trace T conn old.past ++ more
  pub told : Appends wire wire' (joined_frames more)

-- they were written, and then a proper prefix of one more frame
pub record HasBrokenFrame (T : Table) (conn : ℕ) (tried : Call) (old new : ConnState) (wire wire' : Option (List ℕ))
    : Type 0 where
  pub more : List (List ℕ)
  pub frames : frames_of_trace T conn new.past ≡ frames_of_trace T conn old.past ++ more
  pub many : ℕ
  pub few : many < length (frame_of T tried)
  pub told : Appends wire wire' (joined_frames more ++ take many (frame_of T tried))

-- ---- the effect of a line on its connection

-- the line was run on the connection: the next state is the one that the script defines, with the tickets that the line
-- drew and the frames that it sent
pub record IsDoneOn (s : Script) (l : ScriptLine) (old new : RunConnection) (quotas quotas' : Counters)
    (wire wire' : Option (List ℕ)) : Type 0 where
  pub does : IsLineEffect s l (open_connection_of old) (open_connection_of new)
  pub keeps : HasKept old new
  pub draws : HasDrawn (conn_state old.calls) (conn_state new.calls) quotas quotas'
  pub frames_sent : HasSentFrames s.table old.calls.conn (conn_state old.calls) (conn_state new.calls) wire wire'

-- the line was started, and the frame of the tried call could not be written in full
pub record IsBrokenOn (s : Script) (l : ScriptLine) (old new : RunConnection) (quotas quotas' : Counters)
    (wire wire' : Option (List ℕ)) : Type 0 where
  pub tried : Call
  pub fails : IsSendFailure s l (open_connection_of old) tried (open_connection_of new)
  pub keeps : HasKept old new
  pub draws : HasDrawn (conn_state old.calls) (conn_state new.calls) quotas quotas'
  pub frames_sent : HasBrokenFrame s.table old.calls.conn tried (conn_state old.calls) (conn_state new.calls) wire wire'

-- it did nothing, or some turns and sends of a drain
pub record IsStoppedOn (s : Script) (l : ScriptLine) (old : RunConnection) (wire wire' : Option (List ℕ)) : Type 0 where
  pub end : ConnState
  pub begun : (end ≡ conn_state old.calls)
      ⊎ ((l ≡ line.Drain old.calls.conn)
      × HasPartlyDrained (script_context s old.calls.conn) (conn_state old.calls) end)
  pub frames_sent : HasSentFrames s.table old.calls.conn (conn_state old.calls) end wire wire'

-- a line of this kind was run on the connection, in whichever script
abbrev pub IsDoneFor : (ℕ → ScriptLine) → RunConnection → RunConnection → Counters → Counters
    → (wire wire' : Option (List ℕ)) → Type 0
IsDoneFor line_on old new quotas quotas' wire wire' =
    (s : Script) → IsOfScript s old → IsDoneOn s (line_on old.calls.conn) old new quotas quotas' wire wire'

-- a frame of such a line could not be written
abbrev pub IsBrokenFor : (ℕ → ScriptLine) → RunConnection → RunConnection → Counters → Counters
    → (wire wire' : Option (List ℕ))
    → Type 0
IsBrokenFor line_on old new quotas quotas' wire wire' =
    (s : Script) → IsOfScript s old → IsBrokenOn s (line_on old.calls.conn) old new quotas quotas' wire wire'

-- such a line was stopped
abbrev pub IsStoppedFor : (ℕ → ScriptLine) → RunConnection → (wire wire' : Option (List ℕ)) → Type 0
IsStoppedFor line_on old wire wire' = (s : Script) → IsOfScript s old
    → IsStoppedOn s (line_on old.calls.conn) old wire wire'

-- ---- the audit lines of events

-- all events were written, and nothing else has changed
pub record AreEventsWritten (old new : RunConnection) : Type 0 where
  pub calls : new.calls ≡ old.calls
  pub heap : new.heap ≡ old.heap
  pub told : new.told ≡ length old.calls.happenings

-- the lines of a connection's events that weren't written yet
abbrev pub unwritten : Table → RunConnection → List ℕ
unwritten T c = audit T (map (event_on c.calls.conn) (drop c.told c.calls.happenings))

-- a prefix of some text was written
abbrev pub IsPrefixWritten : Option (List ℕ) → Option (List ℕ) → List ℕ → Type 0
IsPrefixWritten out out' bytes = (many : ℕ) × (many ≤ length bytes) × Appends out out' (take many bytes)

-- a line was run on its connection, and all events were written
pub record IsDoneAndWritten (s : Script) (l : ScriptLine) (old new : RunConnection) (quotas quotas' : Counters)
    (out out' wire wire' : Option (List ℕ)) : Type 0 where
  pub mid : RunConnection
  pub done : IsDoneOn s l old mid quotas quotas' wire wire'
  pub told : AreEventsWritten mid new
  pub lines : Appends out out' (unwritten s.table mid)
  pub sound : IsConnection new.calls

-- a frame could not be written, and all earlier events were
pub record IsBrokenAndWritten (s : Script) (l : ScriptLine) (old new : RunConnection) (quotas quotas' : Counters)
    (out out' wire wire' : Option (List ℕ)) : Type 0 where
  pub mid : RunConnection
  pub broken : IsBrokenOn s l old mid quotas quotas' wire wire'
  pub told : AreEventsWritten mid new
  pub lines : Appends out out' (unwritten s.table mid)

-- a run stopped in a line, or while writing its events
pub data IsStoppedAt (s : Script) (l : ScriptLine) (old : RunConnection) (out out' wire wire' : Option (List ℕ))
    : Type 0 where
  in_line : IsStoppedOn s l old wire wire' → out' ≡ out → IsStoppedAt s l old out out' wire wire'
  after_line : (mid : RunConnection) (quotas quotas' : Counters) → IsDoneOn s l old mid quotas quotas' wire wire'
      → IsPrefixWritten out out' (unwritten s.table mid) → IsStoppedAt s l old out out' wire wire'
  after_failure : (mid : RunConnection) (quotas quotas' : Counters) → IsBrokenOn s l old mid quotas quotas' wire wire'
      → IsPrefixWritten out out' (unwritten s.table mid) → IsStoppedAt s l old out out' wire wire'

-- ---- a run

-- fewer tickets of a tenant were drawn in each window than a quota counts
abbrev pub HasCounted : Counters → (tenant : ℕ) → Type 0
HasCounted quotas tenant = (window : ℕ) → window < WINDOWS → drawn_in quotas tenant window < 2 ^ 64 - 1

abbrev pub HaveCounted : (tenants : ℕ) → Counters → Type 0
HaveCounted tenants quotas = (tenant : ℕ) → tenant < tenants → HasCounted quotas tenant

-- a run's connections and quotas are those of a state
pub record IsRunState (s : Script) (st : ScriptState) (connections : List RunConnection) (quotas : Counters)
    : Type 0 where
  pub opened : map open_connection_of connections ≡ st.opened
  pub ready : All (IsBetweenLines s) connections
  pub tenants : quotas.tenants ≡ length s.declared.tenants
  pub drawn : (tenant window : ℕ) → tenant < quotas.tenants → window < WINDOWS
      → IfSome (drawn_of quotas tenant window) (λ now. now ≡ tickets tenant window st.history)

-- the first lines of a script were run
pub record HasRunLines (s : Script) (lines : List ScriptLine) (st : ScriptState) (connections : List RunConnection)
    (quotas : Counters)
    (out out' wire wire' : Option (List ℕ)) : Type 0 where
  pub leads : IsStateAfter s start lines st
  pub holds : IsRunState s st connections quotas
  pub told : Appends out out' (audit s.table st.history)
  pub handed : Appends wire wire' (sent_frames s st)

-- these lines were run, and lead to some state
abbrev pub HasRunSomeLines : Script → List ScriptLine → List RunConnection → Counters
    → (out out' wire wire' : Option (List ℕ)) → Type 0
HasRunSomeLines s lines connections quotas out out' wire wire' =
    (st : ScriptState) × HasRunLines s lines st connections quotas out out' wire wire'

-- the lines before a line were run, and it starts in this state
pub record IsRunBefore (s : Script) (l : ScriptLine) (connections : List RunConnection) (quotas : Counters)
    (out' wire' : Option (List ℕ)) : Type 0 where
  pub lines : List ScriptLine
  pub others : List ScriptLine
  pub order : s.lines ≡ lines ++ l ∷ others
  pub st : ScriptState
  pub out : Option (List ℕ)
  pub wire : Option (List ℕ)
  pub ran : HasRunLines s lines st connections quotas out out' wire wire'

-- a send failed
pub record HasBroken (s : Script) (connections : List RunConnection) (quotas : Counters)
    (out out' wire wire' : Option (List ℕ)) : Type 0 where
  pub tried : Call
  pub end : ScriptState
  pub until : IsRunToFailedSend s tried end
  pub opened : map open_connection_of connections ≡ end.opened
  pub tenants : quotas.tenants ≡ length s.declared.tenants
  pub drawn : (tenant window : ℕ) → tenant < quotas.tenants → window < WINDOWS
      → IfSome (drawn_of quotas tenant window) (λ now. now ≡ tickets tenant window end.history)
  pub told : Appends out out' (audit s.table end.history)
  pub many : ℕ
  pub few : many < length (frame_of s.table tried)
  pub handed : Appends wire wire' (sent_frames s end ++ take many (frame_of s.table tried))
