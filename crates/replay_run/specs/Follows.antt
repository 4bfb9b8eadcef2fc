-- What follows from a script, line by line: the events of its connections, the loads of their calls, and the positions
-- of pending calls (this project's own).
use Rattle.std.specs.Prelude.{◌≡◌, ℕ, List, [], ◌∷◌, ◌++◌, length, map, reverse, Some, None}
use Rattle.mrpc_base.specs.Heap.{Race, word_after, stores_of, races_up_to, races_with}
use Rattle.mrpc_table.specs.declared.call.Call.{Call}
use Rattle.engine_core.specs.Moves.{first_at}
use Rattle.engine_core.specs.declared.op.Op.{Op}
use Rattle.engine_core.specs.declared.outcome.Outcome.{Outcome}
use Rattle.graph_form.specs.Malformed.{AreReadBy}
use Rattle.replay_script.specs.Lines.{conn_of, op_in}
use Rattle.replay_script.specs.declared.script.ScriptLine.{ScriptLine}
use Rattle.replay_script.specs.declared.script.ScriptLine.TheVariants as line
use Rattle.replay_script.specs.declared.script.Script.{Script}
use Rattle.call_history.specs.Trace.{chain}
use Rattle.call_history.specs.Draining.{HasPartlyDrained, HasDrained}
use Rattle.call_history.specs.Transitions.{ConnState, IsTransition, Transition, IsReady, accepts, initial_state, fails, operates, sends, shows, turns, turns_away}
use Rattle.call_history.specs.Legal.{History}
use Rattle.call_history.specs.Loads.{IsLoaded, Loads}
use Rattle.call_history.specs.Rules.{JudgeContext}
use Rattle.call_history.specs.declared.happening.ConnectionEvent.{ConnectionEvent}
use Rattle.call_history.specs.declared.happening.Happening.{Happening}
use Rattle.call_history.specs.declared.happening.AcceptedCall.{AcceptedCall}
use Rattle.replay_run.specs.Tickets.{AreConsecutive}

-- An open connection: its number, the size of its heap in words, and the stores made to it so far, each a place and a
-- value. With it are the races queued for its next submission, in the order in which they are made, the loads of its
-- calls so far, and its state.
pub record OpenConnection : Type 0 where
  pub conn : ℕ
  pub words : ℕ
  pub stores : List (ℕ × ℕ)
  pub races : List Race
  pub loads : Loads
  pub course : ConnState

-- the state of a script between two lines: the connections, in the order in which they were opened, and the events of
-- all of them
pub record ScriptState : Type 0 where
  pub opened : List OpenConnection
  pub history : History

abbrev pub start : ScriptState
start = record { opened = []; history = [] }

-- a connection without events
abbrev pub new_connection : (conn words : ℕ) → OpenConnection
new_connection conn words =
    record { conn = conn; words = words; stores = []; races = []; loads = []; course = initial_state }

-- the context under which its events are judged
abbrev pub script_context : Script → ℕ → JudgeContext
script_context s conn = record { conn = conn; table = s.table; limit = s.loads }

-- ---- the state of a connection after a line

-- load `number` of a submission, counted from 1, reads the stores before it and the races up to its number
abbrev pub read_at : List (ℕ × ℕ) → List Race → (number place : ℕ) → ℕ
read_at stores races number place = word_after (stores ++ stores_of (races_up_to number races)) place

-- a submission makes the queued races, each before the load of its number, and those of larger numbers after the last
-- load
abbrev pub submitted : OpenConnection → Loads → ConnState → OpenConnection
submitted o own c = record {
  conn = o.conn;
  words = o.words;
  stores = o.stores ++ stores_of o.races;
  races = [];
  loads = o.loads ++ own;
  course = c;
}

-- the connection has this state, and is otherwise unchanged
abbrev pub with_state : OpenConnection → ConnState → OpenConnection
with_state o c = record o { course = c }

-- an event leads a connection to this course
abbrev pub IsNextCourse : Script → OpenConnection → Transition → ConnState → Type 0
IsNextCourse s old event c = IsTransition (script_context s old.conn) old.course event c

-- the call is accepted after the stores that were made so far
abbrev pub IsAfterStores : OpenConnection → AcceptedCall → Type 0
IsAfterStores old call = call.after ≡ length old.stores

-- each of these loads returns the word that is stored by then
abbrev pub IsReadFrom : OpenConnection → Loads → Type 0
IsReadFrom old own = AreReadBy (read_at old.stores old.races) 1 own

-- a line leads an open connection from one state to the next
pub data IsLineEffect (s : Script) (l : ScriptLine) (old new : OpenConnection) : Type 0 where
  stores : (place value : ℕ) → l ≡ line.Store old.conn place value
      → new ≡ record old { stores = old.stores ++ (place, value) ∷ [] } → IsLineEffect s l old new
  -- the race is queued for the next submission
  races : (load place value : ℕ) → l ≡ line.Race old.conn load place value
      → new ≡ record old { races = races_with old.races (record { load = load; place = place; value = value }) }
      → IsLineEffect s l old new
  -- few enough calls are pending: the next one is accepted by loads of what is stored by then
  submits : (call : AcceptedCall) (own : Loads) (c : ConnState)
      → l ≡ line.Submit old.conn call.method call.number call.addr
      → IsAfterStores old call → IsReadFrom old own → IsLoaded s.table old.words s.loads call own
      → IsNextCourse s old (accepts call) c → new ≡ submitted old own c → IsLineEffect s l old new
  -- too many calls are pending: nothing is loaded, but the races are made
  is_away : (method number addr : ℕ) (c : ConnState) → l ≡ line.Submit old.conn method number addr
      → IsNextCourse s old (turns_away method number addr) c → new ≡ submitted old [] c → IsLineEffect s l old new
  operates_on : (step : Op) (c : ConnState) → op_in s.declared.policies l ≡ Some step
      → IsNextCourse s old (operates step) c → new ≡ with_state old c → IsLineEffect s l old new
  advances_clock : (ms : ℕ) (c : ConnState) → l ≡ line.Moment old.conn ms
      → IsNextCourse s old (shows ms) c → new ≡ with_state old c → IsLineEffect s l old new
  -- no call is at the position
  is_idle : (position : ℕ) → l ≡ line.Turn old.conn position → first_at position old.course.row ≡ None → new ≡ old
      → IsLineEffect s l old new
  has_turn : (position seq : ℕ) (outcome : Outcome) (c : ConnState) → l ≡ line.Turn old.conn position
      → IsNextCourse s old (turns position seq outcome) c → new ≡ with_state old c → IsLineEffect s l old new
  -- no call is ready
  none_ready : l ≡ line.Send old.conn
      → first_at (length (chain old.course.past).entries) old.course.row ≡ None → new ≡ old → IsLineEffect s l old new
  is_sent : (seq bytes : ℕ) (c : ConnState) → l ≡ line.Send old.conn
      → IsNextCourse s old (sends seq bytes) c → new ≡ with_state old c → IsLineEffect s l old new
  drains : (c : ConnState) → l ≡ line.Drain old.conn → HasDrained (script_context s old.conn) old.course c
      → new ≡ with_state old c
      → IsLineEffect s l old new

-- the states in which a line can send: at its start, or after turns and sends of a drain
pub data CanSendAt (s : Script) (l : ScriptLine) (old : OpenConnection) (c : ConnState) : Type 0 where
  by_send : l ≡ line.Send old.conn → c ≡ old.course → CanSendAt s l old c
  by_drain : l ≡ line.Drain old.conn → HasPartlyDrained (script_context s old.conn) old.course c → CanSendAt s l old c

-- A line that sends leads an open connection to the failure of its link: this call is ready, in its form, and then all
-- pending calls are refused.
pub record IsSendFailure (s : Script) (l : ScriptLine) (old : OpenConnection) (tried : Call) (new : OpenConnection)
    : Type 0 where
  pub at : ConnState
  pub gets : CanSendAt s l old at
  pub seq : ℕ
  pub bytes : ℕ
  pub ready : IsReady (script_context s old.conn) at seq bytes
  pub is_tried : tried ≡ ready.sent
  pub refused : IsTransition (script_context s old.conn) at fails new.course
  pub same : new ≡ with_state old new.course

-- ---- the state of all connections after a line

abbrev pub event_on : ℕ → Happening → ConnectionEvent
event_on conn what = record { conn = conn; what = what }

-- one connection changes to another by a line, and its new events come after all earlier events
pub record IsLineStep (old : ScriptState) (one other : OpenConnection) (new : ScriptState) : Type 0 where
  pub front : List OpenConnection
  pub back : List OpenConnection
  pub before : old.opened ≡ front ++ one ∷ back
  pub after : new.opened ≡ front ++ other ∷ back
  pub piece : List Happening
  pub past : other.course.past ≡ reverse piece ++ one.course.past
  pub history : new.history ≡ old.history ++ map (event_on one.conn) piece

-- the line is one of the connection
abbrev pub IsLineOn : OpenConnection → ScriptLine → Type 0
IsLineOn one l = conn_of l ≡ one.conn

-- a line leads from a state to the next one
pub data IsScriptStep (s : Script) (old : ScriptState) (l : ScriptLine) (new : ScriptState) : Type 0 where
  opens : (conn words : ℕ) → l ≡ line.Conn conn words
      → new ≡ record { opened = old.opened ++ new_connection conn words ∷ []; history = old.history }
      → IsScriptStep s old l new
  advances : (one other : OpenConnection) → IsLineOn one l → IsLineEffect s l one other → IsLineStep old one other new
      → IsScriptStep s old l new

-- the lines lead from one state to another
abbrev pub IsStateAfter : Script → ScriptState → List ScriptLine → ScriptState → Type 0
IsStateAfter s old [] new = new ≡ old
IsStateAfter s old (l ∷ lines) new = (next : ScriptState) × IsScriptStep s old l next × IsStateAfter s next lines new

-- ---- what follows

-- this state follows from the script: its history, its loads, and the positions of pending calls
pub record Follows (s : Script) (end : ScriptState) : Type 0 where
  pub leads : IsStateAfter s start s.lines end
  pub in_turn : AreConsecutive end.history

-- The lines lead up to a send that fails, of this call in its form. The lines after it aren't run.
pub record IsRunToFailedSend (s : Script) (tried : Call) (end : ScriptState) : Type 0 where
  -- the lines before the one whose send fails, that one, and those after it
  pub lines : List ScriptLine
  pub failing : ScriptLine
  pub behind : List ScriptLine
  pub order : s.lines ≡ lines ++ failing ∷ behind
  -- the state before the line that fails
  pub before : ScriptState
  pub leads : IsStateAfter s start lines before
  -- the connection of that line, before it and after it
  pub one : OpenConnection
  pub other : OpenConnection
  pub on : IsLineOn one failing
  pub fails : IsSendFailure s failing one tried other
  pub goes : IsLineStep before one other end

-- this state follows from the script up to a send that fails
pub record FollowsUntil (s : Script) (tried : Call) (end : ScriptState) : Type 0 where
  pub until : IsRunToFailedSend s tried end
  pub in_turn : AreConsecutive end.history
