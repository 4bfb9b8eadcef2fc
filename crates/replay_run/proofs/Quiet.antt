-- The effect of a line that neither turns nor sends on a connection of a run.
use Rattle.std.proofs.Common.{◌≡◌, ℕ, inl, List, refl, sym, ap, subst}
use Rattle.std.specs.Prelude.{Err, IfErr, Ok, OnOk, Option, Result}
use Rattle.mrpc_base.specs.Heap.{Heap}
use Rattle.mrpc_base.specs.Quota.{Counters}
use Rattle.mrpc_table.specs.declared.table.Table.{Table}
use Rattle.replay_script.specs.declared.script.ScriptLine.{ScriptLine}
use Rattle.replay_script.specs.declared.script.ScriptLine.TheVariants as line
use Rattle.replay_script.specs.declared.script.Script.{Script}
use Rattle.call_history.specs.Transitions.{IsTransition, ConnState, Transition, accepts, operates, shows, turns_away}
use Rattle.call_history.specs.Frames.{frames_of_trace}
use Rattle.call_history.specs.Tickets.{tickets_of_trace}
use Rattle.conn_core.specs.Connections.{conn_state}
use Rattle.replay_run.specs.Follows.{IsLineEffect, OpenConnection, drains, has_turn, is_away, is_idle, is_sent, none_ready, operates_on, races, advances_clock, stores, submits, script_context}
use Rattle.replay_run.specs.Kept.{IsDoneOn, IsRaceQueued, IsStored, HasKept, OnRan, IsStoppedOn, open_connection_of}
use Rattle.replay_run.specs.declared.connection.RunConnection.{RunConnection}
use Rattle.replay_run.specs.declared.replay_error.ReplayError.{ReplayError}
use Rattle.replay_run.specs.declared.replay_error.ReplayError.TheVariants.{Memory, Out, Wire}
use Rattle.replay_run.proofs.Adds.{IsChanging, IsOfChange, changing-adds, frames-kept-by_change, tickets-kept-by_change, unmoved}
use Rattle.replay_run.proofs.Sent.{draws-none, hands-nothing}

-- a line that neither turns nor sends
abbrev pub IsQuiet : ScriptLine → Type 0
IsQuiet (line.Conn conn words) = ⊥
IsQuiet (line.Store conn place value) = Unit {0}
IsQuiet (line.Race conn load place value) = Unit {0}
IsQuiet (line.Submit conn method number addr) = Unit {0}
IsQuiet (line.Attach conn at name policy) = Unit {0}
IsQuiet (line.Detach conn name) = Unit {0}
IsQuiet (line.Upgrade conn name policy) = Unit {0}
IsQuiet (line.Moment conn ms) = Unit {0}
IsQuiet (line.Turn conn at) = ⊥
IsQuiet (line.Send conn) = ⊥
IsQuiet (line.Drain conn) = ⊥

record IsStill (T : Table) (conn : ℕ) (old new : ConnState) : Type 0 where
  frames : frames_of_trace T conn new.past ≡ frames_of_trace T conn old.past
  tickets : (tenant window : ℕ) → tickets_of_trace tenant window new.past ≡ tickets_of_trace tenant window old.past

module _ (s : Script) where
  same-course : (conn : ℕ) (old new : OpenConnection) → new.course ≡ old.course → IsStill s.table conn old.course new.course
  same-course conn old new same = record {
    frames = ap (λ (c : ConnState). frames_of_trace s.table conn c.past) same;
    tickets = λ tenant window. ap (λ (c : ConnState). tickets_of_trace tenant window c.past) same;
  }

  by-change : (conn : ℕ) (old : OpenConnection) (event : Transition) (c : ConnState) → IsChanging event → IsTransition (script_context s old.conn) old.course event c
      → IsStill s.table conn old.course c
  by-change conn old event c changing comes = record {
    frames = unmoved (List (List ℕ)) (frames_of_trace s.table conn) IsOfChange (frames-kept-by_change s.table conn) old.course.past c.past
        (changing-adds (script_context s old.conn) old.course event c changing comes);
    tickets = λ tenant window. unmoved (List ℕ) (tickets_of_trace tenant window) IsOfChange (tickets-kept-by_change tenant window) old.course.past c.past
        (changing-adds (script_context s old.conn) old.course event c changing comes);
  }

  along : (conn : ℕ) (old new : OpenConnection) (c : ConnState) → new.course ≡ c → IsStill s.table conn old.course c → IsStill s.table conn old.course new.course
  along conn old new c same still = subst (IsStill s.table conn old.course) (sym same) still

  does-still : (conn : ℕ) (l : ScriptLine) (old new : OpenConnection) → IsQuiet l → IsLineEffect s l old new → IsStill s.table conn old.course new.course
  does-still conn l old new quiet (stores place value is makes) = same-course conn old new (ap (λ (o : OpenConnection). o.course) makes)
  does-still conn l old new quiet (races load place value is makes) = same-course conn old new (ap (λ (o : OpenConnection). o.course) makes)
  does-still conn l old new quiet (submits call own c is after reads loaded comes makes) =
      along conn old new c (ap (λ (o : OpenConnection). o.course) makes) (by-change conn old (accepts call) c tt comes)
  does-still conn l old new quiet (is_away method number addr c is comes makes) =
      along conn old new c (ap (λ (o : OpenConnection). o.course) makes) (by-change conn old (turns_away method number addr) c tt comes)
  does-still conn l old new quiet (operates_on step c is comes makes) =
      along conn old new c (ap (λ (o : OpenConnection). o.course) makes) (by-change conn old (operates step) c tt comes)
  does-still conn l old new quiet (advances_clock ms c is comes makes) =
      along conn old new c (ap (λ (o : OpenConnection). o.course) makes) (by-change conn old (shows ms) c tt comes)
  does-still conn l old new quiet (is_idle position is empty makes) = absurd (subst IsQuiet is quiet)
  does-still conn l old new quiet (has_turn position seq outcome c is comes makes) = absurd (subst IsQuiet is quiet)
  does-still conn l old new quiet (none_ready is empty makes) = absurd (subst IsQuiet is quiet)
  does-still conn l old new quiet (is_sent seq bytes c is comes makes) = absurd (subst IsQuiet is quiet)
  does-still conn l old new quiet (drains c is drained makes) = absurd (subst IsQuiet is quiet)

  pub quiet-done : (l : ScriptLine) (c d : RunConnection) (quotas : Counters) (wire : Option (List ℕ)) → IsQuiet l
      → IsLineEffect s l (open_connection_of c) (open_connection_of d) → HasKept c d → IsDoneOn s l c d quotas quotas wire wire
  quiet-done l c d quotas wire quiet does keeps =
      let still : IsStill s.table c.calls.conn (conn_state c.calls) (conn_state d.calls) = does-still c.calls.conn l (open_connection_of c) (open_connection_of d) quiet does in
      record {
        does = does;
        keeps = keeps;
        draws = draws-none (conn_state c.calls) (conn_state d.calls) quotas still.tickets;
        frames_sent = hands-nothing s.table c.calls.conn (conn_state c.calls) (conn_state d.calls) wire still.frames;
      }

  unmoved-stop : (l : ScriptLine) (c : RunConnection) (wire : Option (List ℕ)) → IsStoppedOn s l c wire wire
  unmoved-stop l c wire = record { end = conn_state c.calls; begun = inl refl; frames_sent = hands-nothing s.table c.calls.conn (conn_state c.calls) (conn_state c.calls) wire refl }

  -- the result of a line that neither turns nor sends
  pub quiet-ran : (l : ScriptLine) (c d : RunConnection) (quotas : Counters) (wire : Option (List ℕ)) (result : Result (Unit {0}) ReplayError) (Broken : Type 0) → IsQuiet l
      → OnOk result (IsLineEffect s l (open_connection_of c) (open_connection_of d)) → OnOk result (HasKept c d) → IfErr result (λ stop. stop ≡ Memory)
      → OnRan result (IsDoneOn s l c d quotas quotas wire wire) Broken (IsStoppedOn s l c wire wire) ⊥
  quiet-ran l c d quotas wire (Ok value) Broken quiet does keeps memory = quiet-done l c d quotas wire quiet does keeps
  quiet-ran l c d quotas wire (Err Wire) Broken quiet does keeps memory = cc
  quiet-ran l c d quotas wire (Err Memory) Broken quiet does keeps memory = unmoved-stop l c wire
  quiet-ran l c d quotas wire (Err Out) Broken quiet does keeps memory = cc

-- ---- stores and races

abbrev pub stored_in : RunConnection → Heap → RunConnection
stored_in c heap = record c { heap = heap }

pub store-does : (s : Script) (l : ScriptLine) (c : RunConnection) (heap : Heap) (place value : ℕ) → l ≡ line.Store c.calls.conn place value → IsStored place value c.heap heap
    → IsLineEffect s l (open_connection_of c) (open_connection_of (stored_in c heap))
store-does s l c heap place value is stored = stores place value is (λ i. record {
  conn = c.calls.conn;
  words = stored.size i;
  stores = stored.stores i;
  races = stored.races i;
  loads = stored.loads i;
  course = conn_state c.calls;
})

pub race-does : (s : Script) (l : ScriptLine) (c : RunConnection) (heap : Heap) (load place value : ℕ) → l ≡ line.Race c.calls.conn load place value → IsRaceQueued load place value c.heap heap
    → IsLineEffect s l (open_connection_of c) (open_connection_of (stored_in c heap))
race-does s l c heap load place value is listed = races load place value is (λ i. record {
  conn = c.calls.conn;
  words = listed.size i;
  stores = listed.stores i;
  races = listed.races i;
  loads = listed.loads i;
  course = conn_state c.calls;
})
