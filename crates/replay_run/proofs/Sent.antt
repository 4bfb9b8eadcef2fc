-- The effect of turns and sends on a connection of a run.
use Rattle.std.proofs.Common.{◌≡◌, ℕ, ◌↔◌, List, [], refl, sym, ap, ◌∙◌, subst, append-nil}
use Rattle.std.specs.Prelude.{Option, Some, None}
use Rattle.mrpc_base.specs.Quota.{Counters}
use Rattle.mrpc_table.specs.declared.table.Table.{Table}
use Rattle.engine_core.specs.Moves.{first_at}
use Rattle.chain_upgrade.specs.Chains.{OnTurn}
use Rattle.chain_upgrade.specs.declared.turned.Turned.{Turned}
use Rattle.chain_upgrade.specs.declared.turned.Turned.TheVariants.{Idle, Moved, Held, Refused, Redacted}
use Rattle.engine_core.specs.declared.outcome.Outcome.{Outcome}
use Rattle.engine_core.specs.declared.outcome.Outcome.TheVariants as outcomes
use Rattle.replay_script.specs.declared.script.ScriptLine.TheVariants as line
use Rattle.replay_script.specs.declared.script.Script.{Script}
use Rattle.call_history.specs.Transitions.{IsTransition, ConnState, Transition, turns}
use Rattle.call_history.specs.Frames.{frames_of_trace}
use Rattle.call_history.specs.Rules.{JudgeContext}
use Rattle.call_history.specs.Tickets.{tickets_of_trace}
use Rattle.conn_core.specs.Connections.{Connection as Calls, IsSameConnection, conn_state, judge_context as under_in}
use Rattle.conn_core.specs.ConnectionSteps.{HasDrawnTickets, IsStep}
use Rattle.replay_run.specs.Follows.{with_state, has_turn, is_idle, script_context}
use Rattle.replay_run.specs.Kept.{IsDoneOn, IsDrawnIn, HasDrawn, HasSentFrames, IsOfScript, IsBetweenSubmissions, HasKept, drawn_of, HaveSameTenants, knows, open_connection_of}
use Rattle.replay_run.specs.declared.connection.RunConnection.{RunConnection}
use Rattle.replay_run.proofs.Adds.{IsOfTurn, frames-kept-by_turn, turning-adds, unmoved}
use Rattle.replay_run.proofs.Bytes.{appends-nothing}

-- a connection whose calls advanced
abbrev pub with_calls : RunConnection → Calls → RunConnection
with_calls c calls = record c { calls = calls }

pub moved : (c : RunConnection) (calls : Calls) → IsSameConnection c.calls calls → open_connection_of (with_calls c calls) ≡ with_state (open_connection_of c) (conn_state calls)
moved c calls same = ap (λ (n : ℕ). record {
  conn = n;
  words = c.heap.size;
  stores = c.heap.stores;
  races = c.heap.races;
  loads = c.heap.loads;
  course = conn_state calls;
}) same.conn

pub keeps-by : (c : RunConnection) (calls : Calls) → IsSameConnection c.calls calls → IsBetweenSubmissions c.heap → HasKept c (with_calls c calls)
keeps-by c calls same rests = record { same = same; rests = rests; told = refl }

-- judged by the table and the limit of its script
pub under-of : (s : Script) (c : RunConnection) → IsOfScript s c → under_in c.calls ≡ script_context s c.calls.conn
under-of s c of_script = (λ i. record { conn = c.calls.conn; table = of_script.table i; limit = of_script.limit i })

pub comes-of : (s : Script) (c : RunConnection) (event : Transition) (calls : Calls) → IsOfScript s c → IsStep c.calls event calls → IsTransition (script_context s c.calls.conn) (conn_state c.calls) event (conn_state calls)
comes-of s c event calls of_script step = subst (λ (u : JudgeContext). IsTransition u (conn_state c.calls) event (conn_state calls)) (under-of s c of_script) step

-- no frame was sent
pub hands-nothing : (T : Table) (conn : ℕ) (old new : ConnState) (wire : Option (List ℕ))
    → frames_of_trace T conn new.past ≡ frames_of_trace T conn old.past → HasSentFrames T conn old new wire wire
hands-nothing T conn old new wire same = record { more = []; frames = same ∙ sym (append-nil (frames_of_trace T conn old.past)); told = appends-nothing wire }

drawn-none : (tenant window : ℕ) (old new : ConnState) (d : Option (List ℕ))
    → tickets_of_trace tenant window new.past ≡ tickets_of_trace tenant window old.past
    → IsDrawnIn tenant window old new d d
drawn-none tenant window old new None same = tt
drawn-none tenant window old new (Some now) same = ([], same ∙ sym (append-nil (tickets_of_trace tenant window old.past)), sym (append-nil now))

-- no ticket was drawn
pub draws-none : (old new : ConnState) (quotas : Counters)
    → ((tenant window : ℕ) → tickets_of_trace tenant window new.past ≡ tickets_of_trace tenant window old.past)
    → HasDrawn old new quotas quotas
draws-none old new quotas same = record {
  same = refl;
  drawn = λ tenant window known early. drawn-none tenant window old new (drawn_of quotas tenant window) (same tenant window);
}

pub draws-of : (c : RunConnection) (calls : Calls) (quotas quotas' : Counters) → HasDrawnTickets knows drawn_of HaveSameTenants c.calls calls quotas quotas'
    → HasDrawn (conn_state c.calls) (conn_state calls) quotas quotas'
draws-of c calls quotas quotas' draws = record { same = draws.since quotas refl; drawn = draws.drawn }

-- ---- turns

turned-by : (s : Script) (c : RunConnection) (at seq : ℕ) (outcome : Outcome) (calls : Calls) (quotas quotas' : Counters)
    (wire : Option (List ℕ)) → IsOfScript s c → IsBetweenSubmissions c.heap → IsSameConnection c.calls calls
    → IsStep c.calls (turns at seq outcome) calls → HasDrawnTickets knows drawn_of HaveSameTenants c.calls calls quotas quotas'
    → IsDoneOn s (line.Turn c.calls.conn at) c (with_calls c calls) quotas quotas' wire wire
turned-by s c at seq outcome calls quotas quotas' wire of_script rests same step draws =
    let comes : IsTransition (script_context s c.calls.conn) (conn_state c.calls) (turns at seq outcome) (conn_state calls) = comes-of s c (turns at seq outcome) calls of_script step in
    record {
      does = has_turn at seq outcome (conn_state calls) refl comes (moved c calls same);
      keeps = keeps-by c calls same rests;
      draws = draws-of c calls quotas quotas' draws;
      frames_sent = hands-nothing s.table c.calls.conn (conn_state c.calls) (conn_state calls) wire
          (unmoved (List (List ℕ)) (frames_of_trace s.table c.calls.conn) IsOfTurn (frames-kept-by_turn s.table c.calls.conn) (conn_state c.calls).past (conn_state calls).past
          (turning-adds (script_context s c.calls.conn) (conn_state c.calls) (turns at seq outcome) (conn_state calls) tt comes));
    }

idle-there : (s : Script) (c : RunConnection) (at : ℕ) (calls : Calls) (quotas quotas' : Counters) (wire : Option (List ℕ)) → IsOfScript s c → IsBetweenSubmissions c.heap → IsSameConnection c.calls calls
    → first_at at c.calls.chain.row ≡ None → calls ≡ c.calls → quotas' ≡ quotas → IsDoneOn s (line.Turn c.calls.conn at) c (with_calls c calls) quotas quotas' wire wire
idle-there s c at calls quotas quotas' wire of_script rests same none still unused = record {
  does = is_idle at refl none (ap (λ k. open_connection_of (with_calls c k)) still);
  keeps = keeps-by c calls same rests;
  draws = subst (λ q. HasDrawn (conn_state c.calls) (conn_state calls) quotas q) (sym unused)
      (draws-none (conn_state c.calls) (conn_state calls) quotas (λ tenant window. ap (λ k. tickets_of_trace tenant window (conn_state k).past) still));
  frames_sent = hands-nothing s.table c.calls.conn (conn_state c.calls) (conn_state calls) wire (ap (λ k. frames_of_trace s.table c.calls.conn (conn_state k).past) still);
}

pub turn-done : (s : Script) (c : RunConnection) (at : ℕ) (t : Turned) (calls : Calls) (quotas quotas' : Counters)
    (wire : Option (List ℕ)) → IsOfScript s c → IsBetweenSubmissions c.heap → IsSameConnection c.calls calls
    → (t ≡ Idle) ↔ (first_at at c.calls.chain.row ≡ None) → (t ≡ Idle → (calls ≡ c.calls) × (quotas' ≡ quotas))
    → OnTurn t (λ seq outcome. IsStep c.calls (turns at seq outcome) calls)
    → HasDrawnTickets knows drawn_of HaveSameTenants c.calls calls quotas quotas' → IsDoneOn s (line.Turn c.calls.conn at) c (with_calls c calls) quotas quotas' wire wire
turn-done s c at Idle calls quotas quotas' wire of_script rests same idle as_before step draws =
    let still = as_before refl in idle-there s c at calls quotas quotas' wire of_script rests same (idle.0 refl) still.0 still.1
turn-done s c at (Moved seq noted) calls quotas quotas' wire of_script rests same idle as_before step draws =
    turned-by s c at seq (outcomes.Passed noted) calls quotas quotas' wire of_script rests same step draws
turn-done s c at (Held seq level cost) calls quotas quotas' wire of_script rests same idle as_before step draws =
    turned-by s c at seq (outcomes.Held level cost) calls quotas quotas' wire of_script rests same step draws
turn-done s c at (Refused seq noted why) calls quotas quotas' wire of_script rests same idle as_before step draws =
    turned-by s c at seq (outcomes.Refused noted why) calls quotas quotas' wire of_script rests same step draws
turn-done s c at (Redacted seq) calls quotas quotas' wire of_script rests same idle as_before step draws =
    turned-by s c at seq outcomes.Redacted calls quotas quotas' wire of_script rests same step draws
