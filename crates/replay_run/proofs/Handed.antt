-- The effect of sends and drains on a connection of a run, over the link of the wire.
use Rattle.std.proofs.Common.{◌≡◌, ℕ, inl, inr, List, ◌∷◌, length, refl, sym, ap, ◌∙◌, subst, append-nil}
use Rattle.std.specs.Prelude.{Option, None}
use Rattle.std.specs.Io.KnownBytes.{Appends}
use Rattle.mrpc_base.specs.Quota.{Counters}
use Rattle.engine_core.specs.Moves.{first_at}
use Rattle.frame_transport.specs.Links.{IsLater, failures_of, link_frames, sink_of}
use Rattle.frame_transport.specs.declared.byte_link.ByteLink.{ByteLink}
use Rattle.replay_script.specs.declared.script.ScriptLine.TheVariants as line
use Rattle.replay_script.specs.declared.script.Script.{Script}
use Rattle.call_history.specs.Trace.{chain}
use Rattle.call_history.specs.Draining.{HasPartlyDrained, HasDrained}
use Rattle.call_history.specs.Transitions.{IsTransition, ConnState, has_turn, is_away, changes, is_sent, link_failed, rises, sends, stays, takes}
use Rattle.call_history.specs.Frames.{frames_of_trace}
use Rattle.call_history.specs.Rules.{JudgeContext}
use Rattle.call_history.specs.Tickets.{tickets_of_trace}
use Rattle.call_history.specs.declared.happening.Happening.TheVariants.{Sent}
use Rattle.conn_core.specs.Connections.{Connection as Calls, IsSameConnection, conn_trace, conn_state, judge_context as under_in}
use Rattle.conn_core.specs.ConnectionSteps.{HasDrawnTickets, HasHandedOver, IsStep}
use Rattle.replay_run.specs.Follows.{drains, is_sent as does_send, none_ready, script_context}
use Rattle.replay_run.specs.Kept.{IsDoneOn, HasSentFrames, IsOfScript, IsBetweenSubmissions, IsStoppedOn, drawn_of, HaveSameTenants, knows, open_connection_of}
use Rattle.replay_run.specs.Running.{joined_frames}
use Rattle.replay_run.specs.declared.connection.RunConnection.{RunConnection}
use Rattle.replay_run.proofs.Pieces.{append-cancel}
use Rattle.replay_run.proofs.Sent.{comes-of, draws-none, draws-of, hands-nothing, keeps-by, moved, under-of, with_calls}

-- ---- what the link's state implies

-- the frames that the link was given are on the wire
pub handed-on : {W : Type 0} (written : W → Option (List ℕ)) (failures : W → ℕ) (old new : Calls) (x y : ByteLink W) → IsSameConnection old new → HasHandedOver old new (link_frames x) (link_frames y)
    → IsLater written failures x y → failures_of y ≡ 0 → HasSentFrames old.table old.conn (conn_state old) (conn_state new) (written (sink_of x)) (written (sink_of y))
handed-on written failures old new x y same hands later none = record {
  more = hands.0;
  frames = sym (λ i. frames_of_trace (same.table i) (same.conn i) (conn_trace new)) ∙ hands.1;
  told = subst (λ fs. Appends (written (sink_of x)) (written (sink_of y)) (joined_frames fs))
      (append-cancel (link_frames x) later.more hands.0 (sym later.handed ∙ hands.2)) (later.gained none);
}

pub handed-of : (s : Script) (c : RunConnection) (old new : ConnState) (wire wire' : Option (List ℕ)) → IsOfScript s c → HasSentFrames c.calls.table c.calls.conn old new wire wire'
    → HasSentFrames s.table c.calls.conn old new wire wire'
handed-of s c old new wire wire' of_script frames_sent = subst (λ T. HasSentFrames T c.calls.conn old new wire wire') of_script.table frames_sent

-- ---- a call that was sent

sending-past : (u : JudgeContext) (old : ConnState) (seq bytes : ℕ) (new : ConnState) → IsTransition u old (sends seq bytes) new → new.past ≡ Sent seq bytes ∷ old.past
sending-past u old seq bytes new (takes call is going may makes) = cc
sending-past u old seq bytes new (is_away method number addr is full makes) = cc
sending-past u old seq bytes new (changes step is made makes) = cc
sending-past u old seq bytes new (rises ms is later makes) = cc
sending-past u old seq bytes new (stays ms is earlier makes) = cc
sending-past u old seq bytes new (has_turn position s outcome e is turn makes) = cc
sending-past u old seq bytes new (is_sent s b is going ready makes) =
    let number : s ≡ seq = cc in
    let long : b ≡ bytes = cc in
    ap (λ (c : ConnState). c.past) makes ∙ ap (λ n. Sent n b ∷ old.past) number ∙ ap (λ n. Sent seq n ∷ old.past) long
sending-past u old seq bytes new (link_failed is makes) = cc

pub send-done : (s : Script) (c : RunConnection) (seq bytes : ℕ) (calls : Calls) (quotas : Counters)
    (wire wire' : Option (List ℕ)) → IsOfScript s c → IsBetweenSubmissions c.heap → IsSameConnection c.calls calls
    → IsStep c.calls (sends seq bytes) calls → HasSentFrames c.calls.table c.calls.conn (conn_state c.calls) (conn_state calls) wire wire'
    → IsDoneOn s (line.Send c.calls.conn) c (with_calls c calls) quotas quotas wire wire'
send-done s c seq bytes calls quotas wire wire' of_script rests same step hands =
    let comes : IsTransition (script_context s c.calls.conn) (conn_state c.calls) (sends seq bytes) (conn_state calls) = comes-of s c (sends seq bytes) calls of_script step in
    record {
      does = does_send seq bytes (conn_state calls) refl comes (moved c calls same);
      keeps = keeps-by c calls same rests;
      draws = draws-none (conn_state c.calls) (conn_state calls) quotas
          (λ tenant window. ap (tickets_of_trace tenant window) (sending-past (script_context s c.calls.conn) (conn_state c.calls) seq bytes (conn_state calls) comes)
          ∙ append-nil (tickets_of_trace tenant window (conn_state c.calls).past));
      frames_sent = handed-of s c (conn_state c.calls) (conn_state calls) wire wire' of_script hands;
    }

-- no call is ready
pub send-nothing : (s : Script) (c : RunConnection) (calls : Calls) (quotas : Counters) (wire : Option (List ℕ)) → IsOfScript s c → IsBetweenSubmissions c.heap → IsSameConnection c.calls calls
    → first_at (length (chain (conn_trace c.calls)).entries) c.calls.chain.row ≡ None → calls ≡ c.calls
    → IsDoneOn s (line.Send c.calls.conn) c (with_calls c calls) quotas quotas wire wire
send-nothing s c calls quotas wire of_script rests same none still = record {
  does = none_ready refl none (ap (λ k. open_connection_of (with_calls c k)) still);
  keeps = keeps-by c calls same rests;
  draws = draws-none (conn_state c.calls) (conn_state calls) quotas (λ tenant window. ap (λ k. tickets_of_trace tenant window (conn_state k).past) still);
  frames_sent = hands-nothing s.table c.calls.conn (conn_state c.calls) (conn_state calls) wire (ap (λ k. frames_of_trace s.table c.calls.conn (conn_state k).past) still);
}

-- a drain that reached its end
pub drain-done : (s : Script) (c : RunConnection) (calls : Calls) (quotas quotas' : Counters) (wire wire' : Option (List ℕ)) → IsOfScript s c → IsBetweenSubmissions c.heap → IsSameConnection c.calls calls
    → HasDrained (under_in c.calls) (conn_state c.calls) (conn_state calls) → HasDrawnTickets knows drawn_of HaveSameTenants c.calls calls quotas quotas'
    → HasSentFrames c.calls.table c.calls.conn (conn_state c.calls) (conn_state calls) wire wire' → IsDoneOn s (line.Drain c.calls.conn) c (with_calls c calls) quotas quotas' wire wire'
drain-done s c calls quotas quotas' wire wire' of_script rests same drained draws frames_sent = record {
  does = drains (conn_state calls) refl (subst (λ u. HasDrained u (conn_state c.calls) (conn_state calls)) (under-of s c of_script) drained) (moved c calls same);
  keeps = keeps-by c calls same rests;
  draws = draws-of c calls quotas quotas' draws;
  frames_sent = handed-of s c (conn_state c.calls) (conn_state calls) wire wire' of_script frames_sent;
}

-- a drain that ended early, out of memory
pub drain-stopped : (s : Script) (c : RunConnection) (calls : Calls) (wire wire' : Option (List ℕ)) → IsOfScript s c → HasPartlyDrained (under_in c.calls) (conn_state c.calls) (conn_state calls)
    → HasSentFrames c.calls.table c.calls.conn (conn_state c.calls) (conn_state calls) wire wire' → IsStoppedOn s (line.Drain c.calls.conn) c wire wire'
drain-stopped s c calls wire wire' of_script begins frames_sent = record {
  end = conn_state calls;
  begun = inr (refl, subst (λ u. HasPartlyDrained u (conn_state c.calls) (conn_state calls)) (under-of s c of_script) begins);
  frames_sent = handed-of s c (conn_state c.calls) (conn_state calls) wire wire' of_script frames_sent;
}

pub send-stopped : (s : Script) (c : RunConnection) (wire wire' : Option (List ℕ)) → IsOfScript s c → HasSentFrames c.calls.table c.calls.conn (conn_state c.calls) (conn_state c.calls) wire wire'
    → IsStoppedOn s (line.Send c.calls.conn) c wire wire'
send-stopped s c wire wire' of_script frames_sent = record { end = conn_state c.calls; begun = inl refl; frames_sent = handed-of s c (conn_state c.calls) (conn_state c.calls) wire wire' of_script frames_sent }
