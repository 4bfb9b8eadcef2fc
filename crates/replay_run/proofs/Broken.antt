-- The effect of a send that fails on a connection of a run.
use Rattle.std.proofs.Common.{◌≡◌, ℕ, ◌+◌, ◌<◌, List, [], ◌∷◌, ◌++◌, length, take, refl, sym, ap, ◌∙◌, subst, append-nil}
use Rattle.std.specs.Prelude.{Option}
use Rattle.std.specs.Io.KnownBytes.{Appends}
use Rattle.mrpc_base.specs.Quota.{Counters}
use Rattle.mrpc_table.specs.declared.call.Call.{Call}
use Rattle.mrpc_table.specs.declared.table.Table.{Table}
use Rattle.frame_transport.specs.Links.{IsLater, IsFailedSend, failures_of, link_frames, sink_of}
use Rattle.frame_transport.specs.declared.byte_link.ByteLink.{ByteLink}
use Rattle.frame_transport.specs.declared.format.TheConstants.{HEADER_LEN}
use Rattle.replay_script.specs.declared.script.ScriptLine.TheVariants as line
use Rattle.replay_script.specs.declared.script.Script.{Script}
use Rattle.call_history.specs.Trace.{Trace, pending_calls}
use Rattle.call_history.specs.Draining.{HasPartlyDrained}
use Rattle.call_history.specs.Transitions.{IsTransition, ConnState, IsReady, changes, fails, has_turn, is_away, is_sent, link_failed, refused_for_link, rises, stays, takes}
use Rattle.call_history.specs.Frames.{frame_of, frames_of_trace}
use Rattle.call_history.specs.Rules.{JudgeContext, payload}
use Rattle.call_history.specs.Tickets.{tickets_of_trace}
use Rattle.call_history.specs.declared.happening.Cause.TheVariants as cause
use Rattle.call_history.specs.declared.happening.Happening.TheVariants.{Refused}
use Rattle.call_history.specs.declared.happening.AcceptedCall.{AcceptedCall}
use Rattle.conn_core.specs.Connections.{Connection as Calls, IsSameConnection, conn_trace, conn_state, judge_context as under_in}
use Rattle.conn_core.specs.ConnectionSteps.{HasDrawnTickets, HasFailedInDrain, HasFailedSend, HasHandedOver, IsStep}
use Rattle.replay_run.specs.Follows.{by_drain, by_send, script_context}
use Rattle.replay_run.specs.Kept.{IsBrokenOn, IsOfScript, IsBetweenSubmissions, drawn_of, HaveSameTenants, knows}
use Rattle.replay_run.specs.Running.{joined_frames}
use Rattle.replay_run.specs.declared.connection.RunConnection.{RunConnection}
use Rattle.replay_run.proofs.Adds.{IsOfTurn, frames-kept-by_turn, turning-adds, unmoved}
use Rattle.replay_run.proofs.Bytes.{appends-more, appends-nothing}
use Rattle.replay_run.proofs.Pieces.{append-cancel}
use Rattle.replay_run.proofs.Sent.{comes-of, draws-none, draws-of, keeps-by, moved, under-of, with_calls}

refused-draws : (tenant window : ℕ) (calls : List AcceptedCall) (past : Trace) → tickets_of_trace tenant window (refused_for_link calls past) ≡ tickets_of_trace tenant window past
refused-draws tenant window [] past = refl
refused-draws tenant window (call ∷ calls) past =
    refused-draws tenant window calls (Refused call.seq cause.Transport ∷ past) ∙ append-nil (tickets_of_trace tenant window past)

failing-draws : (u : JudgeContext) (old new : ConnState) (tenant window : ℕ) → IsTransition u old fails new → tickets_of_trace tenant window new.past ≡ tickets_of_trace tenant window old.past
failing-draws u old new tenant window (takes call is going may makes) = cc
failing-draws u old new tenant window (is_away method number addr is full makes) = cc
failing-draws u old new tenant window (changes step is made makes) = cc
failing-draws u old new tenant window (rises ms is later makes) = cc
failing-draws u old new tenant window (stays ms is earlier makes) = cc
failing-draws u old new tenant window (has_turn position seq outcome e is turn makes) = cc
failing-draws u old new tenant window (is_sent seq bytes is going ready makes) = cc
failing-draws u old new tenant window (link_failed is makes) =
    ap (λ (c : ConnState). tickets_of_trace tenant window c.past) makes ∙ refused-draws tenant window (pending_calls old.past) old.past

-- what is ready on a connection is ready in its script
abbrev ready-of : (s : Script) (c : RunConnection) (at : ConnState) (seq bytes : ℕ) → IsOfScript s c → IsReady (under_in c.calls) at seq bytes → IsReady (script_context s c.calls.conn) at seq bytes
ready-of s c at seq bytes of_script ready = record {
  first = ready.first;
  sent = ready.sent;
  is_form = ready.is_form;
  long = ready.long ∙ ap (λ T. HEADER_LEN + length (payload T ready.sent)) of_script.table;
}

pub frames-failed : (T : Table) (conn : ℕ) (u : JudgeContext) (old new : ConnState) → IsTransition u old fails new → frames_of_trace T conn new.past ≡ frames_of_trace T conn old.past
frames-failed T conn u old new comes = unmoved (List (List ℕ)) (frames_of_trace T conn) IsOfTurn (frames-kept-by_turn T conn) old.past new.past (turning-adds u old fails new tt comes)

pub send-broken : {W : Type 0} (written : W → Option (List ℕ)) (failures : W → ℕ) (s : Script) (c : RunConnection) (calls : Calls) (quotas : Counters) (x y : ByteLink W)
    → IsOfScript s c → IsBetweenSubmissions c.heap → IsSameConnection c.calls calls → IsStep c.calls fails calls → HasFailedSend (IsFailedSend written failures) c.calls x y
    → IsBrokenOn s (line.Send c.calls.conn) c (with_calls c calls) quotas quotas (written (sink_of x)) (written (sink_of y))
send-broken written failures s c calls quotas x y of_script rests same step fault =
    let comes : IsTransition (script_context s c.calls.conn) (conn_state c.calls) fails (conn_state calls) = comes-of s c fails calls of_script step in
    let call : Call = fault.ready.sent in
    let front = fault.refused.front in
    record {
      tried = call;
      fails = record {
        at = conn_state c.calls;
        gets = by_send refl refl;
        seq = fault.seq;
        bytes = fault.bytes;
        ready = ready-of s c (conn_state c.calls) fault.seq fault.bytes of_script fault.ready;
        is_tried = refl;
        refused = comes;
        same = moved c calls same;
      };
      keeps = keeps-by c calls same rests;
      draws = draws-none (conn_state c.calls) (conn_state calls) quotas (λ tenant window. failing-draws (script_context s c.calls.conn) (conn_state c.calls) (conn_state calls) tenant window comes);
      frames_sent = record {
        more = [];
        frames = frames-failed s.table c.calls.conn (script_context s c.calls.conn) (conn_state c.calls) (conn_state calls) comes
            ∙ sym (append-nil (frames_of_trace s.table c.calls.conn (conn_state c.calls).past));
        many = front.0;
        few = subst (λ T. front.0 < length (frame_of T call)) of_script.table front.1;
        told = subst (λ T. Appends (written (sink_of x)) (written (sink_of y)) (take front.0 (frame_of T call))) of_script.table front.2;
      };
    }

pub later-itself : {W : Type 0} (written : W → Option (List ℕ)) (failures : W → ℕ) (x : ByteLink W) → IsLater written failures x x
later-itself written failures x = record {
  same_sink = refl;
  more = [];
  handed = sym (append-nil (link_frames x));
  gained = λ none. appends-nothing (written (sink_of x));
  same_faults = λ none. refl;
}

pub drain-broken : {W : Type 0} (written : W → Option (List ℕ)) (failures : W → ℕ) (s : Script) (c : RunConnection) (calls : Calls) (quotas quotas' : Counters) (x y : ByteLink W)
    → IsOfScript s c → IsBetweenSubmissions c.heap → IsSameConnection c.calls calls → failures_of x ≡ 0
    → HasFailedInDrain (IsFailedSend written failures) link_frames failures_of (IsLater written failures) c.calls calls x y
    → HasDrawnTickets knows drawn_of HaveSameTenants c.calls calls quotas quotas' → HasHandedOver c.calls calls (link_frames x) (link_frames y)
    → IsBrokenOn s (line.Drain c.calls.conn) c (with_calls c calls) quotas quotas' (written (sink_of x)) (written (sink_of y))
drain-broken written failures s c calls quotas quotas' x y of_script rests same none fault draws hands =
    let call : Call = fault.ready.sent in
    let front = fault.refused.front in
    let z : ByteLink _ = fault.link in
    let later : IsLater written failures x z = fault.since x (later-itself written failures x) in
    let more : later.more ≡ hands.0 = append-cancel (link_frames x) later.more hands.0 (sym later.handed ∙ fault.same_handed ∙ hands.2) in
    let gained : Appends (written (sink_of x)) (written (sink_of z)) (joined_frames hands.0) =
    subst (λ fs. Appends (written (sink_of x)) (written (sink_of z)) (joined_frames fs)) more (later.gained (fault.same_faults ∙ none)) in
    let table : c.calls.table ≡ s.table = of_script.table in
    record {
      tried = call;
      fails = record {
        at = fault.between;
        gets = by_drain refl (subst (λ u. HasPartlyDrained u (conn_state c.calls) fault.between) (under-of s c of_script) fault.front);
        seq = fault.seq;
        bytes = fault.bytes;
        ready = ready-of s c fault.between fault.seq fault.bytes of_script fault.ready;
        is_tried = refl;
        refused = subst (λ u. IsTransition u fault.between fails (conn_state calls)) (under-of s c of_script) fault.failed;
        same = moved c calls same;
      };
      keeps = keeps-by c calls same rests;
      draws = draws-of c calls quotas quotas' draws;
      frames_sent = record {
        more = hands.0;
        frames = subst (λ T. frames_of_trace T c.calls.conn (conn_trace calls) ≡ frames_of_trace T c.calls.conn (conn_trace c.calls) ++ hands.0) table
            (sym (λ i. frames_of_trace (same.table i) (same.conn i) (conn_trace calls)) ∙ hands.1);
        many = front.0;
        few = subst (λ T. front.0 < length (frame_of T call)) table front.1;
        told = subst (λ T. Appends (written (sink_of x)) (written (sink_of y)) (joined_frames hands.0 ++ take front.0 (frame_of T call))) table
            (appends-more (written (sink_of x)) (written (sink_of z)) (written (sink_of y)) (joined_frames hands.0) (take front.0 (frame_of c.calls.table call)) gained front.2);
      };
    }
