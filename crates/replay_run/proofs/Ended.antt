-- The result of a send or a drain over the link of the wire.
use Rattle.std.proofs.Common.{◌≡◌, ℕ, ◌↔◌, ◌⊎◌, inl, inr, List, length, refl, sym, ap, ◌∙◌, subst}
use Rattle.std.proofs.lemmas.List.{length-map}
use Rattle.std.specs.Prelude.{Option, None}
use Rattle.mrpc_base.specs.Failures.{HasCause}
use Rattle.mrpc_base.specs.Quota.{Counters}
use Rattle.engine_core.specs.Engines.{EngineParts}
use Rattle.engine_core.specs.Chains.{Chain}
use Rattle.engine_core.specs.Moves.{first_at}
use Rattle.chain_upgrade.specs.Chains.{chain_of_state}
use Rattle.frame_transport.specs.Links.{IsLater, IsFailedSend, failures_of, link_frames, sink_of}
use Rattle.frame_transport.specs.declared.byte_link.ByteLink.{ByteLink}
use Rattle.replay_script.specs.declared.script.ScriptLine.TheVariants as line
use Rattle.replay_script.specs.declared.script.Script.{Script}
use Rattle.call_history.specs.Trace.{chain}
use Rattle.call_history.specs.Draining.{HasPartlyDrained, HasDrained}
use Rattle.call_history.specs.Frames.{frame_of}
use Rattle.conn_core.specs.Connections.{Connection as Calls, IsSameConnection, conn_trace, conn_state, judge_context as under_in}
use Rattle.conn_core.specs.ConnectionSteps.{HasDrawnTickets, HasFailedInDrain, HasHandedOver, OnSent, IsSend}
use Rattle.conn_core.specs.declared.answers.Sending.{Sending}
use Rattle.conn_core.specs.declared.answers.Sending.TheVariants.{Failed, Memory, Nothing, Sent}
use Rattle.replay_run.specs.Kept.{IsDoneOn, HasSentFrames, IsOfScript, IsBetweenSubmissions, IsStoppedOn, drawn_of, HaveSameTenants, knows}
use Rattle.replay_run.specs.declared.connection.RunConnection.{RunConnection}
use Rattle.replay_run.proofs.Broken.{later-itself}
use Rattle.replay_run.proofs.Handed.{drain-done, drain-stopped, handed-on, send-done, send-nothing, send-stopped}
use Rattle.replay_run.proofs.Ran.{cause-none}
use Rattle.replay_run.proofs.Sent.{with_calls}

-- what holds between two states of a sink holds between the sink before its link was made and after the link was closed
pub over : {W V : Type 0} (of : W → V) (P : V → V → Type 0) (first last : W) (x y : W) → x ≡ first → last ≡ y → P (of x) (of y) → P (of first) (of last)
over of P first last x y e d p = subst (λ w. P (of first) (of w)) (sym d) (subst (λ w. P (of w) (of y)) e p)

module _ {W : Type 0} (written : W → Option (List ℕ)) (failures : W → ℕ) where
  behind-chain : (c : RunConnection) → chain_of_state c.calls.chain ≡ chain (conn_trace c.calls)
      → first_at (length c.calls.chain.engines) c.calls.chain.row ≡ None → first_at (length (chain (conn_trace c.calls)).entries) c.calls.chain.row ≡ None
  behind-chain c same_chain none =
      let long : length c.calls.chain.engines ≡ length (chain (conn_trace c.calls)).entries =
      sym (length-map c.calls.chain.engines (λ (e : EngineParts). e.entry)) ∙ ap (λ (ch : Chain). length ch.entries) same_chain in
      subst (λ n. first_at n c.calls.chain.row ≡ None) long none

  pub send-fine : (s : Script) (c : RunConnection) (result : Sending) (calls : Calls) (quotas : Counters) (x y : ByteLink W) → IsOfScript s c → IsBetweenSubmissions c.heap → IsSameConnection c.calls calls
      → chain_of_state c.calls.chain ≡ chain (conn_trace c.calls) → (result ≡ Nothing) ⊎ ((seq : ℕ) × (result ≡ Sent seq))
      → (result ≡ Nothing) ↔ (first_at (length c.calls.chain.engines) c.calls.chain.row ≡ None) → OnSent result (λ seq. IsSend c.calls seq calls)
      → ((result ≡ Nothing) ⊎ (result ≡ Memory) → calls ≡ c.calls) → (result ≡ Nothing → y ≡ x) → HasHandedOver c.calls calls (link_frames x) (link_frames y)
      → IsLater written failures x y → HasCause (result ≡ Failed) (failures_of x) (failures_of y) → failures_of x ≡ 0
      → IsDoneOn s (line.Send c.calls.conn) c (with_calls c calls) quotas quotas (written (sink_of x)) (written (sink_of y))
  send-fine s c Nothing calls quotas x y of_script rests same same_chain fine nothing sent as_before untouched hands later cause none =
      subst (λ (l : ByteLink W). IsDoneOn s (line.Send c.calls.conn) c (with_calls c calls) quotas quotas (written (sink_of x)) (written (sink_of l))) (sym (untouched refl))
      (send-nothing s c calls quotas (written (sink_of x)) of_script rests same (behind-chain c same_chain (nothing.0 refl)) (as_before (inl refl)))
  send-fine s c (Sent seq) calls quotas x y of_script rests same same_chain fine nothing sent as_before untouched hands later cause none =
      send-done s c seq sent.0 calls quotas (written (sink_of x)) (written (sink_of y)) of_script rests same sent.1
      (handed-on written failures c.calls calls x y same hands later (cause.stays (λ e. cc) ∙ none))
  send-fine s c Failed calls quotas x y of_script rests same same_chain fine nothing sent as_before untouched hands later cause none =
      absurd (elim (fine) [ inl e ↦ cc | inr p ↦ (let e = p.1 in cc) ])
  send-fine s c Memory calls quotas x y of_script rests same same_chain fine nothing sent as_before untouched hands later cause none =
      absurd (elim (fine) [ inl e ↦ cc | inr p ↦ (let e = p.1 in cc) ])

  -- no send failed
  pub none-failed : {Failing : Type 0} (x y : ByteLink W) → HasCause Failing (failures_of x) (failures_of y) → (Failing → ⊥) → failures_of x ≡ 0 → failures_of y ≡ 0
  none-failed x y cause fine none = cause.stays fine ∙ none

  pub send-short : (s : Script) (c : RunConnection) (calls : Calls) (x y : ByteLink W) → IsOfScript s c → IsSameConnection c.calls calls → calls ≡ c.calls
      → HasHandedOver c.calls calls (link_frames x) (link_frames y) → IsLater written failures x y → failures_of y ≡ 0
      → IsStoppedOn s (line.Send c.calls.conn) c (written (sink_of x)) (written (sink_of y))
  send-short s c calls x y of_script same still hands later none =
      send-stopped s c (written (sink_of x)) (written (sink_of y)) of_script
      (subst (λ (k : Calls). HasSentFrames c.calls.table c.calls.conn (conn_state c.calls) (conn_state k) (written (sink_of x)) (written (sink_of y))) still
      (handed-on written failures c.calls calls x y same hands later none))

  pub drain-fine : (s : Script) (c : RunConnection) (calls : Calls) (quotas quotas' : Counters) (x y : ByteLink W) → IsOfScript s c → IsBetweenSubmissions c.heap → IsSameConnection c.calls calls
      → HasDrained (under_in c.calls) (conn_state c.calls) (conn_state calls) → HasDrawnTickets knows drawn_of HaveSameTenants c.calls calls quotas quotas'
      → HasHandedOver c.calls calls (link_frames x) (link_frames y) → IsLater written failures x y → failures_of y ≡ 0
      → IsDoneOn s (line.Drain c.calls.conn) c (with_calls c calls) quotas quotas' (written (sink_of x)) (written (sink_of y))
  drain-fine s c calls quotas quotas' x y of_script rests same drained draws hands later none =
      drain-done s c calls quotas quotas' (written (sink_of x)) (written (sink_of y)) of_script rests same drained draws
      (handed-on written failures c.calls calls x y same hands later none)

  pub drain-short : (s : Script) (c : RunConnection) (calls : Calls) (x y : ByteLink W) → IsOfScript s c → IsSameConnection c.calls calls
      → HasPartlyDrained (under_in c.calls) (conn_state c.calls) (conn_state calls)
      → HasHandedOver c.calls calls (link_frames x) (link_frames y) → IsLater written failures x y → failures_of y ≡ 0
      → IsStoppedOn s (line.Drain c.calls.conn) c (written (sink_of x)) (written (sink_of y))
  drain-short s c calls x y of_script same begins hands later none =
      drain-stopped s c calls (written (sink_of x)) (written (sink_of y)) of_script begins
      (handed-on written failures c.calls calls x y same hands later none)

  -- the count of failures is unchanged while no send fails
  pub fault-free : {Failing : Type 0} → (Failing → ⊥) → (x y : ByteLink W) → IsLater written failures x y → failures_of y ≡ 0
      → HasCause Failing (failures (sink_of x)) (failures (sink_of y))
  fault-free none x y later fine = cause-none (failures (sink_of x)) (failures (sink_of y)) none (later.same_faults fine)

  -- a frame that was refused is a cause
  pub refused-cause : {Failing : Type 0} → Failing → (frame : List ℕ) (x y : ByteLink W) → IsFailedSend written failures x frame y
      → HasCause Failing (failures (sink_of x)) (failures (sink_of y))
  refused-cause failed frame x y refused = record {
    rose = λ _. refused.rose;
    stays = λ none. absurd (none failed);
    never_falls = refused.never_falls;
  }

  -- the link that failed in a drain is a later state of the first one, before that failure
  pub drain-cause : {Failing : Type 0} → Failing → (old new : Calls) (x y : ByteLink W) → failures_of x ≡ 0
      → HasFailedInDrain (IsFailedSend written failures) link_frames failures_of (IsLater written failures) old new x y
      → HasCause Failing (failures (sink_of x)) (failures (sink_of y))
  drain-cause {Failing} failed old new x y none fault =
      let later : IsLater written failures x fault.link = fault.since x (later-itself written failures x) in
      subst (λ n. HasCause Failing n (failures (sink_of y))) (later.same_faults (fault.same_faults ∙ none))
      (refused-cause failed (frame_of old.table fault.ready.sent) fault.link y fault.refused)
