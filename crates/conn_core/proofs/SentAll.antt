-- Sequences of sends.
use Rattle.std.proofs.Common.{◌≡◌, ℕ, ◌+◌, ◌≤◌, inl, inr, not, cond, if◌then◌else◌, List, [], ◌∷◌, ◌++◌, length, refl, ap, sym, ◌∙◌, subst, arith}
use Rattle.std.specs.Prelude.{Some}
use Rattle.std.proofs.lemmas.Bool.{eq-eqb, ne_eqb, cases_eq}
use Rattle.std.proofs.lemmas.List.{append_assoc, append-nil}
use Rattle.frame_transport.specs.declared.format.TheConstants.{HEADER_LEN}
use Rattle.engine_core.specs.Moves.{Row, first_at, without_call}
use Rattle.call_history.specs.Trace.{Trace, form, pending_calls}
use Rattle.call_history.specs.Draining.{HasSentSome, one}
use Rattle.call_history.specs.Transitions.{IsTransition, ConnState, IsReady, changes, fails, has_turn, is_away, is_sent, link_failed, refused_for_link, rises, sends, stays, takes}
use Rattle.call_history.specs.Frames.{frame_of}
use Rattle.call_history.specs.Rules.{JudgeContext, payload}
use Rattle.call_history.specs.Tickets.{tickets_of_trace}
use Rattle.call_history.specs.declared.happening.Cause.TheVariants as cause
use Rattle.call_history.specs.declared.happening.Happening.TheVariants.{Refused, Sent}
use Rattle.call_history.specs.declared.happening.AcceptedCall.{AcceptedCall}
use Rattle.conn_core.specs.Connections.{Connection, IsSameConnection, conn_trace, conn_state, conn_frames, judge_context}
use Rattle.conn_core.specs.Invariant.{HasFailedAfterSends}
use Rattle.conn_core.specs.ConnectionSteps.{HasFailedSend, HasHandedOver, IsSend, IsStep}
use Rattle.conn_core.proofs.Handed.{frames-failed, past-failed}
use Rattle.conn_core.proofs.TurnByTurn.{same-under}

-- ---- a send

pub record Sending (old new : ConnState) (seq bytes : ℕ) : Type 0 where
  pub position : ℕ
  pub first : first_at position old.row ≡ Some (seq, position)
  pub row : new.row ≡ without_call seq old.row
  pub past : new.past ≡ Sent seq bytes ∷ old.past

pub sent-in : (u : JudgeContext) (old new : ConnState) (seq bytes : ℕ) → IsTransition u old (sends seq bytes) new
    → Sending old new seq bytes
sent-in u old new seq bytes (takes call is running may new-is) = absurd cc
sent-in u old new seq bytes (is_away method number addr is full new-is) = absurd cc
sent-in u old new seq bytes (changes step is may new-is) = absurd cc
sent-in u old new seq bytes (rises ms is above new-is) = absurd cc
sent-in u old new seq bytes (stays ms is below new-is) = absurd cc
sent-in u old new seq bytes (has_turn p s o e is has new-is) = absurd cc
sent-in u old new seq bytes (is_sent s b is running ready new-is) =
    let a : s ≡ seq = cc in
    let d : b ≡ bytes = cc in
    subst (λ (n : ℕ). Sending old new n bytes) a (subst (λ (n : ℕ). Sending old new s n) d
    (record {
      position = _;
      first = ready.first;
      row = ap (λ (c : ConnState). c.row) new-is;
      past = ap (λ (c : ConnState). c.past) new-is;
    }))
sent-in u old new seq bytes (link_failed is new-is) = absurd cc

-- one fewer is pending after it
length-less : (seq : ℕ) (row : Row) → length (without_call seq row) ≤ length row
length-less seq [] = omega arith
length-less seq (call ∷ row) = elim (cases_eq seq call.0) [
  | inl same ↦
      let gone : without_call seq (call ∷ row) ≡ without_call seq row =
      ap (λ b. if not b then call ∷ without_call seq row else without_call seq row) (eq-eqb seq call.0 same) in
      omega (arith, ap length gone, length-less seq row)
  | inr other ↦
      let stays-in : without_call seq (call ∷ row) ≡ call ∷ without_call seq row =
      ap (λ b. if not b then call ∷ without_call seq row else without_call seq row) (ne_eqb seq call.0 other) in
      omega (arith, ap length stays-in, length-less seq row)
]

behind-other : (position seq : ℕ) (call : ℕ × ℕ) (row : Row) → (seq ≡ call.0 → ⊥)
    → first_at position (call ∷ row) ≡ Some (seq, position) → first_at position row ≡ Some (seq, position)
behind-other position seq call row other first = elim (cases_eq call.1 position) [
  | inl here ↦
      let is : Some call ≡ Some (seq, position) =
      sym (ap (λ b. cond b (Some call) (first_at position row)) (eq-eqb call.1 position here)) ∙ first in
      absurd (other (let number : seq ≡ call.0 = cc in number))
  | inr there ↦ sym (ap (λ b. cond b (Some call) (first_at position row)) (ne_eqb call.1 position there)) ∙ first
]

length-gone : (position seq : ℕ) (row : Row) → first_at position row ≡ Some (seq, position)
    → length (without_call seq row) + 1 ≤ length row
length-gone position seq [] first = absurd cc
length-gone position seq (call ∷ row) first = elim (cases_eq seq call.0) [
  | inl same ↦
      let gone : without_call seq (call ∷ row) ≡ without_call seq row =
      ap (λ b. if not b then call ∷ without_call seq row else without_call seq row) (eq-eqb seq call.0 same) in
      omega (arith, ap length gone, length-less seq row)
  | inr other ↦
      let stays-in : without_call seq (call ∷ row) ≡ call ∷ without_call seq row =
      ap (λ b. if not b then call ∷ without_call seq row else without_call seq row) (ne_eqb seq call.0 other) in
      omega (arith, ap length stays-in, length-gone position seq row (behind-other position seq call row other first))
]

pub fewer-standing : (before after : Connection) (seq : ℕ) → IsSend before seq after
    → length after.chain.row + 1 ≤ length before.chain.row
fewer-standing before after seq sent =
    let s = sent-in (judge_context before) (conn_state before) (conn_state after) seq sent.0 sent.1 in
    omega (arith, ap length s.row, length-gone s.position seq before.chain.row s.first)

-- ---- tickets

pub sent-tickets : (before after : Connection) (seq : ℕ) → IsSend before seq after → (tenant window : ℕ)
    → tickets_of_trace tenant window (conn_trace after) ≡ tickets_of_trace tenant window (conn_trace before)
sent-tickets before after seq sent tenant window =
    let s = sent-in (judge_context before) (conn_state before) (conn_state after) seq sent.0 sent.1 in
    ap (tickets_of_trace tenant window) s.past ∙ append-nil (tickets_of_trace tenant window (conn_trace before))

refused-tickets : (ts : List AcceptedCall) (past : Trace) (tenant window : ℕ)
    → tickets_of_trace tenant window (refused_for_link ts past) ≡ tickets_of_trace tenant window past
refused-tickets [] past tenant window = refl
refused-tickets (t ∷ ts) past tenant window =
    refused-tickets ts (Refused t.seq cause.Transport ∷ past) tenant window ∙ append-nil
    (tickets_of_trace tenant window past)

pub failed-tickets : (before after : Connection) → IsStep before fails after → (tenant window : ℕ)
    → tickets_of_trace tenant window (conn_trace after) ≡ tickets_of_trace tenant window (conn_trace before)
failed-tickets before after step tenant window =
    ap (tickets_of_trace tenant window) (past-failed before after step) ∙ refused-tickets (pending_calls (conn_trace before))
    (conn_trace before) tenant window

-- ---- further sends

abbrev pub SendsBehind : JudgeContext → ConnState → ConnState → Type 0
SendsBehind u old now = (new : ConnState) → HasSentSome u now new → HasSentSome u old new

pub sends-one : (u v : JudgeContext) (first old now : ConnState) (seq bytes : ℕ) → v ≡ u → SendsBehind u first old
    → IsTransition v old (sends seq bytes) now → SendsBehind u first now
sends-one u v first old now seq bytes same follows comes = λ new rest.
    follows new (one old now new seq bytes (subst (λ (w : JudgeContext). IsTransition w old (sends seq bytes) now) same comes) rest)

pub hands-both : (a b c : Connection) (x y z : List (List ℕ)) → HasHandedOver a b x y → HasHandedOver b c y z → HasHandedOver a c x z
hands-both a b c x y z ab bc = (
  ab.0 ++ bc.0,
  bc.1 ∙ ap (λ fs. fs ++ bc.0) ab.1 ∙ append_assoc (conn_frames a) ab.0 bc.0,
  bc.2 ∙ ap (λ fs. fs ++ bc.0) ab.2 ∙ append_assoc x ab.0 bc.0,
)

-- ---- a link that fails

-- what is ready on one connection is ready on its later state
abbrev pub ready-as : (a m : Connection) (c : ConnState) (seq bytes : ℕ) → IsSameConnection a m → IsReady (judge_context m) c seq bytes
    → IsReady (judge_context a) c seq bytes
ready-as a m c seq bytes same ready = record {
  first = ready.first;
  sent = ready.sent;
  is_form = subst (λ (n : ℕ). form n seq c.past ≡ Some ready.sent) same.conn ready.is_form;
  long = ready.long ∙ ap (λ T. HEADER_LEN + length (payload T ready.sent)) same.table;
}

none-more : (conn_frames more : List (List ℕ)) → conn_frames ≡ conn_frames ++ more → more ≡ []
none-more [] more is = sym is
none-more (frame ∷ conn_frames) more is = none-more conn_frames more cc

-- if the history adds no frame, none is sent
pub handed-as-before : (before after : Connection) (x y : List (List ℕ)) → HasHandedOver before after x y
    → conn_frames after ≡ conn_frames before → x ≡ y
handed-as-before before after x y hands same =
    sym (hands.2 ∙ ap (λ fs. x ++ fs) (none-more (conn_frames before) hands.0 (sym same ∙ hands.1)) ∙ append-nil x)

pub fails-behind : {L : Type 0} (Refuses : L → List ℕ → L → Type 0) (handed_of : L → List (List ℕ)) (faults_of : L → ℕ)
    (Since : L → L → Type 0) (a m f : Connection) (x y z : L) → IsSameConnection a m → IsSameConnection m f
    → HasSentSome (judge_context a) (conn_state a) (conn_state m) → IsStep m fails f → HasFailedSend Refuses m y z
    → HasHandedOver m f (handed_of y) (handed_of z) → faults_of y ≡ faults_of x → ((first : L) → Since first x → Since first y)
    → HasFailedAfterSends Refuses handed_of faults_of Since a f x z
fails-behind Refuses handed_of faults_of Since a m f x y z same same' sent step fault hands failures since = record {
  between = conn_state m;
  link = y;
  front = sent;
  seq = fault.seq;
  bytes = fault.bytes;
  ready = ready-as a m (conn_state m) fault.seq fault.bytes same fault.ready;
  failed = subst (λ (u : JudgeContext). IsTransition u (conn_state m) fails (conn_state f)) (same-under a m same) step;
  refused = subst (λ T. Refuses y (frame_of T fault.ready.sent) z) same.table fault.refused;
  same_handed = handed-as-before m f (handed_of y) (handed_of z) hands
      (frames-failed m f same'.table same'.conn step);
  same_faults = failures;
  since = since;
}
