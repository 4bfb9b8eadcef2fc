-- A turn preserves the invariant of a connection's own fields.
use Rattle.std.proofs.Common.{◌≡◌, ℕ, ◌+◌, ◌≤◌, Bool, List, [], ◌∷◌, ◌++◌, length, map, reverse, slice_get, refl, ap, sym, ◌∙◌, subst, arith}
use Rattle.std.specs.Prelude.{All, Contains, Some}
use Rattle.std.proofs.lemmas.List.Elements.{All-cons, All-head, All-nil, All-map, All-tail, All-weaker, All-contains_itself}
use Rattle.mrpc_table.specs.Calls.{IsCallOf}
use Rattle.mrpc_table.specs.Valid.{IsValid}
use Rattle.mrpc_table.specs.declared.call.Call.{Call}
use Rattle.mrpc_table.specs.declared.table.Table.{Table}
use Rattle.policy_redact.specs.Redacting.{cleared_call}
use Rattle.policy_redact.specs.declared.redact.Clear.{Clear}
use Rattle.engine_core.specs.Chains.{Entry}
use Rattle.engine_core.specs.Engines.{EngineParts}
use Rattle.engine_core.specs.Marks.{IsTrueFor, PendingCall, note_of, seqs_of}
use Rattle.engine_core.specs.Moves.{Row, first_at}
use Rattle.engine_core.specs.Turns.{form_after}
use Rattle.engine_core.specs.declared.outcome.Outcome.{Outcome}
use Rattle.engine_core.specs.declared.outcome.Outcome.TheVariants.{Passed, Held, Refused, Redacted}
use Rattle.engine_core.specs.declared.policy.Policy.{Policy}
use Rattle.engine_core.specs.declared.policy.Policy.TheVariants as policies
use Rattle.chain_upgrade.specs.Chains.{ChainParts, IsEngineTurn, IsChainState, calls_after, chain_of_state, row_after}
use Rattle.call_history.specs.Trace.{Trace, form, timestamp, pending_calls}
use Rattle.call_history.specs.Transitions.{has_turn, trace_after_turn, turns, IsEntryTurn as HasTurnBehind}
use Rattle.call_history.specs.Legal.{HasForm, IsLegalTrace}
use Rattle.call_history.specs.Records.{StoredHistory}
use Rattle.call_history.specs.Rules.{JudgeContext, payload}
use Rattle.call_history.specs.declared.happening.AcceptedCall.{AcceptedCall}
use Rattle.conn_core.specs.Connections.{Connection, IsConnection, conn_trace, conn_state, judge_context}
use Rattle.conn_core.specs.Invariant.{HasRoom, HasConnInvariant, records_in, connection_of, turn_events}
use Rattle.conn_core.proofs.Apart.{all-after}
use Rattle.conn_core.proofs.Fitting.{EventsKeep, fits-of}
use Rattle.conn_core.proofs.KeptNext.{Stepped, stepped, steps-still}
use Rattle.conn_core.proofs.Lists.{all-at, all-back, all-front, map-at, map-set-same}
use Rattle.conn_core.proofs.Numbers.{numbers}
use Rattle.conn_core.proofs.Recorded.{Worked, recording}
use Rattle.conn_core.proofs.Records.{ClearLaws}
use Rattle.conn_core.proofs.Spending.{room-fits, room-turned}
use Rattle.conn_core.proofs.Turned.{ended-turned, moment-turned, row-turned, taken-turned, turn-is}
use Rattle.conn_core.proofs.Turning.{fits-turned, of-call, turn-behind}

-- ---- calls of the table

-- each pending call has a form of the table
abbrev pub HaveForms : Type 0
HaveForms = (u : JudgeContext) (past : Trace) (call : AcceptedCall) → IsLegalTrace u past → Contains (pending_calls past) call
    → HasForm u past call

of-table-by : (u : JudgeContext) (past : Trace) (calls : List PendingCall) (ts : List AcceptedCall)
    → seqs_of calls ≡ map (λ t. t.seq) ts → All (HasForm u past) ts
    → All (λ s. form u.conn s.call.seq past ≡ Some s.call) calls → All (λ s. IsCallOf u.table s.call) calls
of-table-by u past [] ts same have forms = All-nil (λ (s : PendingCall). IsCallOf u.table s.call)
of-table-by u past (s ∷ calls) [] same have forms = absurd cc
of-table-by u past (s ∷ calls) (t ∷ ts) same have forms =
    let here : HasForm u past t = All-head (HasForm u past) t ts have in
    let number : t.seq ≡ s.call.seq = cc in
    let rest : seqs_of calls ≡ map (λ (t : AcceptedCall). t.seq) ts = cc in
    let form-is : form u.conn s.call.seq past ≡ Some here.now =
    subst (λ (n : ℕ). form u.conn n past ≡ Some here.now) number here.is_form in
    let own : form u.conn s.call.seq past ≡ Some s.call =
    All-head (λ (s : PendingCall). form u.conn s.call.seq past ≡ Some s.call) s calls forms in
    let same-call : here.now ≡ s.call = cc in
    All-cons (λ (s : PendingCall). IsCallOf u.table s.call) s calls (subst (IsCallOf u.table) same-call here.of_table)
    (of-table-by u past calls ts rest (All-tail (HasForm u past) t ts have)
    (All-tail (λ (s : PendingCall). form u.conn s.call.seq past ≡ Some s.call) s calls forms))

pub of-table : HaveForms → (c : Connection) → IsConnection c → All (λ s. IsCallOf c.table s.call) c.chain.calls
of-table have c h =
    of-table-by (judge_context c) (conn_trace c) c.chain.calls (pending_calls (conn_trace c)) (numbers c h)
    (All-weaker (Contains (pending_calls (conn_trace c))) (HasForm (judge_context c) (conn_trace c)) (λ t there.
    have (judge_context c) (conn_trace c) t h.is_valid_state.legal there) (pending_calls (conn_trace c))
    (All-contains_itself (pending_calls (conn_trace c)))) h.forms

-- ---- the turn

-- after a clear, a call's encoding is never longer
abbrev pub ClearsShorten : Type 0
ClearsShorten = (T : Table) (clears : List Clear) (call : Call) → IsValid T → IsCallOf T call
    → length (payload T (cleared_call clears call)) ≤ length (payload T call)

shorter : ClearsShorten → (T : Table) (outcome : Outcome) (policy : Policy) (call : Call) → IsValid T → IsCallOf T call
    → length (payload T (form_after outcome policy call)) ≤ length (payload T call)
shorter shorten T (Passed noted) policy call valid of-T = omega arith
shorter shorten T (Held left cost) policy call valid of-T = omega arith
shorter shorten T (Refused noted why) policy call valid of-T = omega arith
shorter shorten T Redacted (policies.Access p) call valid of-T = omega arith
shorter shorten T Redacted (policies.Rate r) call valid of-T = omega arith
shorter shorten T Redacted (policies.Quota tenant per cap) call valid of-T = omega arith
shorter shorten T Redacted policies.Count call valid of-T = omega arith
shorter shorten T Redacted (policies.Redact clears) call valid of-T = shorten T clears call valid of-T

worked : (before after : ChainParts) (position timestamp seq : ℕ) (outcome : Outcome) → IsChainState before
    → (has : IsEngineTurn before position timestamp seq outcome after)
    → Worked (chain_of_state before).entries position has.engine.level timestamp has.engine.entry outcome has.call has.met
    has.call'
worked before after position timestamp seq outcome stands has = record {
  at = map-at (λ (e : EngineParts). e.entry) before.engines position has.engine has.is_engine;
  names = stands.stands.chain.names;
  attachments = stands.stands.chain.attachments;
  comes = has.comes;
  kept = All-map (λ (y : Entry). note_of has.met.marks y.attach ≡ note_of has.call.marks y.attach)
      (λ (e : EngineParts). e.entry) before.engines has.keeps.kept;
  silent = (of-call (λ (s : PendingCall). IsTrueFor has.engine.entry s) before after position timestamp seq outcome has
      (all-at (λ (e : EngineParts). All (λ (s : PendingCall). IsTrueFor e.entry s) before.calls) before.engines
      position has.engine has.is_engine stands.stands.true_for)).silent;
  call = has.leaves_call;
  marks = has.leaves_marks;
}

-- there is capacity for the records of a turn
pub turn-fits : ClearLaws → (before after : ChainParts) (position timestamp seq : ℕ) (outcome : Outcome) (room : ℕ)
    → IsChainState before → HasRoom before.calls (chain_of_state before).entries room
    → IsEngineTurn before position timestamp seq outcome after → records_in outcome ≤ room
turn-fits laws before after position timestamp seq outcome room stands h has =
    let w = worked before after position timestamp seq outcome stands has in
    room-fits (chain_of_state before).entries position has.engine.entry outcome has.front has.call has.call' has.back room
    (subst (λ (cs : List PendingCall). HasRoom cs (chain_of_state before).entries room) has.calls_before h) w.at
    (recording laws (chain_of_state before).entries position has.engine.level timestamp has.engine.entry outcome has.call has.met
    has.call' w)

same-entries : (before after : ChainParts) (position timestamp seq : ℕ) (outcome : Outcome)
    → IsEngineTurn before position timestamp seq outcome after → (chain_of_state after).entries ≡ (chain_of_state before).entries
same-entries before after position timestamp seq outcome has =
    ap (map (λ (e : EngineParts). e.entry)) has.engines ∙ map-set-same
    (λ (e : EngineParts). e.entry) before.engines position has.engine has.engine' has.is_engine
    has.leaves_engine.entry

kept-turned-by : EventsKeep → ClearLaws → ClearsShorten
    → (conn : ℕ) (T : Table) (limit : ℕ) (c c' : ChainParts) (history history' : StoredHistory) (ended : Bool) (steps : List ℕ)
    (accepted ms at seq : ℕ) (outcome : Outcome)
    → HasConnInvariant (connection_of conn T limit c history ended) steps history accepted ms
    → IsEngineTurn c at (timestamp (conn_trace (connection_of conn T limit c history ended))) seq outcome c'
    → first_at at c.row ≡ Some (seq, at) → c'.row ≡ row_after seq outcome c.row → c'.attached ≡ c.attached
    → IsChainState c' → All (λ s. IsCallOf T s.call) c.calls → history'.steps ≡ history.steps
    → ((e : Entry) → slice_get (chain_of_state c).entries at ≡ Some e
    → history'.happenings ≡ history.happenings ++ turn_events e seq outcome)
    → history.room ≤ history'.room + records_in outcome
    → Stepped (connection_of conn T limit c history ended) (connection_of conn T limit c' history' ended)
    (turns at seq outcome) steps history' accepted ms
kept-turned-by keeps clear shorten conn T limit c c' history history' ended steps accepted ms at seq outcome kept has
    first row attached stands of-T same told room =
    let old : Connection = connection_of conn T limit c history ended in
    let now : ℕ = timestamp (conn_trace old) in
    let e : Entry = has.engine.entry in
    let before : IsChainState c = kept.connection.is_chain_state in
    let w = worked c c' at now seq outcome before has in
    let past : Trace = (trace_after_turn e seq outcome (conn_state old)).past in
    let next : HasTurnBehind (judge_context old) (conn_state old) at seq outcome e =
    turn-behind (judge_context old) (conn_state old) c c' at seq outcome (fits-of old kept.connection) has first in
    let entries : (chain_of_state c').entries ≡ (chain_of_state c).entries = same-entries c c' at now seq outcome has in
    let course-is : record { past = past; row = c'.row; ended = ended } ≡ trace_after_turn e seq outcome (conn_state old) =
    ap (λ (r : Row). record { past = past; row = r; ended = ended }) (row ∙ sym (row-turned e seq outcome (conn_state old)))
    ∙ ap (λ (b : Bool). record {
      past = past;
      row = (trace_after_turn e seq outcome (conn_state old)).row;
      ended = b;
    }) (sym (ended-turned e seq outcome (conn_state old))) in
    let old-short = subst (All (λ (s : PendingCall). length (payload T s.call) ≤ 262144)) has.calls_before kept.short in
    let here-short : length (payload T has.call.call) ≤ 262144 =
    All-head (λ (s : PendingCall). length (payload T s.call)
    ≤ 262144) has.call has.back (all-back (λ (s : PendingCall). length (payload T s.call)
    ≤ 262144) has.front (has.call ∷ has.back) old-short) in
    let of-T-here : IsCallOf T has.call.call =
    of-call (λ (s : PendingCall). IsCallOf T s.call) c c' at now seq outcome has of-T in
    let short' : length (payload T has.call'.call) ≤ 262144 =
    omega (
      arith,
      here-short,
      shorter shorten T outcome e.policy has.call.call kept.valid of-T-here,
      ap
          (λ (call : Call). length (payload T call)) has.leaves_call.form,
    ) in
    stepped keeps conn T limit c c' history history' ended ended steps steps accepted ms ms
    (turns at seq outcome) past kept
    (ap reverse (told e w.at) ∙ turn-is e seq outcome history.happenings (conn_state old) refl)
    (has_turn at seq outcome e refl next course-is) (record {
      stands = stands;
      fits = fits-turned (judge_context old) (conn_state old) c c' at seq outcome (fits-of old kept.connection) before has attached;
      count = kept.count ∙ sym (ap length (taken-turned e seq outcome (conn_state old)));
      latest = kept.latest ∙ sym (moment-turned e seq outcome (conn_state old));
      engine_steps = steps-still history history' steps c c' same entries kept.engine_steps;
      short = subst (All (λ (s : PendingCall). length (payload T s.call) ≤ 262144)) (sym has.calls)
          (all-after (λ (s : PendingCall). length (payload T s.call) ≤ 262144) outcome has.front has.call' has.back
          (all-front (λ (s : PendingCall). length (payload T s.call)
          ≤ 262144) has.front (has.call ∷ has.back) old-short) short'
          (All-tail (λ (s : PendingCall). length (payload T s.call) ≤ 262144) has.call has.back
          (all-back (λ (s : PendingCall). length (payload T s.call)
          ≤ 262144) has.front (has.call ∷ has.back) old-short)));
      room = subst (λ (cs : List PendingCall). HasRoom cs (chain_of_state c').entries history'.room) (sym has.calls)
          (subst (λ es. HasRoom (calls_after outcome has.front has.call' has.back) es history'.room) (sym entries)
          (room-turned (chain_of_state c).entries at e outcome has.front has.call has.call' has.back history.room
          history'.room
          (subst (λ (cs : List PendingCall). HasRoom cs (chain_of_state c).entries history.room) has.calls_before kept.room) w.at
          (recording clear (chain_of_state c).entries at has.engine.level now e outcome has.call has.met has.call' w) room));
    })

pub kept-turned : EventsKeep → ClearLaws → ClearsShorten
    → (conn : ℕ) (T : Table) (limit : ℕ) (c c' : ChainParts) (history history' : StoredHistory) (ended : Bool) (steps : List ℕ)
    (accepted ms at seq : ℕ) (outcome : Outcome)
    → HasConnInvariant (connection_of conn T limit c history ended) steps history accepted ms
    → IsEngineTurn c at ms seq outcome c' → first_at at c.row ≡ Some (seq, at) → c'.row ≡ row_after seq outcome c.row
    → c'.attached ≡ c.attached
    → IsChainState c' → All (λ s. IsCallOf T s.call) c.calls → history'.steps ≡ history.steps
    → ((e : Entry) → slice_get (chain_of_state c).entries at ≡ Some e
    → history'.happenings ≡ history.happenings ++ turn_events e seq outcome)
    → history.room ≤ history'.room + records_in outcome
    → Stepped (connection_of conn T limit c history ended) (connection_of conn T limit c' history' ended)
    (turns at seq outcome) steps history' accepted ms
kept-turned keeps clear shorten conn T limit c c' history history' ended steps accepted ms at seq outcome kept has first
    row attached stands of-T same told room =
    kept-turned-by keeps clear shorten conn T limit c c' history history' ended steps accepted ms at seq outcome kept
    (subst (λ (m : ℕ). IsEngineTurn c at m seq outcome c') kept.latest has) first row attached stands of-T same told room
