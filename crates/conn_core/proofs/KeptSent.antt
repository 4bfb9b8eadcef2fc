-- A send preserves the invariant of a connection's own fields.
use Rattle.std.proofs.Common.{◌≡◌, ℕ, ◌+◌, ◌<◌, ◌≤◌, Bool, true, false, List, [], ◌∷◌, ◌++◌, length, reverse}
use Rattle.std.proofs.Common.{slice_get, refl, ap, sym, ◌∙◌, subst, arith}
use Rattle.std.specs.Prelude.{None, Some}
use Rattle.std.proofs.lemmas.List.{length-map}
use Rattle.mrpc_table.specs.Calls.{IsCallOf}
use Rattle.mrpc_table.specs.declared.call.Call.{Call}
use Rattle.mrpc_table.specs.declared.table.Table.{Table}
use Rattle.frame_transport.specs.declared.format.TheConstants.{HEADER_LEN}
use Rattle.engine_core.specs.Chains.{Chain}
use Rattle.engine_core.specs.Engines.{EngineParts}
use Rattle.engine_core.specs.Marks.{PendingCall}
use Rattle.engine_core.specs.Moves.{Row, first_at}
use Rattle.chain_upgrade.specs.Chains.{ChainParts, IsChainState}
use Rattle.call_history.specs.Trace.{chain, form}
use Rattle.call_history.specs.Transitions.{IsReady, sends}
use Rattle.call_history.specs.Frames.{frame_of, frames_of_trace}
use Rattle.call_history.specs.Records.{StoredHistory}
use Rattle.call_history.specs.Rules.{payload}
use Rattle.call_history.specs.declared.happening.Happening.TheVariants.{Sent}
use Rattle.conn_core.specs.Connections.{Connection, IsConnection, conn_trace, conn_state, conn_frames, judge_context}
use Rattle.conn_core.specs.Invariant.{HasConnInvariant, IsRemovedAsSent, connection_of}
use Rattle.conn_core.specs.ConnectionSteps.{HasFailedSend, HasHandedOver}
use Rattle.conn_core.proofs.Fitting.{EventsKeep}
use Rattle.conn_core.proofs.Handed.{frames-sent, hands-one}
use Rattle.conn_core.proofs.KeptNext.{Stepped, kept-sent}
use Rattle.conn_core.proofs.KeptTurned.{HaveForms, of-table}
use Rattle.conn_core.proofs.Lists.{all-at, within-at}
use Rattle.conn_core.proofs.Rooms.{room-fates}
use Rattle.conn_core.proofs.Told.{behind-one}

none-in : (n : ℕ) (row : Row) (x : ℕ × ℕ) → row ≡ [] → first_at n row ≡ Some x → ⊥
none-in n row x none is = let empty : first_at n row ≡ None = ap (first_at n) none in absurd cc

runs-by : (c : Connection) → IsConnection c → (n : ℕ) (x : ℕ × ℕ) → first_at n c.chain.row ≡ Some x → (b : Bool)
    → c.ended ≡ b → c.ended ≡ false
runs-by c h n x is true ended = absurd (none-in n c.chain.row x (h.is_valid_state.none_left ended) is)
runs-by c h n x is false ended = ended

-- a link on which a call is pending hasn't failed
pub still-runs : (c : Connection) → IsConnection c → (n : ℕ) (x : ℕ × ℕ) → first_at n c.chain.row ≡ Some x
    → c.ended ≡ false
still-runs c h n x is = runs-by c h n x is c.ended refl

-- ---- the first call

pub head-of-table : HaveForms
    → (conn : ℕ) (T : Table) (limit : ℕ) (c : ChainParts) (history : StoredHistory) (ended : Bool) (steps : List ℕ)
    (accepted ms : ℕ) (s : PendingCall) (call : Call)
    → HasConnInvariant (connection_of conn T limit c history ended) steps history accepted ms → slice_get c.calls 0 ≡ Some s
    → call ≡ s.call → IsCallOf T call
head-of-table have conn T limit c history ended steps accepted ms s call kept is same =
    subst (IsCallOf T) (sym same) (all-at (λ (s : PendingCall). IsCallOf T s.call) c.calls 0 s is
    (of-table have (connection_of conn T limit c history ended) kept.connection))

pub head-is-short : (conn : ℕ) (T : Table) (limit : ℕ) (c : ChainParts) (history : StoredHistory) (ended : Bool) (steps : List ℕ)
    (accepted ms : ℕ) (s : PendingCall) (call : Call)
    → HasConnInvariant (connection_of conn T limit c history ended) steps history accepted ms → slice_get c.calls 0 ≡ Some s
    → call ≡ s.call → length (payload T call) ≤ 262144
head-is-short conn T limit c history ended steps accepted ms s call kept is same =
    subst (λ (c : Call). length (payload T c)
    ≤ 262144) (sym same) (all-at (λ (s : PendingCall). length (payload T s.call)
    ≤ 262144) c.calls 0 s is kept.short)

pub head-has-room : (conn : ℕ) (T : Table) (limit : ℕ) (c : ChainParts) (history : StoredHistory) (ended : Bool) (steps : List ℕ)
    (accepted ms : ℕ) (s : PendingCall)
    → HasConnInvariant (connection_of conn T limit c history ended) steps history accepted ms → slice_get c.calls 0 ≡ Some s
    → 0 < history.room
head-has-room conn T limit c history ended steps accepted ms s kept is =
    omega (arith, room-fates c.calls _ history.room kept.room, within-at c.calls 0 s is)

-- it is ready, in a frame of this many bytes
pub head-is-ready : (conn : ℕ) (T : Table) (limit : ℕ) (c : ChainParts) (history : StoredHistory) (ended : Bool) (steps : List ℕ)
    (accepted ms : ℕ) (s : PendingCall)
    → HasConnInvariant (connection_of conn T limit c history ended) steps history accepted ms → slice_get c.calls 0 ≡ Some s
    → first_at (length c.engines) c.row ≡ Some (s.call.seq, length c.engines)
    → IsReady (judge_context (connection_of conn T limit c history ended)) (conn_state (connection_of conn T limit c history ended))
    s.call.seq (HEADER_LEN + length (payload T s.call))
head-is-ready conn T limit c history ended steps accepted ms s kept is first =
    let old : Connection = connection_of conn T limit c history ended in
    let long-chain : length c.engines ≡ length (chain (conn_trace old)).entries =
    sym (length-map c.engines (λ (e : EngineParts). e.entry)) ∙ ap
    (λ (ch : Chain). length ch.entries) kept.connection.same_chain in
    record {
      first = subst (λ (n : ℕ). first_at n c.row ≡ Some (s.call.seq, n)) long-chain first;
      sent = s.call;
      is_form = all-at (λ (t : PendingCall). form conn t.call.seq (conn_trace old)
          ≡ Some t.call) c.calls 0 s is kept.connection.forms;
      long = refl;
    }

-- the link fails at its frame
pub fails-at-head : {L : Type 0} (Refused : L → List ℕ → L → Type 0) (before : Connection) (x y : L)
    (conn : ℕ) (T : Table) (limit : ℕ) (c : ChainParts) (history : StoredHistory) (ended : Bool) (steps : List ℕ)
    (accepted ms : ℕ) (s : PendingCall) (call : Call)
    → HasConnInvariant (connection_of conn T limit c history ended) steps history accepted ms → slice_get c.calls 0 ≡ Some s
    → first_at (length c.engines) c.row ≡ Some (s.call.seq, length c.engines) → call ≡ s.call
    → connection_of conn T limit c history ended ≡ before → Refused x (frame_of T call) y → HasFailedSend Refused before x y
unfolding head-is-ready
fails-at-head Refused before x y conn T limit c history ended steps accepted ms s call kept is first same view refused =
    subst (λ (b : Connection). HasFailedSend Refused b x y) view (record {
      seq = s.call.seq;
      bytes = HEADER_LEN + length (payload T s.call);
      ready = head-is-ready conn T limit c history ended steps accepted ms s kept is first;
      refused = subst (λ (f : Call). Refused x (frame_of T f) y) same refused;
    })

-- ---- it is sent

same-head : (calls rest : List PendingCall) (s t : PendingCall) → calls ≡ t ∷ rest → slice_get calls 0 ≡ Some s
    → t ≡ s
same-head calls rest s t is first = let here : slice_get calls 0 ≡ Some t =
    ap (λ (cs : List PendingCall). slice_get cs 0) is in cc

pub left-kept : EventsKeep
    → (conn : ℕ) (T : Table) (limit : ℕ) (c c' : ChainParts) (history history' : StoredHistory) (ended : Bool) (steps : List ℕ)
    (accepted ms seq bytes : ℕ) (s : PendingCall)
    → HasConnInvariant (connection_of conn T limit c history ended) steps history accepted ms → IsRemovedAsSent seq bytes c c' history history'
    → slice_get c.calls 0 ≡ Some s
    → first_at (length c.engines) c.row ≡ Some (s.call.seq, length c.engines)
    → bytes ≡ HEADER_LEN + length (payload T s.call) → IsChainState c'
    → Stepped (connection_of conn T limit c history ended) (connection_of conn T limit c' history' ended)
    (sends seq bytes) steps history' accepted ms
left-kept keeps conn T limit c c' history history' ended steps accepted ms seq bytes s kept leaves is first long stands
    =
    let old : Connection = connection_of conn T limit c history ended in
    let head : leaves.call ≡ s = same-head c.calls c'.calls s leaves.call leaves.calls is in
    let number : s.call.seq ≡ seq = ap (λ (t : PendingCall). t.call.seq) (sym head) ∙ leaves.number in
    subst (λ (n : ℕ). Stepped old (connection_of conn T limit c' history' ended) (sends n bytes) steps history' accepted ms)
    number
    (kept-sent keeps conn T limit c c' history history' ended steps accepted ms bytes s kept
    (still-runs old kept.connection (length c.engines) (s.call.seq, length c.engines) first) leaves.steps
    (leaves.told ∙ ap (λ (n : ℕ). history.happenings ++ Sent n bytes ∷ []) (sym number)) leaves.room long first
    (leaves.calls ∙ ap (λ (t : PendingCall). t ∷ c'.calls) head)
    (leaves.row ∙ ap (λ (n : ℕ). (n, length c.engines) ∷ c'.row) (sym number)) leaves.engines leaves.attached
    stands)

pub left-frames : (conn : ℕ) (T : Table) (limit : ℕ) (c c' : ChainParts) (history history' : StoredHistory) (ended : Bool)
    (steps : List ℕ) (accepted ms seq bytes : ℕ) (s : PendingCall)
    → HasConnInvariant (connection_of conn T limit c history ended) steps history accepted ms → IsRemovedAsSent seq bytes c c' history history'
    → slice_get c.calls 0 ≡ Some s
    → conn_frames (connection_of conn T limit c' history' ended) ≡ conn_frames (connection_of conn T limit c history ended)
    ++ frame_of T s.call ∷ []
left-frames conn T limit c c' history history' ended steps accepted ms seq bytes s kept leaves is =
    let old : Connection = connection_of conn T limit c history ended in
    let head : leaves.call ≡ s = same-head c.calls c'.calls s leaves.call leaves.calls is in
    let number : s.call.seq ≡ seq = ap (λ (t : PendingCall). t.call.seq) (sym head) ∙ leaves.number in
    let form-is : form conn seq (conn_trace old) ≡ Some s.call =
    subst (λ (n : ℕ). form conn n (conn_trace old) ≡ Some s.call) number
    (all-at (λ (t : PendingCall). form conn t.call.seq (conn_trace old)
    ≡ Some t.call) c.calls 0 s is kept.connection.forms) in
    ap (frames_of_trace T conn) (ap reverse leaves.told ∙ behind-one history.happenings (Sent seq bytes)) ∙ frames-sent T
    conn seq bytes (conn_trace old) s.call form-is

pub hands-left : (before now after : Connection) (handed handed' : List (List ℕ)) (T : Table) (call form : Call)
    → now ≡ before → conn_frames after ≡ conn_frames now ++ frame_of T form ∷ []
    → call ≡ form → handed' ≡ handed ++ frame_of T call ∷ [] → HasHandedOver before after handed handed'
hands-left before now after handed handed' T call form is frames-is same handed-is =
    hands-one before after handed handed' (frame_of T call)
    (frames-is ∙ ap (λ (f : Call). conn_frames now ++ frame_of T f ∷ []) (sym same) ∙ ap (λ (c : Connection). conn_frames c
    ++ frame_of T call ∷ []) is) handed-is
