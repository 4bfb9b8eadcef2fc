-- A transition preserves the invariant of a connection's own fields.
use Rattle.std.proofs.Common.{◌≡◌, ℕ, ◌+◌, ◌*◌, ◌<◌, ◌≤◌, ◌^◌, Bool, true, false, not, if◌then◌else◌, ◌≢◌, List, []}
use Rattle.std.proofs.Common.{◌∷◌, ◌++◌, length, map, reverse, refl, ap, sym, ◌∙◌, subst, arith}
use Rattle.std.specs.Prelude.{All, Some}
use Rattle.std.specs.List.{AllZip}
use Rattle.std.proofs.lemmas.Bool.{eq-eqb, ne_eqb}
use Rattle.std.proofs.lemmas.List.{length-map}
use Rattle.std.proofs.lemmas.List.Elements.{All-head, All-map, All-nil, All-tail}
use Rattle.mrpc_table.specs.declared.table.Table.{Table}
use Rattle.frame_transport.specs.declared.format.TheConstants.{HEADER_LEN}
use Rattle.engine_core.specs.Chains.{Chain, IsChain}
use Rattle.engine_core.specs.Engines.{EngineParts, clocked}
use Rattle.engine_core.specs.Marks.{PendingCall, seqs_of}
use Rattle.engine_core.specs.Moves.{Row, first_at, without_call}
use Rattle.chain_upgrade.specs.Chains.{ChainParts, AreAscending, IsChainState, chain_of_state}
use Rattle.call_history.specs.Trace.{Trace, chain, form, timestamp, pending_calls, taken}
use Rattle.call_history.specs.Transitions.{IsTransition, ConnState, Transition, IsValidState, IsReady, fails, is_away, is_sent, link_failed, refused_for_link, rises, sends, shows, stays, turns_away}
use Rattle.call_history.specs.Records.{StoredHistory}
use Rattle.call_history.specs.Rules.{payload}
use Rattle.call_history.specs.declared.happening.Happening.TheVariants.{Away, Moment, Sent}
use Rattle.conn_core.specs.Connections.{Connection, conn_trace, conn_state, judge_context}
use Rattle.conn_core.specs.Invariant.{HasRoom, HasConnInvariant, IsPolicyOp, connection_of, failure_events}
use Rattle.conn_core.specs.ConnectionSteps.{IsStep}
use Rattle.conn_core.proofs.Apart.{calls-apart}
use Rattle.conn_core.proofs.Fitting.{EventsKeep, Fits, connected, fits-of}
use Rattle.conn_core.proofs.Going.{failure-is, fits-away, fits-clocked, fits-failed, fits-sent, moment-failed, taken-failed}
use Rattle.conn_core.proofs.Numbers.{as-many, numbers}
use Rattle.conn_core.proofs.Rooms.{has-room, room-first}
use Rattle.conn_core.proofs.Told.{behind-one}

-- a transition was made, and the invariant holds
pub record Stepped (old new : Connection) (event : Transition) (steps : List ℕ) (history : StoredHistory)
    (accepted ms : ℕ) : Type 0 where
  pub kept : HasConnInvariant new steps history accepted ms
  pub step : IsStep old event new

-- what a transition has to preserve, besides the state
pub record Keeps (conn : ℕ) (T : Table) (past : Trace) (c : ChainParts) (steps : List ℕ) (history : StoredHistory)
    (accepted ms : ℕ) : Type 0 where
  pub stands : IsChainState c
  pub fits : Fits conn past c
  pub count : accepted ≡ length (taken past)
  pub latest : ms ≡ timestamp past
  pub engine_steps : AllZip (IsPolicyOp history.steps) steps (chain_of_state c).entries
  pub short : All (λ s. length (payload T s.call) ≤ 262144) c.calls
  pub room : HasRoom c.calls (chain_of_state c).entries history.room

pub stepped : EventsKeep → (conn : ℕ) (T : Table) (limit : ℕ) (c c' : ChainParts) (history history' : StoredHistory)
    (ended ended' : Bool) (steps steps' : List ℕ) (accepted ms ms' : ℕ) (event : Transition) (past : Trace)
    → HasConnInvariant (connection_of conn T limit c history ended) steps history accepted ms → reverse history'.happenings ≡ past
    → IsTransition (judge_context (connection_of conn T limit c history ended)) (conn_state (connection_of conn T limit c history ended)) event
    (record { past = past; row = c'.row; ended = ended' })
    → Keeps conn T past c' steps' history' accepted ms'
    → Stepped (connection_of conn T limit c history ended) (connection_of conn T limit c' history' ended') event steps' history' accepted
    ms'
stepped keeps conn T limit c c' history history' ended ended' steps steps' accepted ms ms' event past kept is comes
    holds =
    let old : Connection = connection_of conn T limit c history ended in
    let new : Connection = connection_of conn T limit c' history' ended' in
    let next : ConnState = record { past = past; row = c'.row; ended = ended' } in
    let held : IsValidState (judge_context old) next = keeps (judge_context old) (conn_state old) next event kept.connection.is_valid_state comes in
    let few : length (taken past) < 2 ^ 32 = omega (arith, sym kept.count ∙ holds.count, kept.connection.few) in
    record {
      kept = record {
        connection = connected new past is held holds.stands holds.fits few;
        valid = kept.valid;
        least_limit = kept.least_limit;
        greatest_limit = kept.greatest_limit;
        count = holds.count ∙ sym (ap (λ (p : Trace). length (taken p)) is);
        latest = holds.latest ∙ sym (ap timestamp is);
        engine_steps = holds.engine_steps;
        short = holds.short;
        room = holds.room;
      };
      step = subst (λ (p : Trace). IsTransition (judge_context old) (conn_state old) event (record {
        past = p;
        row = c'.row;
        ended = ended';
      })) (sym is) comes;
    }

few-entries : (c : ChainParts) → IsChainState c → length (chain_of_state c).entries ≤ 8
few-entries c stands = stands.stands.chain.few

pub steps-still : (history history' : StoredHistory) (steps : List ℕ) (c c' : ChainParts) → history'.steps ≡ history.steps
    → (chain_of_state c').entries ≡ (chain_of_state c).entries
    → AllZip (IsPolicyOp history.steps) steps (chain_of_state c).entries
    → AllZip (IsPolicyOp history'.steps) steps (chain_of_state c').entries
steps-still history history' steps c c' same entries h =
    subst (λ es. AllZip (IsPolicyOp history'.steps) steps es) (sym entries)
    (subst (λ s. AllZip (IsPolicyOp s) steps (chain_of_state c).entries) (sym same) h)

-- ---- a rejected submission

pub kept-away : EventsKeep
    → (conn : ℕ) (T : Table) (limit : ℕ) (c : ChainParts) (history history' : StoredHistory) (ended : Bool) (steps : List ℕ)
    (accepted ms method number addr : ℕ)
    → HasConnInvariant (connection_of conn T limit c history ended) steps history accepted ms → length c.calls ≡ 64
    → history'.steps ≡ history.steps
    → history'.happenings ≡ history.happenings ++ Away method number addr ∷ [] → 9 * length c.calls ≤ history'.room
    → Stepped (connection_of conn T limit c history ended) (connection_of conn T limit c history' ended)
    (turns_away method number addr) steps history' accepted ms
kept-away keeps conn T limit c history history' ended steps accepted ms method number addr kept full same told room =
    let old : Connection = connection_of conn T limit c history ended in
    stepped keeps conn T limit c c history history' ended ended steps steps accepted ms ms
    (turns_away method number addr) (Away method number addr ∷ conn_trace old) kept
    (ap reverse told ∙ behind-one history.happenings (Away method number addr))
    (is_away method number addr refl (sym (as-many old kept.connection) ∙ full) refl) (record {
      stands = kept.connection.is_chain_state;
      fits = fits-away conn method number addr (conn_trace old) c (fits-of old kept.connection);
      count = kept.count;
      latest = kept.latest;
      engine_steps = steps-still history history' steps c c same refl kept.engine_steps;
      short = kept.short;
      room = has-room c.calls (chain_of_state c).entries history'.room (few-entries c kept.connection.is_chain_state) room;
    })

-- ---- a timestamp

pub kept-clocked : EventsKeep
    → (conn : ℕ) (T : Table) (limit : ℕ) (c c' : ChainParts) (history history' : StoredHistory) (ended : Bool) (steps : List ℕ)
    (accepted ms now : ℕ)
    → HasConnInvariant (connection_of conn T limit c history ended) steps history accepted ms → ms < now → history'.steps ≡ history.steps
    → history'.happenings ≡ history.happenings ++ Moment now ∷ [] → 9 * length c.calls ≤ history'.room
    → c'.engines ≡ map (λ e. clocked now e) c.engines → c'.attached ≡ c.attached → c'.calls ≡ c.calls → c'.row ≡ c.row
    → IsChainState c'
    → Stepped (connection_of conn T limit c history ended) (connection_of conn T limit c' history' ended)
    (shows now) steps history' accepted now
kept-clocked keeps conn T limit c c' history history' ended steps accepted ms now kept later same told room engines
    attached calls row stands =
    let old : Connection = connection_of conn T limit c history ended in
    let above : timestamp (conn_trace old) < now = omega (arith, later, kept.latest) in
    let is-chain : IsChain (chain (conn_trace old)) =
    subst IsChain kept.connection.same_chain kept.connection.is_chain_state.stands.chain in
    let fits : Fits conn (Moment now ∷ conn_trace old) c' =
    fits-clocked conn now (conn_trace old) c c' (fits-of old kept.connection) is-chain above engines attached calls in
    let entries : (chain_of_state c').entries ≡ (chain_of_state c).entries =
    ap (λ (ch : Chain). ch.entries) (fits.same_chain ∙ sym kept.connection.same_chain) in
    stepped keeps conn T limit c c' history history' ended ended steps steps accepted ms now (shows now)
    (Moment now ∷ conn_trace old) kept
    (ap reverse told ∙ behind-one history.happenings (Moment now))
    (rises now refl above (ap (λ r. record { past = Moment now ∷ conn_trace old; row = r; ended = ended }) row)) (record {
      stands = stands;
      fits = fits;
      count = kept.count;
      latest = refl;
      engine_steps = steps-still history history' steps c c' same entries kept.engine_steps;
      short = subst (λ (cs : List PendingCall). All (λ s. length (payload T s.call) ≤ 262144) cs)
          (sym calls) kept.short;
      room = has-room c'.calls (chain_of_state c').entries history'.room (few-entries c' stands)
          (omega (arith, ap length calls, room));
    })

pub shown-before : (conn : ℕ) (T : Table) (limit : ℕ) (c : ChainParts) (history : StoredHistory) (ended : Bool) (steps : List ℕ)
    (accepted ms now : ℕ)
    → HasConnInvariant (connection_of conn T limit c history ended) steps history accepted ms → now ≤ ms
    → IsStep (connection_of conn T limit c history ended) (shows now) (connection_of conn T limit c history ended)
shown-before conn T limit c history ended steps accepted ms now kept before =
    stays now refl (omega (arith, before, kept.latest)) refl

-- ---- a send

-- the others keep their places in the row
others-stay : (seq : ℕ) (row : Row) → All (λ n. n ≢ seq) (map (λ call. call.0) row) → without_call seq row ≡ row
others-stay seq [] apart = refl
others-stay seq (call ∷ row) apart =
    ap (λ b. if not b then call ∷ without_call seq row else without_call seq row)
    (ne_eqb seq call.0 (λ same. All-head (λ (n : ℕ). n ≢ seq) call.0 (map (λ (call : ℕ × ℕ). call.0) row) apart
    (sym same)))
    ∙ ap (λ (r : Row). call ∷ r)
    (others-stay seq row (All-tail (λ (n : ℕ). n ≢ seq) call.0 (map (λ (call : ℕ × ℕ). call.0) row) apart))

first-leaves : (c c' : ChainParts) (s : PendingCall) (place : ℕ) → IsChainState c → c.calls ≡ s ∷ c'.calls
    → c.row ≡ (s.call.seq, place) ∷ c'.row → c'.row ≡ without_call s.call.seq c.row
first-leaves c c' s place stands calls row =
    let ascend : AreAscending (seqs_of (s ∷ c'.calls)) =
    subst (λ (cs : List PendingCall). AreAscending (seqs_of cs)) calls stands.stands.ascend in
    let apart : All (λ t. t.call.seq ≢ s.call.seq) c'.calls = (calls-apart [] s c'.calls ascend).1 in
    let numbers' : map (λ (call : ℕ × ℕ). call.0) ((s.call.seq, place) ∷ c'.row) ≡ seqs_of (s ∷ c'.calls) =
    sym (ap (map (λ (call : ℕ × ℕ). call.0)) row) ∙ stands.row ∙ ap seqs_of calls in
    let rest : map (λ (call : ℕ × ℕ). call.0) c'.row ≡ seqs_of c'.calls = cc in
    let others : All (λ n. n ≢ s.call.seq) (map (λ (call : ℕ × ℕ). call.0) c'.row) =
    subst (All (λ (n : ℕ). n ≢ s.call.seq)) (sym rest)
    (All-map (λ (n : ℕ). n ≢ s.call.seq) (λ (t : PendingCall). t.call.seq) c'.calls apart) in
    sym (ap (without_call s.call.seq) row
    ∙ ap (λ b. if not b then (s.call.seq, place) ∷ without_call s.call.seq c'.row
    else without_call s.call.seq c'.row) (eq-eqb s.call.seq s.call.seq refl)
    ∙ others-stay s.call.seq c'.row others)

pub kept-sent : EventsKeep
    → (conn : ℕ) (T : Table) (limit : ℕ) (c c' : ChainParts) (history history' : StoredHistory) (ended : Bool) (steps : List ℕ)
    (accepted ms bytes : ℕ) (s : PendingCall)
    → HasConnInvariant (connection_of conn T limit c history ended) steps history accepted ms → ended ≡ false
    → history'.steps ≡ history.steps
    → history'.happenings ≡ history.happenings ++ Sent s.call.seq bytes ∷ [] → history.room ≤ history'.room + 1
    → bytes ≡ HEADER_LEN + length (payload T s.call)
    → first_at (length c.engines) c.row ≡ Some (s.call.seq, length c.engines)
    → c.calls ≡ s ∷ c'.calls → c.row ≡ (s.call.seq, length c.engines) ∷ c'.row → c'.engines ≡ c.engines
    → c'.attached ≡ c.attached → IsChainState c'
    → Stepped (connection_of conn T limit c history ended) (connection_of conn T limit c' history' ended)
    (sends s.call.seq bytes) steps history' accepted ms
kept-sent keeps conn T limit c c' history history' ended steps accepted ms bytes s kept running same told room long
    first calls row engines attached stands =
    let old : Connection = connection_of conn T limit c history ended in
    let seq : ℕ = s.call.seq in
    let long-chain : length c.engines ≡ length (chain (conn_trace old)).entries =
    sym (length-map c.engines (λ (e : EngineParts). e.entry)) ∙ ap
    (λ (ch : Chain). length ch.entries) kept.connection.same_chain in
    let form-is : form conn seq (conn_trace old) ≡ Some s.call =
    All-head (λ (t : PendingCall). form conn t.call.seq (conn_trace old) ≡ Some t.call) s c'.calls
    (subst (All (λ (t : PendingCall). form conn t.call.seq (conn_trace old) ≡ Some t.call)) calls kept.connection.forms) in
    let ready : IsReady (judge_context old) (conn_state old) seq bytes = record {
      first = subst (λ (n : ℕ). first_at n c.row ≡ Some (seq, n)) long-chain first;
      sent = s.call;
      is_form = form-is;
      long = long;
    } in
    let entries : (chain_of_state c').entries ≡ (chain_of_state c).entries = ap (map (λ (e : EngineParts). e.entry)) engines in
    let first-room = room-first s c'.calls (chain_of_state c).entries history.room history'.room
    (subst (λ (cs : List PendingCall). HasRoom cs (chain_of_state c).entries history.room) calls kept.room) room in
    stepped keeps conn T limit c c' history history' ended ended steps steps accepted ms ms (sends seq bytes)
    (Sent seq bytes ∷ conn_trace old) kept
    (ap reverse told ∙ behind-one history.happenings (Sent seq bytes))
    (is_sent seq bytes refl running ready
    (ap (λ (r : Row). record {
      past = Sent seq bytes ∷ conn_trace old;
      row = r;
      ended = ended;
    }) (first-leaves c c' s (length c.engines) kept.connection.is_chain_state calls row))) (record {
      stands = stands;
      fits = fits-sent conn seq bytes (conn_trace old) c c' s (fits-of old kept.connection) calls engines attached;
      count = kept.count;
      latest = kept.latest;
      engine_steps = steps-still history history' steps c c' same entries kept.engine_steps;
      short = All-tail (λ (t : PendingCall). length (payload T t.call)
          ≤ 262144) s c'.calls (subst (All (λ (t : PendingCall). length (payload T t.call)
          ≤ 262144)) calls kept.short);
      room = subst (λ es. HasRoom c'.calls es history'.room) (sym entries) first-room.1;
    })

-- ---- a failure of the link

pub kept-failed : EventsKeep
    → (conn : ℕ) (T : Table) (limit : ℕ) (c : ChainParts) (history history' : StoredHistory) (ended : Bool) (steps : List ℕ)
    (accepted ms : ℕ)
    → HasConnInvariant (connection_of conn T limit c history ended) steps history accepted ms → history'.steps ≡ history.steps
    → history'.happenings ≡ history.happenings ++ failure_events c.calls
    → IsChainState (record c { calls = []; row = [] })
    → Stepped (connection_of conn T limit c history ended) (connection_of conn T limit (record c {
      calls = [];
      row = [];
    }) history' true) fails steps history' accepted ms
kept-failed keeps conn T limit c history history' ended steps accepted ms kept same told stands =
    let old : Connection = connection_of conn T limit c history ended in
    let past : Trace = refused_for_link (pending_calls (conn_trace old)) (conn_trace old) in
    stepped keeps conn T limit c (record c {
      calls = [];
      row = [];
    }) history history' ended true steps steps accepted ms ms fails past kept
    (ap reverse told ∙ failure-is c.calls (pending_calls (conn_trace old)) history.happenings (numbers old kept.connection))
    (link_failed refl refl) (record {
      stands = stands;
      fits = fits-failed conn (pending_calls (conn_trace old)) (conn_trace old) c (fits-of old kept.connection);
      count = kept.count ∙ sym (ap length (taken-failed (pending_calls (conn_trace old)) (conn_trace old)));
      latest = kept.latest ∙ sym (moment-failed (pending_calls (conn_trace old)) (conn_trace old));
      engine_steps = steps-still history history' steps c (record c {
        calls = [];
        row = [];
      }) same refl kept.engine_steps;
      short = All-nil (λ (s : PendingCall). length (payload T s.call) ≤ 262144);
      room = has-room [] (chain_of_state c).entries history'.room (few-entries c kept.connection.is_chain_state)
          (omega arith);
    })

-- ---- in the words of the clauses

pub step-from : (before now after : Connection) (event : Transition) (steps : List ℕ) (history : StoredHistory) (accepted ms : ℕ)
    → now ≡ before
    → Stepped now after event steps history accepted ms → IsStep before event after
step-from before now after event steps history accepted ms is h =
    subst (λ (c : Connection). IsStep c event after) is h.step

pub kept-failed-as : EventsKeep
    → (conn : ℕ) (T : Table) (limit : ℕ) (c c' : ChainParts) (history history' : StoredHistory) (ended : Bool) (steps : List ℕ)
    (accepted ms : ℕ)
    → HasConnInvariant (connection_of conn T limit c history ended) steps history accepted ms → c' ≡ record c {
      calls = [];
      row = [];
    } → history'.steps ≡ history.steps
    → history'.happenings ≡ history.happenings ++ failure_events c.calls → IsChainState c'
    → Stepped (connection_of conn T limit c history ended) (connection_of conn T limit c' history' true) fails steps history' accepted ms
kept-failed-as keeps conn T limit c c' history history' ended steps accepted ms kept is same told stands =
    subst (λ (x : ChainParts). Stepped (connection_of conn T limit c history ended)
    (connection_of conn T limit x history' true) fails steps history' accepted ms) (sym is)
    (kept-failed keeps conn T limit c history history' ended steps accepted ms kept same told
    (subst IsChainState is stands))
