-- The outcome of a turn in the words of the clauses, for each result of a chain.
use Rattle.std.proofs.Common.{◌≡◌, ℕ, ◌+◌, ◌<◌, ◌≤◌, Bool, true, false, List, ◌++◌, length, get_or, reverse, slice_get, refl, ap, sym, ◌∙◌, subst, arith}
use Rattle.std.specs.Bool.{OnFalse, OnTrue}
use Rattle.std.specs.Prelude.{Option, Some}
use Rattle.std.proofs.lemmas.Grind.{get_or_default_zero}
use Rattle.std.proofs.lemmas.List.{append-nil, length-map}
use Rattle.mrpc_table.specs.declared.table.Table.{Table}
use Rattle.engine_core.specs.Chains.{Chain, Entry, IsChain}
use Rattle.engine_core.specs.Engines.{EngineParts}
use Rattle.engine_core.specs.Moves.{first_at}
use Rattle.engine_core.specs.Turns.{noted_in}
use Rattle.engine_core.specs.Working.{AreTicketsAfterTurn}
use Rattle.engine_core.specs.declared.outcome.Noted.TheVariants as notes
use Rattle.engine_core.specs.declared.outcome.Outcome.{Outcome}
use Rattle.engine_core.specs.declared.outcome.Outcome.TheVariants as outcomes
use Rattle.chain_upgrade.specs.Chains.{ChainParts, IsEngineTurn, IsChainState, OnTurn, IsUnnotedPass, chain_of_state, row_after}
use Rattle.chain_upgrade.specs.declared.turned.Turned.{Turned}
use Rattle.chain_upgrade.specs.declared.turned.Turned.TheVariants.{Idle, Moved, Held, Refused, Redacted}
use Rattle.call_history.specs.Trace.{policy_in_trace}
use Rattle.call_history.specs.Transitions.{turns}
use Rattle.call_history.specs.Records.{StoredHistory, op_at}
use Rattle.conn_core.specs.Connections.{Connection, conn_trace, conn_state}
use Rattle.conn_core.specs.Invariant.{HasConnInvariant, IsPolicyOp, HasPassedUnnoted, HasSetPolicy, records_in, connection_of, turn_events}
use Rattle.conn_core.specs.ConnectionSteps.{HasDrawnTickets, IsStep, conn_parts, redactions}
use Rattle.conn_core.proofs.Apart.{policy-at}
use Rattle.conn_core.proofs.Drawing.{draws-none, draws-turned}
use Rattle.conn_core.proofs.Fitting.{EventsKeep}
use Rattle.conn_core.proofs.KeptNext.{Stepped}
use Rattle.conn_core.proofs.KeptTurned.{ClearsShorten, HaveForms, kept-turned, of-table, turn-fits}
use Rattle.conn_core.proofs.Lists.{map-at, zip-at, zip-length}
use Rattle.conn_core.proofs.Passing.{parts-fall}
use Rattle.conn_core.proofs.Records.{ClearLaws}
use Rattle.conn_core.proofs.Turned.{turn-is}

-- if there was a call, one fact follows from others
pub on-turn : (P Q : ℕ → Outcome → Type 0) → ((seq : ℕ) (outcome : Outcome) → P seq outcome → Q seq outcome)
    → (t : Turned) → OnTurn t P → OnTurn t Q
on-turn P Q weak Idle h = tt
on-turn P Q weak (Moved seq noted) h = weak seq (outcomes.Passed noted) h
on-turn P Q weak (Held seq level cost) h = weak seq (outcomes.Held level cost) h
on-turn P Q weak (Refused seq noted why) h = weak seq (outcomes.Refused noted why) h
on-turn P Q weak (Redacted seq) h = weak seq outcomes.Redacted h

pub on-both : (P Q : ℕ → Outcome → Type 0) (t : Turned) → OnTurn t P → OnTurn t Q
    → OnTurn t (λ seq outcome. P seq outcome × Q seq outcome)
on-both P Q Idle p q = tt
on-both P Q (Moved seq noted) p q = (p, q)
on-both P Q (Held seq level cost) p q = (p, q)
on-both P Q (Refused seq noted why) p q = (p, q)
on-both P Q (Redacted seq) p q = (p, q)

-- what holds if there was no call, and if there was one
pub at-turn : (A : Type 0) (P : ℕ → Outcome → Type 0) (t : Turned) → (t ≡ Idle → A)
    → ((seq : ℕ) (outcome : Outcome) → P seq outcome → A) → OnTurn t P → A
at-turn A P Idle idle some h = idle refl
at-turn A P (Moved seq noted) idle some h = some seq (outcomes.Passed noted) h
at-turn A P (Held seq level cost) idle some h = some seq (outcomes.Held level cost) h
at-turn A P (Refused seq noted why) idle some h = some seq (outcomes.Refused noted why) h
at-turn A P (Redacted seq) idle some h = some seq outcomes.Redacted h

-- ---- the engine of the turn

same-entry : (c : ChainParts) (at : ℕ) (engine : EngineParts) (e : Entry) → slice_get c.engines at ≡ Some engine
    → slice_get (chain_of_state c).entries at ≡ Some e → e.version ≡ engine.entry.version
same-entry c at engine e is-engine is =
    let there : slice_get (chain_of_state c).entries at ≡ Some engine.entry =
    map-at (λ (x : EngineParts). x.entry) c.engines at engine is-engine in
    let same : e ≡ engine.entry = cc in
    ap (λ (x : Entry). x.version) same

-- the operation that set its policy
pub step-put : (c : Connection) (steps : List ℕ) (history : StoredHistory) (accepted ms at place : ℕ) (e : Entry)
    → HasConnInvariant c steps history accepted ms → slice_get (chain_of_state c.chain).entries at ≡ Some e
    → place ≡ get_or steps at place → IsPolicyOp history.steps place e
step-put c steps history accepted ms at place e kept is place-is =
    subst (λ (p : ℕ). IsPolicyOp history.steps p e) (sym place-is)
    (zip-at (IsPolicyOp history.steps) steps (chain_of_state c.chain).entries at e place kept.engine_steps is)

pub aligned : (c : Connection) (steps : List ℕ) (history : StoredHistory) (accepted ms : ℕ) → HasConnInvariant c steps history accepted ms
    → length steps ≡ length c.chain.engines
aligned c steps history accepted ms kept =
    zip-length (IsPolicyOp history.steps) steps (chain_of_state c.chain).entries kept.engine_steps ∙ length-map c.chain.engines
    (λ (e : EngineParts). e.entry)

-- ---- the turn

pub turned-kept : EventsKeep → HaveForms → ClearLaws → ClearsShorten
    → (conn : ℕ) (T : Table) (limit : ℕ) (c c' : ChainParts) (history history' : StoredHistory) (ended : Bool) (steps : List ℕ)
    (accepted ms at place version : ℕ) (engine : EngineParts) (t : Turned)
    → HasConnInvariant (connection_of conn T limit c history ended) steps history accepted ms → slice_get c.engines at ≡ Some engine
    → version ≡ engine.entry.version → place ≡ get_or steps at place
    → OnTurn t (λ seq outcome. first_at at c.row ≡ Some (seq, at))
    → OnTurn t (λ seq outcome. IsEngineTurn c at ms seq outcome c')
    → OnTurn t (λ seq outcome. c'.row ≡ row_after seq outcome c.row)
    → c'.attached ≡ c.attached → IsChainState c' → history'.steps ≡ history.steps
    → OnTurn t (λ seq outcome. (e : Entry) → HasSetPolicy (op_at history.steps place) e → e.version ≡ version
    → history'.happenings ≡ history.happenings ++ turn_events e seq outcome)
    → OnTurn t (λ seq outcome. history.room ≤ history'.room + records_in outcome)
    → OnTurn t (λ seq outcome. Stepped (connection_of conn T limit c history ended) (connection_of conn T limit c' history' ended)
    (turns at seq outcome) steps history' accepted ms)
turned-kept keeps have clear shorten conn T limit c c' history history' ended steps accepted ms at place version engine
    t kept is-engine version-is place-is first has row attached stands same told room =
    let old : Connection = connection_of conn T limit c history ended in
    let First : ℕ → Outcome → Type 0 = λ seq outcome. first_at at c.row ≡ Some (seq, at) in
    let Has : ℕ → Outcome → Type 0 = λ seq outcome. IsEngineTurn c at ms seq outcome c' in
    let Rows : ℕ → Outcome → Type 0 = λ seq outcome. c'.row ≡ row_after seq outcome c.row in
    let Told : ℕ → Outcome → Type 0 = λ seq outcome. (e : Entry) → HasSetPolicy (op_at history.steps place) e
    → e.version ≡ version → history'.happenings ≡ history.happenings ++ turn_events e seq outcome in
    let Room : ℕ → Outcome → Type 0 = λ seq outcome. history.room ≤ history'.room + records_in outcome in
    let all-facts = on-both (λ seq outcome. First seq outcome × Has seq outcome) (λ seq outcome. Rows seq outcome
    × (Told seq outcome × Room seq outcome)) t (on-both First Has t first has)
    (on-both Rows (λ seq outcome. Told seq outcome × Room seq outcome) t row (on-both Told Room t told room)) in
    on-turn (λ seq outcome. (First seq outcome × Has seq outcome)
    × (Rows seq outcome × (Told seq outcome × Room seq outcome)))
    (λ seq outcome. Stepped old (connection_of conn T limit c' history' ended) (turns at seq outcome) steps history' accepted ms)
    (λ seq outcome f. kept-turned keeps clear shorten conn T limit c c' history history' ended steps accepted ms at seq
    outcome kept f.0.1 f.0.0 f.1.0 attached stands
    (of-table have old kept.connection) same
    (λ e is. f.1.1.0 e (step-put old steps history accepted ms at place e kept is place-is).put
    (same-entry c at engine e is-engine is ∙ sym version-is)) f.1.1.1) t all-facts

-- a turn in which nothing was noted
pub unnoted-kept : EventsKeep → HaveForms → ClearLaws → ClearsShorten
    → (conn : ℕ) (T : Table) (limit : ℕ) (c c' : ChainParts) (history : StoredHistory) (ended : Bool) (steps : List ℕ)
    (accepted ms at : ℕ) → HasConnInvariant (connection_of conn T limit c history ended) steps history accepted ms
    → at < length c.engines → IsChainState c' → (p : IsUnnotedPass c at c')
    → Stepped (connection_of conn T limit c history ended) (connection_of conn T limit c' history ended)
    (turns at p.seq (outcomes.Passed notes.Nothing)) steps history accepted ms
unnoted-kept keeps have clear shorten conn T limit c c' history ended steps accepted ms at kept within stands p =
    let turn = p.turn ms in
    let place : ℕ = get_or steps at 0 in
    let there : at < length steps = omega (
      arith,
      within,
      aligned (connection_of conn T limit c history ended) steps history
          accepted ms kept,
    ) in
    turned-kept keeps have clear shorten conn T limit c c' history history ended steps accepted ms at place
    turn.engine.entry.version turn.engine (Moved p.seq notes.Nothing) kept turn.is_engine refl
    (sym (get_or_default_zero steps at place there)) p.first turn p.row p.attached stands refl
    (λ e put version. sym (append-nil history.happenings)) (omega arith)

pub turn-has-room : ClearLaws
    → (conn : ℕ) (T : Table) (limit : ℕ) (c c' : ChainParts) (history : StoredHistory) (ended : Bool) (steps : List ℕ)
    (accepted ms at : ℕ) (t : Turned)
    → HasConnInvariant (connection_of conn T limit c history ended) steps history accepted ms
    → OnTurn t (λ seq outcome. IsEngineTurn c at ms seq outcome c')
    → OnTurn t (λ seq outcome. records_in outcome ≤ history.room)
turn-has-room laws conn T limit c c' history ended steps accepted ms at t kept has =
    on-turn (λ seq outcome. IsEngineTurn c at ms seq outcome c') (λ seq outcome. records_in outcome ≤ history.room)
    (λ seq outcome h. turn-fits laws c c' at ms seq outcome history.room kept.connection.is_chain_state kept.room h) t
    has

-- the invariant, also if no call was there
pub kept-behind : (conn : ℕ) (T : Table) (limit : ℕ) (c c' : ChainParts) (history history' : StoredHistory) (ended : Bool)
    (steps : List ℕ) (accepted ms at : ℕ) (t : Turned)
    → HasConnInvariant (connection_of conn T limit c history ended) steps history accepted ms → (t ≡ Idle → c' ≡ c)
    → (t ≡ Idle → history' ≡ history)
    → OnTurn t (λ seq outcome. Stepped (connection_of conn T limit c history ended) (connection_of conn T limit c' history' ended)
    (turns at seq outcome) steps history' accepted ms)
    → HasConnInvariant (connection_of conn T limit c' history' ended) steps history' accepted ms
kept-behind conn T limit c c' history history' ended steps accepted ms at t kept same-chain same-history steps-taken =
    at-turn (HasConnInvariant (connection_of conn T limit c' history' ended) steps history' accepted ms)
    (λ seq outcome. Stepped (connection_of conn T limit c history ended) (connection_of conn T limit c' history' ended)
    (turns at seq outcome) steps history' accepted ms) t
    (λ idle. subst (λ (h : StoredHistory). HasConnInvariant (connection_of conn T limit c' h ended) steps h accepted ms) (sym (same-history idle))
    (subst (λ (x : ChainParts). HasConnInvariant (connection_of conn T limit x history ended) steps history accepted ms)
    (sym (same-chain idle)) kept))
    (λ seq outcome h. h.kept) steps-taken

pub steps-behind : (before now after : Connection) (steps : List ℕ) (history : StoredHistory) (accepted ms at : ℕ) (t : Turned)
    → now ≡ before
    → OnTurn t (λ seq outcome. Stepped now after (turns at seq outcome) steps history accepted ms)
    → OnTurn t (λ seq outcome. IsStep before (turns at seq outcome) after)
steps-behind before now after steps history accepted ms at t is h =
    on-turn (λ seq outcome. Stepped now after (turns at seq outcome) steps history accepted ms) (λ seq outcome.
    IsStep before (turns at seq outcome) after)
    (λ seq outcome s. subst (λ (c : Connection). IsStep c (turns at seq outcome) after) is s.step) t h

-- ---- tickets

pub draws-behind : {Q : Type 0} (Knows : Q → ℕ → Type 0) (drawn_of : Q → ℕ → ℕ → Option (List ℕ)) (Since : Q → Q
    → Type 0) (before : Connection) (conn : ℕ) (T : Table) (limit : ℕ)
    (c c' : ChainParts) (history history' : StoredHistory) (ended : Bool) (steps : List ℕ) (accepted ms at place version : ℕ)
    (engine : EngineParts) (t : Turned) (old new : Q)
    → connection_of conn T limit c history ended ≡ before
    → HasConnInvariant (connection_of conn T limit c history ended) steps history accepted ms → slice_get c.engines at ≡ Some engine
    → version ≡ engine.entry.version → place ≡ get_or steps at place
    → (t ≡ Idle → c' ≡ c) → (t ≡ Idle → history' ≡ history) → (t ≡ Idle → new ≡ old)
    → OnTurn t (λ seq outcome. (e : Entry) → HasSetPolicy (op_at history.steps place) e → e.version ≡ version
    → history'.happenings ≡ history.happenings ++ turn_events e seq outcome)
    → OnTurn t (λ seq outcome. (e : EngineParts) → slice_get c.engines at ≡ Some e
    → AreTicketsAfterTurn Knows drawn_of Since e.entry.policy (noted_in outcome) old new)
    → HasDrawnTickets Knows drawn_of Since before (connection_of conn T limit c' history' ended) old new
draws-behind Knows drawn_of Since before conn T limit c c' history history' ended steps accepted ms at place version
    engine t old new is kept is-engine version-is place-is same-chain same-history same-tickets told tickets =
    let now : Connection = connection_of conn T limit c history ended in
    let after : Connection = connection_of conn T limit c' history' ended in
    let e : Entry = engine.entry in
    let at-entry : slice_get (chain_of_state c).entries at ≡ Some e =
    map-at (λ (x : EngineParts). x.entry) c.engines at engine is-engine in
    let Told : ℕ → Outcome → Type 0 = λ seq outcome. (e : Entry) → HasSetPolicy (op_at history.steps place) e
    → e.version ≡ version → history'.happenings ≡ history.happenings ++ turn_events e seq outcome in
    let Leaves : ℕ → Outcome → Type 0 = λ seq outcome. (e : EngineParts) → slice_get c.engines at ≡ Some e
    → AreTicketsAfterTurn Knows drawn_of Since e.entry.policy (noted_in outcome) old new in
    let policy : policy_in_trace e.name (conn_trace now) ≡ Some e.policy =
    policy-at (conn_trace now) at e (subst IsChain kept.connection.same_chain kept.connection.is_chain_state.stands.chain)
    (subst (λ (ch : Chain). slice_get ch.entries at ≡ Some e) kept.connection.same_chain at-entry) in
    at-turn (HasDrawnTickets Knows drawn_of Since before after old new) (λ seq outcome. Told seq outcome
    × Leaves seq outcome) t
    (λ idle. draws-none Knows drawn_of Since before after old new
    (ap (λ (h : StoredHistory). connection_of conn T limit c' h ended) (same-history idle) ∙ ap
    (λ (x : ChainParts). connection_of conn T limit x history ended) (same-chain idle) ∙ is) (same-tickets idle))
    (λ seq outcome both. draws-turned Knows drawn_of Since e seq outcome (conn_state now) before after old new
    (ap conn_trace (sym is))
    (ap reverse (both.0 e (step-put now steps history accepted ms at place e kept at-entry place-is).put
    (sym version-is)) ∙ turn-is e seq outcome history.happenings (conn_state now) refl)
    policy (both.1 engine is-engine))
    (on-both Told Leaves t told tickets)

-- ---- parts

pub parts-behind : (before : Connection) (conn : ℕ) (T : Table) (limit : ℕ) (c c' : ChainParts)
    (history history' : StoredHistory)
    (ended : Bool) (at ms : ℕ) (t : Turned) → connection_of conn T limit c history ended ≡ before
    → OnTurn t (λ seq outcome. IsEngineTurn c at ms seq outcome c')
    → OnTurn t (λ seq outcome. conn_parts (connection_of conn T limit c' history' ended) + redactions outcome ≤ conn_parts before)
parts-behind before conn T limit c c' history history' ended at ms t is has =
    on-turn (λ seq outcome. IsEngineTurn c at ms seq outcome c')
    (λ seq outcome. conn_parts (connection_of conn T limit c' history' ended) + redactions outcome ≤ conn_parts before)
    (λ seq outcome h. omega (arith, parts-fall c c' at ms seq outcome h, ap conn_parts is)) t has

-- a turn in which nothing was noted, in the words of the clauses
pub passed-by : (before : Connection) (conn : ℕ) (T : Table) (limit : ℕ) (c c' : ChainParts) (history : StoredHistory)
    (ended : Bool) (steps : List ℕ) (accepted ms at : ℕ) → connection_of conn T limit c history ended ≡ before
    → (p : IsUnnotedPass c at c')
    → Stepped (connection_of conn T limit c history ended) (connection_of conn T limit c' history ended)
    (turns at p.seq (outcomes.Passed notes.Nothing)) steps history accepted ms
    → HasPassedUnnoted at before (connection_of conn T limit c' history ended)
passed-by before conn T limit c c' history ended steps accepted ms at is p stepped =
    subst (λ (x : Connection). HasPassedUnnoted at x (connection_of conn T limit c' history ended)) is (record {
      seq = p.seq;
      step = stepped.step;
      happenings = refl;
      fewer = let fall = parts-fall c c' at ms p.seq (outcomes.Passed notes.Nothing) (p.turn ms) in omega (arith, fall);
      same = record { conn = refl; table = refl; limit = refl };
    })

-- what follows from a result, and from either
pub then-true : {P Q : Type 0} (b : Bool) → (P → Q) → OnTrue b P → OnTrue b Q
then-true true f p = f p
then-true false f p = tt

pub in-either : {A P Q : Type 0} (b : Bool) → OnTrue b P → OnFalse b Q → (P → A) → (Q → A) → A
in-either true p q f g = f p
in-either false p q f g = g q
