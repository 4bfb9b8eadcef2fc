-- A drain, turn by turn.
use Rattle.std.proofs.Common.{◌≡◌, ℕ, ◌+◌, ◌<◌, ◌≤◌, List, ◌++◌, length, refl, ap, sym, ◌∙◌, subst, arith}
use Rattle.std.specs.Prelude.{All, None, Option, Some}
use Rattle.std.proofs.lemmas.List.{append_assoc, append-nil, length-map}
use Rattle.std.proofs.lemmas.List.Elements.{All-map, All-weaker}
use Rattle.mrpc_table.specs.declared.table.Table.{Table}
use Rattle.engine_core.specs.Chains.{Chain, Entry}
use Rattle.engine_core.specs.Engines.{EngineParts}
use Rattle.engine_core.specs.Moves.{first_at}
use Rattle.engine_core.specs.Policies.{KnowsTenantOf}
use Rattle.engine_core.specs.declared.outcome.Noted.{Noted}
use Rattle.engine_core.specs.declared.outcome.Noted.TheVariants as notes
use Rattle.engine_core.specs.declared.outcome.Outcome.{Outcome}
use Rattle.engine_core.specs.declared.outcome.Outcome.TheVariants as outcomes
use Rattle.engine_core.specs.declared.policy.Policy.{Policy}
use Rattle.engine_core.specs.declared.policy.Policy.TheVariants as policies
use Rattle.chain_upgrade.specs.Chains.{OnTurn, chain_of_state}
use Rattle.chain_upgrade.specs.declared.turned.Turned.{Turned}
use Rattle.chain_upgrade.specs.declared.turned.Turned.TheVariants.{Idle, Moved}
use Rattle.call_history.specs.Trace.{Trace, chain}
use Rattle.call_history.specs.Draining.{TurnsEnding, IsFinalOutcome, IsPass, HasTurns, again, at_rest, begins_again, goes, is_held, is_idle, next, redacts}
use Rattle.call_history.specs.Transitions.{ConnState, with_note, trace_after_turn, turns}
use Rattle.call_history.specs.Frames.{frames_of_trace}
use Rattle.call_history.specs.Rules.{JudgeContext}
use Rattle.call_history.specs.Tickets.{tickets_of_trace}
use Rattle.conn_core.specs.Connections.{Connection, IsConnection, IsSameConnection, conn_trace, conn_state, conn_frames, judge_context}
use Rattle.conn_core.specs.Invariant.{HasPassedUnnoted, HasAdvancedByTurns}
use Rattle.conn_core.specs.ConnectionSteps.{HasDrawnInWindow, HasDrawnTickets, IsStep, conn_parts, redactions}
use Rattle.conn_core.proofs.Drawing.{draws-unnoted}
use Rattle.conn_core.proofs.Lists.{all-of-map}
use Rattle.conn_core.proofs.Passing.{Turning, turn-in}
use Rattle.conn_core.proofs.TurnTold.{at-turn, on-both}
use Rattle.conn_core.proofs.Turned.{chain-turned}

-- ---- frames

frames-noted : (T : Table) (conn : ℕ) (name : List ℕ) (seq : ℕ) (n : Noted) (past : Trace)
    → frames_of_trace T conn (with_note name seq n past) ≡ frames_of_trace T conn past
frames-noted T conn name seq notes.Nothing past = refl
frames-noted T conn name seq (notes.Charged left) past = append-nil (frames_of_trace T conn past)
frames-noted T conn name seq (notes.Drawn window ticket) past = append-nil (frames_of_trace T conn past)
frames-noted T conn name seq notes.Counted past = append-nil (frames_of_trace T conn past)

frames-turned : (T : Table) (conn : ℕ) (e : Entry) (seq : ℕ) (outcome : Outcome) (c : ConnState)
    → frames_of_trace T conn (trace_after_turn e seq outcome c).past ≡ frames_of_trace T conn c.past
frames-turned T conn e seq (outcomes.Passed n) c = frames-noted T conn e.name seq n c.past
frames-turned T conn e seq (outcomes.Held left cost) c = refl
frames-turned T conn e seq (outcomes.Refused n why) c =
    append-nil (frames_of_trace T conn (with_note e.name seq n c.past)) ∙ frames-noted T conn e.name seq n c.past
frames-turned T conn e seq outcomes.Redacted c = append-nil (frames_of_trace T conn c.past)

-- ---- later states of a connection

pub same-under : (a b : Connection) → IsSameConnection a b → judge_context b ≡ judge_context a
same-under a b same =
    ap (λ (n : ℕ). record { conn = n; table = b.table; limit = b.limit }) same.conn ∙ ap (λ T. record {
      conn = a.conn;
      table = T;
      limit = b.limit;
    }) same.table
    ∙ ap (λ (n : ℕ). record { conn = a.conn; table = a.table; limit = n }) same.limit

pub same-trans : (a b c : Connection) → IsSameConnection a b → IsSameConnection b c → IsSameConnection a c
same-trans a b c ab bc = record { conn = bc.conn ∙ ab.conn; table = bc.table ∙ ab.table; limit = bc.limit ∙ ab.limit }

draws-both : (tenant window : ℕ) (a b c : Connection) (x y z : Option (List ℕ)) → HasDrawnInWindow tenant window a b x y
    → HasDrawnInWindow tenant window b c y z → HasDrawnInWindow tenant window a c x z
draws-both tenant window a b c x y None ab bc = tt
draws-both tenant window a b c x None (Some now) ab bc = absurd bc
draws-both tenant window a b c None (Some mid) (Some now) ab bc = absurd ab
draws-both tenant window a b c (Some first) (Some mid) (Some now) ab bc = (
  ab.0 ++ bc.0,
  bc.1 ∙ ap (λ ts. ts ++ bc.0) ab.1 ∙ append_assoc (tickets_of_trace tenant window (conn_trace a)) ab.0 bc.0,
  bc.2 ∙ ap (λ ts. ts ++ bc.0) ab.2 ∙ append_assoc first ab.0 bc.0,
)

pub went-both : {Q : Type 0} (Knows : Q → ℕ → Type 0) (drawn_of : Q → ℕ → ℕ → Option (List ℕ)) (Since : Q → Q
    → Type 0) (a b c : Connection) (x y z : Q)
    → HasAdvancedByTurns Knows drawn_of Since a b x y → HasAdvancedByTurns Knows drawn_of Since b c y z → HasAdvancedByTurns Knows drawn_of Since a c x z
went-both Knows drawn_of Since a b c x y z ab bc = record {
  same = same-trans a b c ab.same bc.same;
  same_chain = bc.same_chain ∙ ab.same_chain;
  same_frames = bc.same_frames ∙ ab.same_frames;
  draws = record {
    drawn = λ tenant window known within.
        draws-both tenant window a b c (drawn_of x tenant window) (drawn_of y tenant window) (drawn_of z tenant window)
        (ab.draws.drawn tenant window known within) (bc.draws.drawn tenant window (ab.draws.knows tenant known) within);
    knows = λ tenant known. bc.draws.knows tenant (ab.draws.knows tenant known);
    since = λ first h. bc.draws.since first (ab.draws.since first h);
  };
  fewer = omega (arith, ab.fewer, bc.fewer);
}

-- ---- one turn

pub went-turn : {Q : Type 0} (Knows : Q → ℕ → Type 0) (drawn_of : Q → ℕ → ℕ → Option (List ℕ)) (Since : Q → Q
    → Type 0) (a b : Connection) (x y : Q) (at : ℕ) (t : Turned)
    → IsSameConnection a b → (t ≡ Idle → (b ≡ a) × (y ≡ x)) → OnTurn t (λ seq outcome. IsStep a (turns at seq outcome) b)
    → OnTurn t (λ seq outcome. conn_parts b + redactions outcome ≤ conn_parts a)
    → HasDrawnTickets Knows drawn_of Since a b x y → HasAdvancedByTurns Knows drawn_of Since a b x y
went-turn Knows drawn_of Since a b x y at t same idle step fewer draws =
    at-turn (HasAdvancedByTurns Knows drawn_of Since a b x y) (λ seq outcome. IsStep a (turns at seq outcome) b
    × (conn_parts b + redactions outcome ≤ conn_parts a)) t
    (λ is. record {
      same = same;
      same_chain = ap (λ (c : Connection). chain (conn_trace c)) (idle is).0;
      same_frames = ap conn_frames (idle is).0;
      draws = draws;
      fewer = omega (arith, ap conn_parts (idle is).0);
    })
    (λ seq outcome both.
    let t = turn-in (judge_context a) (conn_state a) (conn_state b) at seq outcome both.0 in record {
      same = same;
      same_chain = ap (λ (c : ConnState). chain c.past) t.is ∙ chain-turned t.entry seq outcome (conn_state a);
      same_frames = ap (λ T. frames_of_trace T b.conn (conn_trace b)) same.table ∙ ap
          (λ (n : ℕ). frames_of_trace a.table n (conn_trace b)) same.conn
          ∙ ap (λ (c : ConnState). frames_of_trace a.table a.conn c.past) t.is ∙ frames-turned a.table a.conn t.entry seq
          outcome (conn_state a);
      draws = draws;
      fewer = omega (arith, both.1);
    })
    (on-both (λ seq outcome. IsStep a (turns at seq outcome) b) (λ seq outcome. conn_parts b + redactions outcome
    ≤ conn_parts a) t step fewer)

-- likewise, a turn in which nothing was noted
pub went-unnoted : {Q : Type 0} (Knows : Q → ℕ → Type 0) (drawn_of : Q → ℕ → ℕ → Option (List ℕ)) (Since : Q → Q
    → Type 0) (a b : Connection) (x : Q) (at : ℕ) → HasPassedUnnoted at a b → HasAdvancedByTurns Knows drawn_of Since a b x x
went-unnoted Knows drawn_of Since a b x at p =
    went-turn Knows drawn_of Since a b x x at (Moved p.seq notes.Nothing) p.same (λ idle. absurd cc) p.step
    (let fewer = p.fewer in omega (arith, fewer)) (draws-unnoted Knows drawn_of Since a b x p.happenings)

-- the number of engines is unchanged, and tenants are still known
pub same-length : (a b : Connection) → IsConnection a → IsConnection b → chain (conn_trace b) ≡ chain (conn_trace a)
    → length b.chain.engines ≡ length a.chain.engines
same-length a b ha hb same =
    sym (length-map b.chain.engines (λ (e : EngineParts). e.entry)) ∙ ap (λ (ch : Chain). length ch.entries)
    (hb.same_chain ∙ same ∙ sym ha.same_chain)
    ∙ length-map a.chain.engines (λ (e : EngineParts). e.entry)

knows-later : (P Q : ℕ → Type 0) → ((tenant : ℕ) → P tenant → Q tenant) → (p : Policy) → KnowsTenantOf P p
    → KnowsTenantOf Q p
knows-later P Q later (policies.Access p) h = tt
knows-later P Q later (policies.Rate r) h = tt
knows-later P Q later (policies.Quota tenant per cap) h = later tenant h
knows-later P Q later policies.Count h = tt
knows-later P Q later (policies.Redact r) h = tt

pub known-later : (P Q : ℕ → Type 0) (a b : Connection) → IsConnection a → IsConnection b
    → chain (conn_trace b) ≡ chain (conn_trace a) → ((tenant : ℕ) → P tenant → Q tenant)
    → All (λ e. KnowsTenantOf P e.entry.policy) a.chain.engines
    → All (λ e. KnowsTenantOf Q e.entry.policy) b.chain.engines
known-later P Q a b ha hb same later known =
    all-of-map (λ (e : EngineParts). e.entry) (λ (y : Entry). KnowsTenantOf Q y.policy) b.chain.engines
    (subst (λ (ch : Chain). All (λ (y : Entry). KnowsTenantOf Q y.policy) ch.entries)
    (ha.same_chain ∙ sym same ∙ sym hb.same_chain)
    (All-weaker (λ (y : Entry). KnowsTenantOf P y.policy) (λ (y : Entry). KnowsTenantOf Q y.policy) (λ y h.
    knows-later P Q later y.policy h) (chain_of_state a.chain).entries
    (All-map (λ (y : Entry). KnowsTenantOf P y.policy) (λ (e : EngineParts). e.entry) a.chain.engines known)))

-- ---- the turns of an engine

-- what can follow the later state can follow the earlier one
abbrev pub Follows : JudgeContext → ℕ → ConnState → ConnState → Type 0
Follows u at old now = (ending : TurnsEnding) (new : ConnState) → HasTurns u at now ending new → HasTurns u at old ending new

pub follows-done : (u v : JudgeContext) (at seq : ℕ) (outcome : Outcome) (first old now : ConnState) → v ≡ u
    → Follows u at first old → IsFinalOutcome outcome → Turning v old now at seq outcome → Follows u at first now
follows-done u v at seq outcome first old now same follows done t = λ ending new rest.
    let t' : Turning u old now at seq outcome = subst (λ (w : JudgeContext). Turning w old now at seq outcome) same t in
    follows ending new (goes old new ending seq outcome t'.entry t'.has done
    (subst (λ (c : ConnState). HasTurns u at c ending new) t'.is rest))

pub rest-idle : (u : JudgeContext) (at : ℕ) (first old now : ConnState) → Follows u at first old → first_at at old.row ≡ None
    → now ≡ old → HasTurns u at first at_rest now
rest-idle u at first old now follows none is =
    subst (λ (c : ConnState). HasTurns u at first at_rest c) (sym is) (follows at_rest old (is_idle old none))

pub rest-held : (u v : JudgeContext) (at seq level cost : ℕ) (first old now : ConnState) → v ≡ u → Follows u at first old
    → Turning v old now at seq (outcomes.Held level cost) → HasTurns u at first at_rest now
rest-held u v at seq level cost first old now same follows t =
    let t' : Turning u old now at seq (outcomes.Held level cost) =
    subst (λ (w : JudgeContext). Turning w old now at seq (outcomes.Held level cost)) same t in
    subst (λ (c : ConnState). HasTurns u at first at_rest c) (sym t'.is)
    (follows at_rest old (is_held old seq level cost t'.entry t'.has))

pub again-redacted : (u v : JudgeContext) (at seq : ℕ) (first old now : ConnState) → v ≡ u → Follows u at first old
    → Turning v old now at seq outcomes.Redacted → HasTurns u at first again now
again-redacted u v at seq first old now same follows t =
    let t' : Turning u old now at seq outcomes.Redacted =
    subst (λ (w : JudgeContext). Turning w old now at seq outcomes.Redacted) same t in
    subst (λ (c : ConnState). HasTurns u at first again c) (sym t'.is)
    (follows again (trace_after_turn t'.entry seq outcomes.Redacted old) (redacts old seq t'.entry t'.has))

-- ---- the engines, one after another

pub chain-long : (c : Connection) → IsConnection c → length (chain (conn_trace c)).entries ≡ length c.chain.engines
chain-long c h = sym (ap (λ (ch : Chain). length ch.entries) h.same_chain) ∙ length-map c.chain.engines
    (λ (e : EngineParts). e.entry)

-- what can pass after the later state can pass after the earlier one
abbrev pub PassesBehind : JudgeContext → ℕ → ConnState → ConnState → Type 0
PassesBehind u at first now = (new : ConnState) → IsPass u at now new → IsPass u 0 first new

pub passes-rest : (u v : JudgeContext) (at : ℕ) (first old now : ConnState) → v ≡ u → PassesBehind u at first old
    → at < length (chain old.past).entries → HasTurns v at old at_rest now
    → PassesBehind u (at + 1) first now
passes-rest u v at first old now same passes within turns-there = λ new rest.
    passes new (next at old now new within (subst (λ (w : JudgeContext). HasTurns w at old at_rest now) same turns-there) rest)

pub passes-again : (u v : JudgeContext) (at : ℕ) (first old now : ConnState) → v ≡ u → PassesBehind u at first old
    → at < length (chain old.past).entries → HasTurns v at old again now
    → PassesBehind u 0 first now
passes-again u v at first old now same passes within turns-there = λ new rest.
    passes new (begins_again at old now new within (subst (λ (w : JudgeContext). HasTurns w at old again now) same turns-there)
    rest)
