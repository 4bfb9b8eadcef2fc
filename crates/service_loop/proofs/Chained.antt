-- The chain after operations, none of which it refuses.
use Rattle.std.proofs.Common.{◌≡◌, ℕ, ◌+◌, ◌<◌, ◌≤◌, ◌^◌, not, if◌then◌else◌, cond, List, [], ◌∷◌, ◌++◌, length, map}
use Rattle.std.proofs.Common.{take, drop, refl, ap, sym, ◌∙◌, subst, arith, length-take, true, false, Bool}
use Rattle.std.specs.Prelude.{All, Option, IsSomeAnd}
use Rattle.std.specs.List.{AllZip}
use Rattle.std.proofs.lemmas.List.{map-append, length-map, take-append-drop}
use Rattle.std.proofs.lemmas.List.Elements.{All-append, All-cons, All-drop, All-filter, All-head, All-nil, All-tail, All-take, All-map, All-weaker}
use Rattle.engine_core.specs.Chains.{Chain, HasChanged, Entry, IsRejection, changed, is_named, new_entry, upgraded}
use Rattle.engine_core.specs.Engines.{EngineParts}
use Rattle.engine_core.specs.declared.op.Op.{Op as Step}
use Rattle.engine_core.specs.declared.op.Op.TheVariants.{Attach, Detach, Upgrade}
use Rattle.engine_core.specs.declared.policy.Policy.{Policy}
use Rattle.chain_upgrade.specs.Chains.{ChainParts, chain_of_state, refusal_in}
use Rattle.chain_upgrade.specs.declared.fault.ChainFault.{ChainFault}
use Rattle.chain_upgrade.specs.declared.fault.ChainFault.TheVariants as fault
use Rattle.call_history.specs.Trace.{Trace, chain, empty_chain, taken}
use Rattle.call_history.specs.declared.happening.Happening.TheVariants as what
use Rattle.conn_core.specs.Connections.{Connection, IsConnection, conn_trace}
use Rattle.conn_core.specs.ConnectionSteps.{IfPolicy}
use Rattle.service_loop.specs.ScheduledOps.{AreScheduledOps, AreApplied, IsApplied, HasNoRefusal, applied_ops}
use Rattle.service_loop.specs.declared.scheduled_op.ScheduledOp.{ScheduledOp}
use Rattle.service_loop.proofs.Lists.{IsAt, all-of-map}

-- a chain after a list of operations
abbrev pub changed_by : List Step → Chain → Chain
changed_by [] c = c
changed_by (step ∷ steps) c = changed_by steps (changed step c)

changed-snoc : (steps : List Step) (step : Step) (c : Chain)
    → changed_by (steps ++ step ∷ []) c ≡ changed step (changed_by steps c)
changed-snoc [] step c = refl
changed-snoc (first ∷ steps) step c = changed-snoc steps step (changed first c)

abbrev pub ops_in : Trace → List Step
ops_in past = map (λ came. came.0) (applied_ops past)

-- the chain of a trace is that of the operations applied
pub chain-is : (past : Trace) → chain past ≡ changed_by (ops_in past) empty_chain
chain-is [] = refl
chain-is (what.Op step ∷ past) =
    ap (changed step) (chain-is past) ∙ sym (changed-snoc (ops_in past) step empty_chain) ∙ ap
    (λ ops. changed_by ops empty_chain)
    (sym (map-append (λ (came : Step × ℕ). came.0) (applied_ops past) ((step, length (taken past)) ∷ [])))
chain-is (what.Took call ∷ past) = chain-is past
chain-is (what.Away method number addr ∷ past) = chain-is past
chain-is (what.Moment ms ∷ past) = chain-is past
chain-is (what.Charged seq name left ∷ past) = chain-is past
chain-is (what.Drawn seq name window ticket ∷ past) = chain-is past
chain-is (what.Counted seq name ∷ past) = chain-is past
chain-is (what.Redacted seq name version ∷ past) = chain-is past
chain-is (what.Sent seq bytes ∷ past) = chain-is past
chain-is (what.Refused seq why ∷ past) = chain-is past

ops-come : (all : Option ℕ) (came : List (Step × ℕ)) (steps : List ScheduledOp) → AllZip (IsApplied all) came steps
    → map (λ (x : Step × ℕ). x.0) came ≡ map (λ (due : ScheduledOp). due.step) steps
ops-come all [] [] zip = refl
ops-come all [] (due ∷ steps) zip = absurd zip
ops-come all (x ∷ came) [] zip = absurd zip
ops-come all (x ∷ came) (due ∷ steps) zip =
    ap (λ step. step ∷ map (λ (x : Step × ℕ). x.0) came) zip.0.step ∙ ap (λ ops. due.step ∷ ops)
    (ops-come all came steps zip.1)

-- ---- numbers and policies

-- at most this many attachments and upgrades, and each policy satisfies a predicate
pub record IsBounded (P : Policy → Type 0) (n : ℕ) (c : Chain) : Type 0 where
  pub attached : c.attached ≤ n
  pub versions : All (λ e. e.version ≤ n + 1) c.entries
  pub policies : All (λ e. P e.policy) c.entries

more : (n : ℕ) (entries : List Entry) → All (λ e. e.version ≤ n + 1) entries → All (λ e. e.version ≤ n + 1 + 1) entries
more n entries all =
    All-weaker (λ (e : Entry). e.version ≤ n + 1) (λ (e : Entry). e.version
    ≤ n + 1 + 1) (λ e h. omega (arith, h)) entries all

upgraded-version : (n : ℕ) (b : Bool) (policy : Policy) (e : Entry) → e.version ≤ n + 1
    → (cond b (upgraded e policy) e).version ≤ n + 1 + 1
upgraded-version n true policy e h = omega (arith, h)
upgraded-version n false policy e h = omega (arith, h)

upgraded-policy : (P : Policy → Type 0) (b : Bool) (policy : Policy) (e : Entry) → P policy → P e.policy
    → P (cond b (upgraded e policy) e).policy
upgraded-policy P true policy e new old = new
upgraded-policy P false policy e new old = old

bounded-step : (P : Policy → Type 0) (n : ℕ) (c : Chain) (step : Step) → IfPolicy step P → IsBounded P n c
    → IsBounded P (n + 1) (changed step c)
bounded-step P n c (Attach at name label policy) new h = record {
  attached = omega (arith, h.attached);
  versions = All-append (λ (e : Entry). e.version ≤ n + 1 + 1) (take at c.entries)
      (new_entry name (c.attached + 1) policy ∷ drop at c.entries)
      (All-take (λ (e : Entry). e.version ≤ n + 1 + 1) at c.entries (more n c.entries h.versions))
      (All-cons (λ (e : Entry). e.version ≤ n + 1 + 1) (new_entry name (c.attached + 1) policy) (drop at c.entries)
      (omega arith)
      (All-drop (λ (e : Entry). e.version ≤ n + 1 + 1) at c.entries (more n c.entries h.versions)));
  policies = All-append (λ (e : Entry). P e.policy) (take at c.entries) (new_entry name (c.attached + 1) policy
      ∷ drop at c.entries)
      (All-take (λ (e : Entry). P e.policy) at c.entries h.policies)
      (All-cons (λ (e : Entry). P e.policy) (new_entry name (c.attached + 1) policy) (drop at c.entries) new
      (All-drop (λ (e : Entry). P e.policy) at c.entries h.policies));
}
bounded-step P n c (Detach name) new h = record {
  attached = omega (arith, h.attached);
  versions = All-filter (λ (e : Entry). not (is_named name e)) (λ (e : Entry). e.version ≤ n + 1 + 1) c.entries
      (more n c.entries h.versions);
  policies = All-filter (λ (e : Entry). not (is_named name e)) (λ (e : Entry). P e.policy) c.entries h.policies;
}
bounded-step P n c (Upgrade name label policy) new h = record {
  attached = omega (arith, h.attached);
  versions = All-map (λ (e : Entry). e.version ≤ n + 1 + 1)
      (λ (e : Entry). if is_named name e then upgraded e policy else e) c.entries
      (All-weaker (λ (e : Entry). e.version ≤ n + 1)
      (λ (e : Entry). (if is_named name e then upgraded e policy else e).version ≤ n + 1 + 1)
      (λ e old. upgraded-version n (is_named name e) policy e old) c.entries h.versions);
  policies = All-map (λ (e : Entry). P e.policy) (λ (e : Entry). if is_named name e then upgraded e policy
      else e) c.entries
      (All-weaker (λ (e : Entry). P e.policy)
      (λ (e : Entry). P (if is_named name e then upgraded e policy else e).policy)
      (λ e old. upgraded-policy P (is_named name e) policy e new old) c.entries h.policies);
}

bounded-steps : (P : Policy → Type 0) (steps : List Step) (n : ℕ) (c : Chain) → All (λ step. IfPolicy step P) steps
    → IsBounded P n c → IsBounded P (n + length steps) (changed_by steps c)
bounded-steps P [] n c all h =
    let same : n ≡ n + 0 = omega arith in
    subst (λ (m : ℕ). IsBounded P m c) same h
bounded-steps P (step ∷ steps) n c all h =
    subst (λ (m : ℕ). IsBounded P m (changed_by steps (changed step c)))
    (let e : n + 1 + length steps ≡ n + length (step ∷ steps) = omega arith in e)
    (bounded-steps P steps (n + 1) (changed step c) (All-tail (λ (s : Step). IfPolicy s P) step steps all)
    (bounded-step P n c step (All-head (λ (s : Step). IfPolicy s P) step steps all) h))

empty-bounded : (P : Policy → Type 0) → IsBounded P 0 empty_chain
empty-bounded P = record {
  attached = omega arith;
  versions = All-nil (λ (e : Entry). e.version ≤ 0 + 1);
  policies = All-nil (λ (e : Entry). P e.policy);
}

-- the engines of a connection to whose chain these operations were applied
pub record HasEngines (P : Policy → Type 0) (n : ℕ) (c : ChainParts) : Type 0 where
  pub attached : c.attached ≤ n
  pub versions : All (λ e. e.entry.version ≤ n + 1) c.engines
  pub policies : All (λ e. P e.entry.policy) c.engines

pub engines-bounded : (P : Policy → Type 0) (all : Option ℕ) (c : Connection) (steps : List ScheduledOp) → IsConnection c
    → AreApplied all (conn_trace c) steps → All (λ due. IfPolicy due.step P) steps → HasEngines P (length steps) c.chain
engines-bounded P all c steps h came policies =
    let ops : ops_in (conn_trace c) ≡ map (λ (due : ScheduledOp). due.step) steps =
    ops-come all (applied_ops (conn_trace c)) steps came in
    let is : chain_of_state c.chain ≡ changed_by (map (λ (due : ScheduledOp). due.step) steps) empty_chain =
    h.same_chain ∙ chain-is (conn_trace c) ∙ ap (λ ops. changed_by ops empty_chain) ops in
    let bounded : IsBounded P (0 + length (map (λ (due : ScheduledOp). due.step) steps)) (chain_of_state c.chain) =
    subst (IsBounded P (0 + length (map (λ (due : ScheduledOp). due.step) steps))) (sym is)
    (bounded-steps P (map (λ (due : ScheduledOp). due.step) steps) 0 empty_chain
    (All-map (λ (s : Step). IfPolicy s P) (λ (due : ScheduledOp). due.step) steps policies) (empty-bounded P)) in
    let long : 0 + length (map (λ (due : ScheduledOp). due.step) steps) ≡ length steps =
    omega (arith, length-map steps (λ (due : ScheduledOp). due.step)) in
    let all-bounded : IsBounded P (length steps) (chain_of_state c.chain) =
    subst (λ (n : ℕ). IsBounded P n (chain_of_state c.chain)) long bounded in
    record {
      attached = all-bounded.attached;
      versions = all-of-map (λ (e : Entry). e.version ≤ length steps + 1) (λ (e : EngineParts). e.entry) c.chain.engines
          all-bounded.versions;
      policies = all-of-map (λ (e : Entry). P e.policy) (λ (e : EngineParts). e.entry) c.chain.engines
          all-bounded.policies;
    }

-- like `engines-bounded`, for a prefix of the operations
pub engines-first : (P : Policy → Type 0) (all : Option ℕ) (c : Connection) (steps : List ScheduledOp) (applied : ℕ)
    → IsConnection c → AreApplied all (conn_trace c) (take applied steps) → All (λ due. IfPolicy due.step P) steps
    → HasEngines P (length (take applied steps)) c.chain
engines-first P all c steps applied h came policies =
    engines-bounded P all c (take applied steps) h came
    (All-take (λ (due : ScheduledOp). IfPolicy due.step P) applied steps policies)

pub few-attached : (P : Policy → Type 0) (c : ChainParts) (steps : List ScheduledOp) (applied : ℕ)
    → HasEngines P (length (take applied steps)) c → length steps < 2 ^ 31 → c.attached + 1 < 2 ^ 32
few-attached P c steps applied h few = omega (arith, h.attached, few, length-take applied steps)

pub few-versions : (P : Policy → Type 0) (c : ChainParts) (steps : List ScheduledOp) (applied : ℕ)
    → HasEngines P (length (take applied steps)) c → length steps < 2 ^ 31
    → All (λ e. e.entry.version + 1 < 2 ^ 32) c.engines
few-versions P c steps applied h few =
    All-weaker (λ (e : EngineParts). e.entry.version ≤ length (take applied steps) + 1)
    (λ (e : EngineParts). e.entry.version + 1 < 2 ^ 32)
    (λ e low. omega (arith, low, few, length-take applied steps)) c.engines h.versions

-- ---- no operation is refused

refuses-at : (front : List Step) (step : Step) (back : List Step) (c : Chain) → HasNoRefusal c (front ++ step ∷ back)
    → HasChanged (changed_by front c) step (changed step (changed_by front c))
refuses-at [] step back c none = none.0
refuses-at (first ∷ front) step back c none = refuses-at front step back (changed first c) none.1

-- a chain that applies an operation doesn't refuse it
not-refused : (answer : ChainFault) (c : Chain) (step : Step) (after : Chain) → HasChanged c step after
    → IsSomeAnd (refusal_in answer) (IsRejection c step) → ⊥
not-refused (fault.NoSuch name) c step after changes refused = changes.free _ refused.against
not-refused (fault.Taken name) c step after changes refused = changes.free _ refused.against
not-refused (fault.At position) c step after changes refused = changes.free _ refused.against
not-refused (fault.ChainFull engines) c step after changes refused = changes.free _ refused.against
not-refused (fault.OtherKind name) c step after changes refused = changes.free _ refused.against
not-refused fault.Memory c step after changes refused = refused

-- the next operation isn't refused
pub never-refused : (all : Option ℕ) (c : Connection) (steps : List ScheduledOp) (applied : ℕ) (due : ScheduledOp)
    (answer : ChainFault) → IsConnection c → AreScheduledOps steps → IsAt steps applied due
    → AreApplied all (conn_trace c) (take applied steps) → IsSomeAnd (refusal_in answer) (IsRejection (chain_of_state c.chain) due.step)
    → ⊥
never-refused all c steps applied due answer h are at came refused =
    let step : ScheduledOp → Step = λ due. due.step in
    let split : steps ≡ take applied steps ++ due ∷ drop (applied + 1) steps =
    sym (take-append-drop applied steps) ∙ ap (λ rest. take applied steps ++ rest) at.from in
    let ops : map step steps ≡ map step (take applied steps) ++ due.step ∷ map step (drop (applied + 1) steps) =
    ap (map step) split ∙ map-append step (take applied steps) (due ∷ drop (applied + 1) steps) in
    let front : ops_in (conn_trace c) ≡ map step (take applied steps) =
    ops-come all (applied_ops (conn_trace c)) (take applied steps) came in
    let is : chain_of_state c.chain ≡ changed_by (map step (take applied steps)) empty_chain =
    h.same_chain ∙ chain-is (conn_trace c) ∙ ap (λ ops. changed_by ops empty_chain) front in
    not-refused answer (changed_by (map step (take applied steps)) empty_chain) due.step _
    (refuses-at (map step (take applied steps)) due.step (map step (drop (applied + 1) steps)) empty_chain
    (subst (HasNoRefusal empty_chain) ops are.refuses_none))
    (subst (λ (c : Chain). IsSomeAnd (refusal_in answer) (IsRejection c due.step)) is refused)
