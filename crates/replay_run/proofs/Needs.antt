-- The preconditions of a line of an open connection hold.
use Rattle.std.proofs.Common.{◌≡◌, ◌≢◌, ℕ, suc, zero, get_or, length-append, ◌+◌, ◌<◌, ◌≤◌, ◌==◌, ◌^◌, ⊎_elim, Bool}
use Rattle.std.proofs.Common.{true, false, cond, List, [], ◌∷◌, ◌++◌, length, map, refl, sym, ap, ◌∙◌, subst, arith}
use Rattle.std.specs.Prelude.{All, Option, Some, None, option_map, position, slice_get}
use Rattle.std.specs.List.{AllByRecursion}
use Rattle.std.proofs.lemmas.Bool.{cases_lt, ne_eqb}
use Rattle.std.proofs.lemmas.List.{length-map}
use Rattle.std.proofs.lemmas.List.Elements.{All-from_recursion, All-get_or, All-weaker, recursion_from_All}
use Rattle.std.proofs.lemmas.Option.{same_Some, slice_get-get_or, slice_get_past}
use Rattle.mrpc_base.specs.Quota.{Counters}
use Rattle.engine_core.specs.Chains.{Chain, Entry, IsRejection}
use Rattle.engine_core.specs.Engines.{EngineParts}
use Rattle.engine_core.specs.Policies.{IsPolicy, KnowsTenantOf}
use Rattle.engine_core.specs.declared.op.Op.{Op}
use Rattle.engine_core.specs.declared.op.Op.TheVariants.{Attach, Detach, Upgrade}
use Rattle.engine_core.specs.declared.policy.Policy.TheVariants.{Count}
use Rattle.policy_declarations.specs.declared.declaration.NamedPolicy.{NamedPolicy}
use Rattle.script_grammar.specs.declared.fault.ScriptReason.TheVariants.{At, Place, Unknown}
use Rattle.replay_script.specs.Lines.{heap_of, op_in, is_conn, conn_of, chain_after_lines, reason_of_refusal, IsAllowedAfter, IsHeapPlace, IsScript, is_refused, no_engine, no_load, no_place_there, not_open}
use Rattle.replay_script.specs.declared.script.ScriptLine.{ScriptLine}
use Rattle.replay_script.specs.declared.script.ScriptLine.TheVariants as line
use Rattle.replay_script.specs.declared.script.Script.{Script}
use Rattle.call_history.specs.Trace.{taken}
use Rattle.chain_upgrade.specs.Chains.{chain_of_state as chain_in}
use Rattle.conn_core.specs.Connections.{IsConnection, conn_trace}
use Rattle.conn_core.specs.ConnectionSteps.{IfPolicy}
use Rattle.replay_run.specs.Kept.{IsRunBefore, IsBetweenLines, KnowsTenants, MayRun, MayOperate, knows, open_connection_of}
use Rattle.replay_run.specs.declared.connection.RunConnection.{RunConnection}
use Rattle.replay_run.proofs.Built.{IsBuilt, AreBuilt}
use Rattle.replay_run.proofs.GivenLaws.{HistoryLaws}
use Rattle.replay_run.proofs.Going.{IsKnown, built-at, front-known, line-allowed}
use Rattle.replay_run.proofs.Lines.{openings, Lacks}
use Rattle.replay_run.proofs.Places.{IsCut, cut, found-number, lacks-number, opened-before}
use Rattle.replay_run.proofs.Ready.{ArePolicies, IsGood, IsGoodOption, IsModest, IsModestChain, All-unmap, chain-modest, op-good}

-- ---- the connection is open

not-first : (b : Bool) (w : ℕ) (rest : Option ℕ) → b ≡ false → rest ≡ None → cond b (Some w) rest ≡ None
not-first true w rest test empty = absurd cc
not-first false w rest test empty = empty

lacks-heap : (lines : List ScriptLine) (conn : ℕ) → Lacks conn (openings lines) → heap_of lines conn ≡ None
lacks-heap [] conn lacks = refl
lacks-heap (line.Conn number words ∷ ls) conn lacks =
    not-first (number == conn) words (heap_of ls conn) (ne_eqb number conn lacks.0) (lacks-heap ls conn lacks.1)
lacks-heap (line.Store c place value ∷ ls) conn lacks = lacks-heap ls conn lacks
lacks-heap (line.Race c load place value ∷ ls) conn lacks = lacks-heap ls conn lacks
lacks-heap (line.Submit c method number addr ∷ ls) conn lacks = lacks-heap ls conn lacks
lacks-heap (line.Attach c at name policy ∷ ls) conn lacks = lacks-heap ls conn lacks
lacks-heap (line.Detach c name ∷ ls) conn lacks = lacks-heap ls conn lacks
lacks-heap (line.Upgrade c name policy ∷ ls) conn lacks = lacks-heap ls conn lacks
lacks-heap (line.Moment c ms ∷ ls) conn lacks = lacks-heap ls conn lacks
lacks-heap (line.Turn c at ∷ ls) conn lacks = lacks-heap ls conn lacks
lacks-heap (line.Send c ∷ ls) conn lacks = lacks-heap ls conn lacks
lacks-heap (line.Drain c ∷ ls) conn lacks = lacks-heap ls conn lacks

numbers-opened : (cs : List RunConnection) → map (λ o. o.conn) (map open_connection_of cs) ≡ map (λ c. c.calls.conn) cs
numbers-opened [] = refl
numbers-opened (c ∷ cs) = ap (λ ns. c.calls.conn ∷ ns) (numbers-opened cs)

module _ (laws : HistoryLaws) (s : Script) where
  pub is-open : (l : ScriptLine) (cs : List RunConnection) (quotas : Counters) (out wire : Option (List ℕ)) → IsScript s → IsRunBefore s l cs quotas out wire → is_conn l ≡ false
      → position (λ c. c.calls.conn == conn_of l) cs ≢ None
  is-open l cs quotas out wire script b uses none =
      let known : IsKnown laws s b.lines b.st = front-known laws s b.lines (l ∷ b.others) b.st script b.order b.ran.leads in
      let allows : IsAllowedAfter s.loads s.declared.policies b.lines l = line-allowed laws s b.lines l b.others script b.order in
      let lacks : Lacks (conn_of l) (openings b.lines) =
      subst (AllByRecursion (λ n. n ≢ conn_of l)) (sym (numbers-opened cs) ∙ ap (map (λ o. o.conn)) b.ran.holds.opened ∙ known.stands.are) (lacks-number (conn_of l) cs none) in
      allows.free Unknown (not_open uses (lacks-heap b.lines (conn_of l) lacks) refl)

-- ---- numbers

is-place : (words place : ℕ) → ((IsHeapPlace words place → ⊥) → ⊥) → IsHeapPlace words place
is-place words zero free = absurd (free (λ is. let from : 1 ≤ zero = is.0 in absurd (omega arith)))
is-place words (suc place) free = ⊎_elim
    (λ (within : suc place < words). (omega arith, within))
    (λ (past : words ≤ suc place). absurd (free (λ is. let in_heap : suc place < words = is.1 in absurd (omega arith))))
    (cases_lt (suc place) words)

some-load : (load : ℕ) → (load ≡ 0 → ⊥) → 1 ≤ load
some-load zero free = absurd (free refl)
some-load (suc load) free = omega arith

within-chain : (at entries : ℕ) → ((entries ≤ at) → ⊥) → at < entries
within-chain at entries free = ⊎_elim (λ (within : at < entries). within) (λ (past : entries ≤ at). absurd (free past)) (cases_lt at entries)

-- ---- operations

if-policy : (tenants : ℕ) (policies : List NamedPolicy) → ArePolicies tenants policies → (l : ScriptLine) (step : Op) → op_in policies l ≡ Some step → IfPolicy step IsPolicy
if-policy tenants policies good l (Attach at name label policy) is =
    (subst (IsGoodOption tenants) is (op-good tenants policies good l)).0
if-policy tenants policies good l (Detach name) is = tt
if-policy tenants policies good l (Upgrade name label policy) is =
    (subst (IsGoodOption tenants) is (op-good tenants policies good l)).0

-- ---- a line's connection

module _ (s : Script) (script : IsScript s) where
  pub policies-good : ArePolicies (length s.declared.tenants) s.declared.policies
  policies-good place p is = ⊎_elim
      (λ (within : place < length s.declared.policies).
      let same : p ≡ get_or s.declared.policies place p = same_Some p (get_or s.declared.policies place p) (sym is ∙ slice_get-get_or s.declared.policies place p within) in
      subst (λ (q : NamedPolicy). IsGood (length s.declared.tenants) q.policy) (sym same)
      (All-get_or (λ (q : NamedPolicy). IsGood (length s.declared.tenants) q.policy) s.declared.policies place p within script.declared.policies))
      (λ (past : length s.declared.policies ≤ place). let none : slice_get s.declared.policies place ≡ None = slice_get_past s.declared.policies place past in absurd cc)
      (cases_lt place (length s.declared.policies))

  -- the chain of a connection's engines is the one that the lines lead to
  engines-chain : (lines : List ScriptLine) (c : RunConnection) → IsConnection c.calls → IsBuilt s lines (open_connection_of c)
      → chain_in c.calls.chain ≡ chain_after_lines s.declared.policies lines c.calls.conn
  engines-chain lines c sound built = sound.same_chain ∙ built.chain_is

  engines-modest : (lines : List ScriptLine) (c : RunConnection) → IsConnection c.calls → IsBuilt s lines (open_connection_of c)
      → IsModestChain (length s.declared.tenants) (length lines) (chain_in c.calls.chain)
  engines-modest lines c sound built =
      subst (IsModestChain (length s.declared.tenants) (length lines)) (sym (engines-chain lines c sound built))
      (chain-modest (length s.declared.tenants) s.declared.policies policies-good lines c.calls.conn)

  all-engines : (P : Entry → Type 0) (engines : List EngineParts) → All P (map (λ e. e.entry) engines) → All (λ e. P e.entry) engines
  all-engines P engines all =
      All-from_recursion (λ e. P e.entry) engines (All-unmap P (λ (e : EngineParts). e.entry) engines (recursion_from_All P (map (λ e. e.entry) engines) all))

  knows-tenants : (lines : List ScriptLine) (c : RunConnection) (quotas : Counters) → quotas.tenants ≡ length s.declared.tenants → IsConnection c.calls → IsBuilt s lines (open_connection_of c)
      → KnowsTenants quotas c.calls
  knows-tenants lines c quotas tenants sound built =
      let modest = engines-modest lines c sound built in
      all-engines (λ e. KnowsTenantOf (knows quotas) e.policy) c.calls.chain.engines
      (All-weaker (IsModest (length s.declared.tenants) (length lines)) (λ e. KnowsTenantOf (knows quotas) e.policy)
      (λ e one. subst (λ n. KnowsTenantOf (λ t. t < n) e.policy) (sym tenants) one.good.1) (chain_in c.calls.chain).entries modest.entries)

  may-operate : (lines : List ScriptLine) (l : ScriptLine) (c : RunConnection) (step : Op) → length lines < 2 ^ 25 → conn_of l ≡ c.calls.conn → IsAllowedAfter s.loads s.declared.policies lines l
      → op_in s.declared.policies l ≡ Some step → IsConnection c.calls → IsBuilt s lines (open_connection_of c) → MayOperate step c.calls
  may-operate lines l c step few on allows is sound built =
      let modest = engines-modest lines c sound built in
      record {
        ranges = if-policy (length s.declared.tenants) s.declared.policies policies-good l step is;
        attachments = let n : c.calls.chain.attached ≤ length lines = modest.attached in omega arith;
        versions = all-engines (λ e. e.version + 1 < 2 ^ 32) c.calls.chain.engines
            (All-weaker (IsModest (length s.declared.tenants) (length lines)) (λ e. e.version + 1 < 2 ^ 32)
            (λ e one. let v : e.version ≤ length lines = one.version in omega arith) (chain_in c.calls.chain).entries modest.entries);
        free = λ refusal refuses. allows.free (reason_of_refusal refusal) (is_refused step refusal is
            (subst (λ ch. IsRejection ch step refusal) (engines-chain lines c sound built ∙ ap (chain_after_lines s.declared.policies lines) (sym on)) refuses) refl);
      }

  some-step : (lines : List ScriptLine) (l : ScriptLine) (c : RunConnection) (step : Option Op) → length lines < 2 ^ 25 → conn_of l ≡ c.calls.conn → IsAllowedAfter s.loads s.declared.policies lines l
      → op_in s.declared.policies l ≡ step → step ≢ None → IsConnection c.calls → IsBuilt s lines (open_connection_of c)
      → (o : Op) × (op_in s.declared.policies l ≡ Some o) × MayOperate o c.calls
  some-step lines l c None few on allows is some sound built = absurd (some refl)
  some-step lines l c (Some o) few on allows is some sound built = (o, is, may-operate lines l c o few on allows is sound built)

  some-policy : (place : ℕ) (X : Type 0) (f : NamedPolicy → X) → place < length s.declared.policies → option_map f (slice_get s.declared.policies place) ≢ None
  some-policy place X f within none =
      let p : NamedPolicy = get_or s.declared.policies place (record { name = []; policy = Count }) in
      let at : slice_get s.declared.policies place ≡ Some p = slice_get-get_or s.declared.policies place (record { name = []; policy = Count }) within in
      let some : Some (f p) ≡ None = ap (option_map f) (sym at) ∙ none in cc

  pub may-do : (lines : List ScriptLine) (l : ScriptLine) (c : RunConnection) → length lines < 2 ^ 25 → conn_of l ≡ c.calls.conn → is_conn l ≡ false → IsAllowedAfter s.loads s.declared.policies lines l
      → IsConnection c.calls → IsBuilt s lines (open_connection_of c) → MayRun s l c
  may-do lines (line.Conn conn words) c few on uses allows sound built = cc
  may-do lines (line.Store conn place value) c few on uses allows sound built =
      is-place c.heap.size place (λ not. allows.free Place (no_place_there place c.heap.size refl (ap (heap_of lines) on ∙ built.heap) not refl))
  may-do lines (line.Race conn load place value) c few on uses allows sound built =
      let is = is-place c.heap.size place (λ not. allows.free Place (no_place_there place c.heap.size refl (ap (heap_of lines) on ∙ built.heap) not refl)) in (
        some-load load (λ none. allows.free Place (no_load conn place value (ap (λ n. line.Race conn n place value) none) refl)),
        is.0,
        is.1,
      )
  may-do lines (line.Submit conn method number addr) c few on uses allows sound built = let n : length (taken (conn_trace c.calls)) ≤ length lines = built.few in omega arith
  may-do lines (line.Attach conn at name policy) c few on uses allows sound built =
      some-step lines (line.Attach conn at name policy) c _ few on allows refl
      (some-policy policy Op (λ p. Attach at name p.name p.policy) allows.ranges.1) sound built
  may-do lines (line.Detach conn name) c few on uses allows sound built = some-step lines (line.Detach conn name) c _ few on allows refl (λ none. cc) sound built
  may-do lines (line.Upgrade conn name policy) c few on uses allows sound built =
      some-step lines (line.Upgrade conn name policy) c _ few on allows refl
      (some-policy policy Op (λ p. Upgrade name p.name p.policy) allows.ranges.1) sound built
  may-do lines (line.Moment conn ms) c few on uses allows sound built = tt
  may-do lines (line.Turn conn at) c few on uses allows sound built =
      let same : length (chain_after_lines s.declared.policies lines conn).entries ≡ length c.calls.chain.engines =
      ap (λ n. length (chain_after_lines s.declared.policies lines n).entries) on ∙ ap (λ (ch : Chain). length ch.entries) (sym (engines-chain lines c sound built))
      ∙ length-map c.calls.chain.engines (λ (e : EngineParts). e.entry) in
      subst (λ n. at < n) same (within-chain at (length (chain_after_lines s.declared.policies lines conn).entries)
      (λ past. allows.free At (no_engine conn at refl past refl)))
  may-do lines (line.Send conn) c few on uses allows sound built = tt
  may-do lines (line.Drain conn) c few on uses allows sound built = tt

module _ (laws : HistoryLaws) (s : Script) where
  -- what is known of the connection at the index of a line's connection
  pub record IsReadyFor (l : ScriptLine) (c : RunConnection) (quotas : Counters) : Type 0 where
    pub on : conn_of l ≡ c.calls.conn
    pub ready : IsBetweenLines s c
    pub may : MayRun s l c
    pub known : KnowsTenants quotas c.calls

  fewer : (lines others : List ScriptLine) (l : ScriptLine) → s.lines ≡ lines ++ l ∷ others → length s.lines < 2 ^ 25 → length lines < 2 ^ 25
  fewer lines others l order few =
      let all : length s.lines ≡ length (lines ++ l ∷ others) = ap length order in
      omega (arith, length-append lines (l ∷ others))

  pub ready-for : (l : ScriptLine) (cs : List RunConnection) (quotas : Counters) (out wire : Option (List ℕ)) (place : ℕ) (c : RunConnection) → IsScript s → length s.lines < 2 ^ 25
      → IsRunBefore s l cs quotas out wire → is_conn l ≡ false → position (λ c. c.calls.conn == conn_of l) cs ≡ Some place → slice_get cs place ≡ Some c → IsReadyFor l c quotas
  ready-for l cs quotas out wire place c script few b uses found at =
      let it : IsCut cs place c = cut cs place c at in
      let known : IsKnown laws s b.lines b.st = front-known laws s b.lines (l ∷ b.others) b.st script b.order b.ran.leads in
      let allows : IsAllowedAfter s.loads s.declared.policies b.lines l = line-allowed laws s b.lines l b.others script b.order in
      let opened : b.st.opened ≡ map open_connection_of it.front ++ open_connection_of c ∷ map open_connection_of it.back = sym b.ran.holds.opened ∙ opened-before cs place c it in
      let built : IsBuilt s b.lines (open_connection_of c) = built-at laws s b.lines (map open_connection_of it.front) (map open_connection_of it.back) (open_connection_of c) (subst (AreBuilt s b.lines) opened known.built) in
      let ready : IsBetweenLines s c = subst (IsBetweenLines s) (sym it.is) (All-get_or (IsBetweenLines s) cs place c it.within b.ran.holds.ready) in
      let on : conn_of l ≡ c.calls.conn = sym (found-number (conn_of l) place cs c found at) in
      record {
        on = on;
        ready = ready;
        may = may-do s script b.lines l c (fewer b.lines b.others l b.order few) on uses allows ready.sound built;
        known = knows-tenants s script b.lines c quotas b.ran.holds.tenants ready.sound built;
      }
