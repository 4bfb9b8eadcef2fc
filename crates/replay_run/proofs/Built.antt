-- The state of a script's connections after some lines: heaps, chains, and the number of calls.
use Rattle.std.proofs.Common.{◌≡◌, ◌≢◌, ℕ, ◌+◌, ◌≤◌, Bool, true, false, cond, List, [], ◌∷◌, ◌++◌, ◌⊎◌, inl, inr}
use Rattle.std.proofs.Common.{length, refl, sym, ap, ◌∙◌, subst, length-append, arith}
use Rattle.std.specs.Prelude.{Option, Some, None, ◌==◌}
use Rattle.std.specs.List.{AllByRecursion}
use Rattle.std.proofs.lemmas.Bool.{eq-eqb, ne_eqb}
use Rattle.std.proofs.lemmas.Bool.Decides.{nat_tests}
use Rattle.engine_core.specs.Chains.{Chain}
use Rattle.engine_core.specs.declared.op.Op.{Op}
use Rattle.policy_declarations.specs.declared.declaration.NamedPolicy.{NamedPolicy}
use Rattle.script_grammar.specs.declared.fault.ScriptReason.TheVariants.{Unknown}
use Rattle.replay_script.specs.Lines.{heap_of, op_in, is_conn, conn_of, chain_after_lines, chain_after, new_chain, chain_after_op, IsAllowedAfter, not_open}
use Rattle.replay_script.specs.declared.script.ScriptLine.{ScriptLine}
use Rattle.replay_script.specs.declared.script.ScriptLine.TheVariants as line
use Rattle.replay_script.specs.declared.script.Script.{Script}
use Rattle.call_history.specs.Trace.{Trace, chain, taken}
use Rattle.call_history.specs.Transitions.{IsTransition, ConnState, Transition, accepts, fails, operates, sends, shows, turns, turns_away, takes, is_away, changes, rises, stays, has_turn, is_sent, link_failed}
use Rattle.call_history.specs.Rules.{JudgeContext}
use Rattle.call_history.specs.declared.happening.AcceptedCall.{AcceptedCall}
use Rattle.call_history.specs.declared.happening.TookCopy.{TookCopy}
use Rattle.call_history.specs.declared.happening.TookCopy.TheVariants.{Copy, Malformed}
use Rattle.replay_run.specs.Follows.{OpenConnection, script_context, with_state, IsLineEffect, stores, races, submits, is_away as is_turned_away}
use Rattle.replay_run.specs.Follows.{operates_on, advances_clock, is_idle, has_turn as does_turn, none_ready}
use Rattle.replay_run.specs.Follows.{is_sent as does_send, drains}
use Rattle.replay_run.proofs.Adds.{accepted_as, Adds, IsOfTurn, IsOfDrain, IsTurning, unmoved, chain-kept, taken-kept, turn-drains, adds-weaker, turning-adds, sending-adds, begins-adds}

-- ---- one more line

lift-cond : (b : Bool) (w v : ℕ) (rest more : Option ℕ) → cond b (Some w) rest ≡ Some v → (rest ≡ Some v → more ≡ Some v) → cond b (Some w) more ≡ Some v
lift-cond true w v rest more is goes = is
lift-cond false w v rest more is goes = goes is

lift-none : (b : Bool) (w v : ℕ) (rest more : Option ℕ) → cond b (Some w) rest ≡ None → (rest ≡ None → more ≡ Some v) → cond b (Some w) more ≡ Some v
lift-none true w v rest more is goes = absurd cc
lift-none false w v rest more is goes = goes is

pub heap-kept : (before : List ScriptLine) (l : ScriptLine) (conn words : ℕ) → heap_of before conn ≡ Some words → heap_of (before ++ l ∷ []) conn ≡ Some words
heap-kept [] l conn words is = absurd cc
heap-kept (line.Conn number size ∷ ls) l conn words is =
    lift-cond (number == conn) size words (heap_of ls conn) (heap_of (ls ++ l ∷ []) conn) is (heap-kept ls l conn words)
heap-kept (line.Store c place value ∷ ls) l conn words is = heap-kept ls l conn words is
heap-kept (line.Race c load place value ∷ ls) l conn words is = heap-kept ls l conn words is
heap-kept (line.Submit c method number addr ∷ ls) l conn words is = heap-kept ls l conn words is
heap-kept (line.Attach c at name policy ∷ ls) l conn words is = heap-kept ls l conn words is
heap-kept (line.Detach c name ∷ ls) l conn words is = heap-kept ls l conn words is
heap-kept (line.Upgrade c name policy ∷ ls) l conn words is = heap-kept ls l conn words is
heap-kept (line.Moment c ms ∷ ls) l conn words is = heap-kept ls l conn words is
heap-kept (line.Turn c at ∷ ls) l conn words is = heap-kept ls l conn words is
heap-kept (line.Send c ∷ ls) l conn words is = heap-kept ls l conn words is
heap-kept (line.Drain c ∷ ls) l conn words is = heap-kept ls l conn words is

pub heap-opened : (before : List ScriptLine) (conn words : ℕ) → heap_of before conn ≡ None → heap_of (before ++ line.Conn conn words ∷ []) conn ≡ Some words
heap-opened [] conn words is = ap (λ b. cond b (Some words) None) (eq-eqb conn conn refl)
heap-opened (line.Conn number size ∷ ls) conn words is =
    lift-none (number == conn) size words (heap_of ls conn) (heap_of (ls ++ line.Conn conn words ∷ []) conn) is (heap-opened ls conn words)
heap-opened (line.Store c place value ∷ ls) conn words is = heap-opened ls conn words is
heap-opened (line.Race c load place value ∷ ls) conn words is = heap-opened ls conn words is
heap-opened (line.Submit c method number addr ∷ ls) conn words is = heap-opened ls conn words is
heap-opened (line.Attach c at name policy ∷ ls) conn words is = heap-opened ls conn words is
heap-opened (line.Detach c name ∷ ls) conn words is = heap-opened ls conn words is
heap-opened (line.Upgrade c name policy ∷ ls) conn words is = heap-opened ls conn words is
heap-opened (line.Moment c ms ∷ ls) conn words is = heap-opened ls conn words is
heap-opened (line.Turn c at ∷ ls) conn words is = heap-opened ls conn words is
heap-opened (line.Send c ∷ ls) conn words is = heap-opened ls conn words is
heap-opened (line.Drain c ∷ ls) conn words is = heap-opened ls conn words is

was-none : (before : List ScriptLine) (l : ScriptLine) (conn : ℕ) (heap : Option ℕ) → heap_of before conn ≡ heap → heap_of (before ++ l ∷ []) conn ≡ None → heap_of before conn ≡ None
was-none before l conn None is none = is
was-none before l conn (Some words) is none = let kept = heap-kept before l conn words is in absurd cc

abbrev chain_with : List NamedPolicy → ScriptLine → ℕ → Chain → Chain
chain_with policies l conn c = cond (conn_of l == conn) (chain_after_op (op_in policies l) c) c

chain-more : (policies : List NamedPolicy) (c : Chain) (before : List ScriptLine) (l : ScriptLine) (conn : ℕ)
    → chain_after policies c (before ++ l ∷ []) conn ≡ chain_with policies l conn (chain_after policies c before conn)
chain-more policies c [] l conn = refl
chain-more policies c (k ∷ ks) l conn = chain-more policies (chain_with policies k conn c) ks l conn

chain-own : (policies : List NamedPolicy) (before : List ScriptLine) (l : ScriptLine) (conn : ℕ) → conn_of l ≡ conn
    → chain_after_lines policies (before ++ l ∷ []) conn ≡ chain_after_op (op_in policies l) (chain_after_lines policies before conn)
chain-own policies before l conn own =
    let c : Chain = chain_after_lines policies before conn in
    chain-more policies new_chain before l conn ∙ ap (λ b. cond b (chain_after_op (op_in policies l) c) c) (eq-eqb (conn_of l) conn own)

chain-other : (policies : List NamedPolicy) (before : List ScriptLine) (l : ScriptLine) (conn : ℕ) → conn_of l ≢ conn
    → chain_after_lines policies (before ++ l ∷ []) conn ≡ chain_after_lines policies before conn
chain-other policies before l conn other =
    let c : Chain = chain_after_lines policies before conn in
    chain-more policies new_chain before l conn ∙ ap (λ b. cond b (chain_after_op (op_in policies l) c) c) (ne_eqb (conn_of l) conn other)

-- a line that opens a connection leaves its chain unchanged
pub opened-new : (policies : List NamedPolicy) (before : List ScriptLine) (conn words : ℕ)
    → chain_after_lines policies (before ++ line.Conn conn words ∷ []) conn ≡ chain_after_lines policies before conn
opened-new policies before conn words = chain-own policies before (line.Conn conn words) conn refl

conn-operates-none : (policies : List NamedPolicy) (l : ScriptLine) → is_conn l ≡ true → op_in policies l ≡ None
conn-operates-none policies (line.Conn conn words) is = refl
conn-operates-none policies (line.Store c place value) is = absurd cc
conn-operates-none policies (line.Race c load place value) is = absurd cc
conn-operates-none policies (line.Submit c method number addr) is = absurd cc
conn-operates-none policies (line.Attach c at name policy) is = absurd cc
conn-operates-none policies (line.Detach c name) is = absurd cc
conn-operates-none policies (line.Upgrade c name policy) is = absurd cc
conn-operates-none policies (line.Moment c ms) is = absurd cc
conn-operates-none policies (line.Turn c at) is = absurd cc
conn-operates-none policies (line.Send c) is = absurd cc
conn-operates-none policies (line.Drain c) is = absurd cc

-- ---- a chain that no line has changed

abbrev pub AreNew : List NamedPolicy → List ScriptLine → Type 0
AreNew policies before = (conn : ℕ) → heap_of before conn ≡ None → chain_after_lines policies before conn ≡ new_chain

new-by : (loads : ℕ) (policies : List NamedPolicy) (before : List ScriptLine) (l : ScriptLine) (conn : ℕ) (opening : Bool) → is_conn l ≡ opening → conn_of l ≡ conn
    → IsAllowedAfter loads policies before l → heap_of before conn ≡ None → chain_after_lines policies before conn ≡ new_chain
    → chain_after_lines policies (before ++ l ∷ []) conn ≡ new_chain
new-by loads policies before l conn true opening own allows none new =
    chain-own policies before l conn own ∙ ap (λ o. chain_after_op o (chain_after_lines policies before conn)) (conn-operates-none policies l opening) ∙ new
new-by loads policies before l conn false opening own allows none new =
    absurd (allows.free Unknown (not_open opening (ap (heap_of before) own ∙ none) refl))

same-number : (a b : ℕ) → (a == b) ≡ true → a ≡ b
same-number a b test = grind (arith, nat_tests)

same-or-other : (a b : ℕ) (test : Bool) → (a == b) ≡ test → (a ≡ b) ⊎ (a ≢ b)
same-or-other a b true is = inl (same-number a b is)
same-or-other a b false is = inr (λ same. let yes : (a == b) ≡ true = eq-eqb a b same in let no : true ≡ false = sym yes ∙ is in absurd cc)

pub new-more : (loads : ℕ) (policies : List NamedPolicy) (before : List ScriptLine) (l : ScriptLine)
    → IsAllowedAfter loads policies before l → AreNew policies before → AreNew policies (before ++ l ∷ [])
new-more loads policies before l allows new conn none =
    let was : heap_of before conn ≡ None = was-none before l conn (heap_of before conn) refl none in
    elim (same-or-other (conn_of l) conn (conn_of l == conn) refl) [
      | inl own ↦ new-by loads policies before l conn (is_conn l) refl own allows was (new conn was)
      | inr other ↦ chain-other policies before l conn other ∙ new conn was
    ]

-- ---- the effect of a line on the chain and the calls of its connection

took-few : (call : AcceptedCall) (copy : TookCopy) (c : ConnState) → length (taken (accepted_as call copy c).past) ≤ length (taken c.past) + 1
took-few call (Copy tree) c = omega (arith, length-append (taken c.past) (call ∷ []))
took-few call (Malformed reason place value) c = omega (arith, length-append (taken c.past) (call ∷ []))

chain-took : (call : AcceptedCall) (copy : TookCopy) (c : ConnState) → chain (accepted_as call copy c).past ≡ chain c.past
chain-took call (Copy tree) c = refl
chain-took call (Malformed reason place value) c = refl

-- the chain is changed by the line's operation, if it has one, and at most one more call was accepted
pub record Moves (step : Option Op) (old new : Trace) : Type 0 where
  pub chain_is : chain new ≡ chain_after_op step (chain old)
  pub few : length (taken new) ≤ length (taken old) + 1

moves-still : (old new : Trace) → chain new ≡ chain old → taken new ≡ taken old → Moves None old new
moves-still old new chains calls = record { chain_is = chains; few = let same : length (taken new) ≡ length (taken old) = ap length calls in omega arith }

pub moves-drain : (old new : Trace) → Adds IsOfDrain old new → Moves None old new
moves-drain old new adds = moves-still old new (unmoved Chain chain IsOfDrain chain-kept old new adds) (unmoved (List AcceptedCall) taken IsOfDrain taken-kept old new adds)

abbrev step_in : Transition → Option Op
step_in (accepts call) = None
step_in (turns_away method number addr) = None
step_in (operates step) = Some step
step_in (shows ms) = None
step_in (turns position seq outcome) = None
step_in (sends seq bytes) = None
step_in fails = None

event-moves : (u : JudgeContext) (old : ConnState) (event : Transition) (new : ConnState) → IsTransition u old event new → Moves (step_in event) old.past new.past
event-moves u old event new (takes call is going may makes) =
    subst (λ e. Moves (step_in e) old.past new.past) (sym is) (subst (λ (c : ConnState). Moves None old.past c.past) (sym makes)
    (record { chain_is = chain-took call call.copy old; few = took-few call call.copy old }))
event-moves u old event new (is_away method number addr is full makes) =
    subst (λ e. Moves (step_in e) old.past new.past) (sym is) (subst (λ (c : ConnState). Moves None old.past c.past) (sym makes) (moves-still old.past _ refl refl))
event-moves u old event new (changes step is made makes) =
    subst (λ e. Moves (step_in e) old.past new.past) (sym is) (subst (λ (c : ConnState). Moves (Some step) old.past c.past) (sym makes)
    (record { chain_is = refl; few = omega arith }))
event-moves u old event new (rises ms is later makes) =
    subst (λ e. Moves (step_in e) old.past new.past) (sym is) (subst (λ (c : ConnState). Moves None old.past c.past) (sym makes) (moves-still old.past _ refl refl))
event-moves u old event new (stays ms is earlier makes) =
    subst (λ e. Moves (step_in e) old.past new.past) (sym is) (subst (λ (c : ConnState). Moves None old.past c.past) (sym makes) (moves-still old.past old.past refl refl))
event-moves u old event new (has_turn position seq outcome e is turn makes) =
    subst (λ ev. Moves (step_in ev) old.past new.past) (sym is)
    (moves-drain old.past new.past (adds-weaker IsOfTurn IsOfDrain turn-drains old.past new.past
    (turning-adds u old event new (subst IsTurning (sym is) tt) (has_turn position seq outcome e is turn makes))))
event-moves u old event new (is_sent seq bytes is going ready makes) =
    subst (λ ev. Moves (step_in ev) old.past new.past) (sym is)
    (moves-drain old.past new.past (sending-adds u old seq bytes new (is_sent seq bytes refl going ready makes)))
event-moves u old event new (link_failed is makes) =
    subst (λ ev. Moves (step_in ev) old.past new.past) (sym is)
    (moves-drain old.past new.past (adds-weaker IsOfTurn IsOfDrain turn-drains old.past new.past
    (turning-adds u old event new (subst IsTurning (sym is) tt) (link_failed is makes))))

module _ (s : Script) where
  abbrev step_of : ScriptLine → Option Op
  step_of l = op_in s.declared.policies l

  -- a line without an operation, which leads by one transition
  plain-moves : (l k : ScriptLine) (old new : OpenConnection) (c : ConnState) → l ≡ k → step_of k ≡ None → new ≡ with_state old c → Moves None old.course.past c.past
      → Moves (step_of l) old.course.past new.course.past
  plain-moves l k old new c is none makes moves =
      subst (λ o. Moves o old.course.past new.course.past) (sym (ap step_of is ∙ none))
      (subst (λ (o : OpenConnection). Moves None old.course.past o.course.past) (sym makes) moves)

  same-moves : (l k : ScriptLine) (old new : OpenConnection) → l ≡ k → step_of k ≡ None → new.course ≡ old.course → Moves (step_of l) old.course.past new.course.past
  same-moves l k old new is none same =
      subst (λ o. Moves o old.course.past new.course.past) (sym (ap step_of is ∙ none))
      (subst (λ (c : ConnState). Moves None old.course.past c.past) (sym same) (moves-still old.course.past old.course.past refl refl))

  pub does-moves : (l : ScriptLine) (old new : OpenConnection) → IsLineEffect s l old new → Moves (step_of l) old.course.past new.course.past
  does-moves l old new (stores place value is makes) = same-moves l (line.Store old.conn place value) old new is refl (ap (λ (o : OpenConnection). o.course) makes)
  does-moves l old new (races load place value is makes) = same-moves l (line.Race old.conn load place value) old new is refl (ap (λ (o : OpenConnection). o.course) makes)
  does-moves l old new (submits call own c is after reads loaded comes makes) =
      subst (λ o. Moves o old.course.past new.course.past) (sym (ap step_of is))
      (subst (λ (o : OpenConnection). Moves None old.course.past o.course.past) (sym makes) (event-moves (script_context s old.conn) old.course (accepts call) c comes))
  does-moves l old new (is_turned_away method number addr c is comes makes) =
      subst (λ o. Moves o old.course.past new.course.past) (sym (ap step_of is))
      (subst (λ (o : OpenConnection). Moves None old.course.past o.course.past) (sym makes) (event-moves (script_context s old.conn) old.course (turns_away method number addr) c comes))
  does-moves l old new (operates_on step c is comes makes) =
      subst (λ o. Moves o old.course.past new.course.past) (sym is)
      (subst (λ (o : OpenConnection). Moves (Some step) old.course.past o.course.past) (sym makes) (event-moves (script_context s old.conn) old.course (operates step) c comes))
  does-moves l old new (advances_clock ms c is comes makes) =
      plain-moves l (line.Moment old.conn ms) old new c is refl makes (event-moves (script_context s old.conn) old.course (shows ms) c comes)
  does-moves l old new (is_idle position is empty makes) = same-moves l (line.Turn old.conn position) old new is refl (ap (λ (o : OpenConnection). o.course) makes)
  does-moves l old new (does_turn position seq outcome c is comes makes) =
      plain-moves l (line.Turn old.conn position) old new c is refl makes (event-moves (script_context s old.conn) old.course (turns position seq outcome) c comes)
  does-moves l old new (none_ready is empty makes) = same-moves l (line.Send old.conn) old new is refl (ap (λ (o : OpenConnection). o.course) makes)
  does-moves l old new (does_send seq bytes c is comes makes) =
      plain-moves l (line.Send old.conn) old new c is refl makes (event-moves (script_context s old.conn) old.course (sends seq bytes) c comes)
  does-moves l old new (drains c is drained makes) =
      plain-moves l (line.Drain old.conn) old new c is refl makes (moves-drain old.course.past c.past (begins-adds (script_context s old.conn) old.course c drained.begins))

  pub does-keeps : (l : ScriptLine) (old new : OpenConnection) → IsLineEffect s l old new → (new.conn ≡ old.conn) × (new.words ≡ old.words)
  does-keeps l old new (stores place value is makes) = (ap (λ (o : OpenConnection). o.conn) makes, ap (λ (o : OpenConnection). o.words) makes)
  does-keeps l old new (races load place value is makes) = (ap (λ (o : OpenConnection). o.conn) makes, ap (λ (o : OpenConnection). o.words) makes)
  does-keeps l old new (submits call own c is after reads loaded comes makes) = (ap (λ (o : OpenConnection). o.conn) makes, ap (λ (o : OpenConnection). o.words) makes)
  does-keeps l old new (is_turned_away method number addr c is comes makes) = (ap (λ (o : OpenConnection). o.conn) makes, ap (λ (o : OpenConnection). o.words) makes)
  does-keeps l old new (operates_on step c is comes makes) = (ap (λ (o : OpenConnection). o.conn) makes, ap (λ (o : OpenConnection). o.words) makes)
  does-keeps l old new (advances_clock ms c is comes makes) = (ap (λ (o : OpenConnection). o.conn) makes, ap (λ (o : OpenConnection). o.words) makes)
  does-keeps l old new (is_idle position is empty makes) = (ap (λ (o : OpenConnection). o.conn) makes, ap (λ (o : OpenConnection). o.words) makes)
  does-keeps l old new (does_turn position seq outcome c is comes makes) = (ap (λ (o : OpenConnection). o.conn) makes, ap (λ (o : OpenConnection). o.words) makes)
  does-keeps l old new (none_ready is empty makes) = (ap (λ (o : OpenConnection). o.conn) makes, ap (λ (o : OpenConnection). o.words) makes)
  does-keeps l old new (does_send seq bytes c is comes makes) = (ap (λ (o : OpenConnection). o.conn) makes, ap (λ (o : OpenConnection). o.words) makes)
  does-keeps l old new (drains c is drained makes) = (ap (λ (o : OpenConnection). o.conn) makes, ap (λ (o : OpenConnection). o.words) makes)

  -- ---- all connections

  pub record IsBuilt (before : List ScriptLine) (o : OpenConnection) : Type 0 where
    pub heap : heap_of before o.conn ≡ Some o.words
    pub chain_is : chain o.course.past ≡ chain_after_lines s.declared.policies before o.conn
    pub few : length (taken o.course.past) ≤ length before

  abbrev pub AreBuilt : List ScriptLine → List OpenConnection → Type 0
  AreBuilt before opened = AllByRecursion (IsBuilt before) opened

  longer : (before : List ScriptLine) (l : ScriptLine) → length (before ++ l ∷ []) ≡ length before + 1
  longer before l = length-append before (l ∷ [])

  pub built-other : (before : List ScriptLine) (l : ScriptLine) (o : OpenConnection) → o.conn ≢ conn_of l → IsBuilt before o → IsBuilt (before ++ l ∷ []) o
  built-other before l o other built = record {
    heap = heap-kept before l o.conn o.words built.heap;
    chain_is = built.chain_is ∙ sym (chain-other s.declared.policies before l o.conn (λ same. other (sym same)));
    few = let was : length (taken o.course.past) ≤ length before = built.few in omega (arith, longer before l, was);
  }

  pub built-one : (before : List ScriptLine) (l : ScriptLine) (one other : OpenConnection) → conn_of l ≡ one.conn → other.conn ≡ one.conn → other.words ≡ one.words
      → Moves (step_of l) one.course.past other.course.past → IsBuilt before one → IsBuilt (before ++ l ∷ []) other
  built-one before l one other on conn words moves built = record {
    heap = ap (heap_of (before ++ l ∷ [])) conn ∙ heap-kept before l one.conn one.words built.heap ∙ ap Some (sym words);
    chain_is = moves.chain_is ∙ ap (chain_after_op (step_of l)) built.chain_is ∙ sym (chain-own s.declared.policies before l one.conn on)
        ∙ ap (chain_after_lines s.declared.policies (before ++ l ∷ [])) (sym conn);
    few =
        let was : length (taken one.course.past) ≤ length before = built.few in
        let more : length (taken other.course.past) ≤ length (taken one.course.past) + 1 = moves.few in
        omega (arith, longer before l, was, more);
  }
