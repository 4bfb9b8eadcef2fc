-- The operations on a script's connections are those of its lines: their policies are valid.
use Rattle.std.proofs.Common.{◌≡◌, ℕ, ◌+◌, List, [], ◌∷◌, ◌++◌, sym, subst, arith}
use Rattle.std.specs.List.{AllByRecursion}
use Rattle.std.proofs.lemmas.List.Elements.{All-nil}
use Rattle.mrpc_table.specs.declared.call.Call.{Call}
use Rattle.replay_script.specs.declared.script.ScriptLine.{ScriptLine}
use Rattle.replay_script.specs.declared.script.Script.{Script}
use Rattle.call_history.specs.Trace.{Trace, chain}
use Rattle.call_history.specs.Transitions.{ConnState, IsTransition, Transition, accepts, operates, sends, shows, turns, turns_away, fails, takes, is_away, changes, rises, stays, has_turn, is_sent, link_failed}
use Rattle.call_history.specs.Rules.{JudgeContext}
use Rattle.call_history.specs.declared.happening.Happening.{Happening}
use Rattle.call_history.specs.declared.happening.Happening.TheVariants.{Took, Away, Op, Moment, Charged, Drawn, Counted, Redacted, Sent, Refused}
use Rattle.call_history.specs.declared.happening.AcceptedCall.{AcceptedCall}
use Rattle.call_history.specs.declared.happening.TookCopy.{TookCopy}
use Rattle.call_history.specs.declared.happening.TookCopy.TheVariants.{Copy, Malformed}
use Rattle.replay_run.specs.Follows.{OpenConnection, ScriptState, start, new_connection, script_context, with_state, IsLineEffect, stores, races, submits}
use Rattle.replay_run.specs.Follows.{is_away as is_turned_away, operates_on, advances_clock, is_idle as has_none}
use Rattle.replay_run.specs.Follows.{has_turn as does_turn, none_ready, is_sent as does_send, drains, CanSendAt, by_send}
use Rattle.replay_run.specs.Follows.{by_drain, IsSendFailure, IsLineStep, IsScriptStep, opens, advances, IsStateAfter, IsRunToFailedSend}
use Rattle.replay_run.proofs.Adds.{accepted_as, Adds, IsOfDrain, IsTurning, all-append, all-weaker, begins-adds, turn-drains, turning-adds, adds-weaker, IsOfTurn}
use Rattle.replay_run.proofs.Ready.{ArePolicies, IsGoodOption, IsGoodStep, IsModest, IsModestChain, op-good, step-modest}

module _ (tenants : ℕ) where
  -- an operation has a valid policy
  abbrev pub IsKnown : Happening → Type 0
  IsKnown (Took call) = Unit {0}
  IsKnown (Away method number addr) = Unit {0}
  IsKnown (Op step) = IsGoodStep tenants step
  IsKnown (Moment ms) = Unit {0}
  IsKnown (Charged seq name left) = Unit {0}
  IsKnown (Drawn seq name window ticket) = Unit {0}
  IsKnown (Counted seq name) = Unit {0}
  IsKnown (Redacted seq name version) = Unit {0}
  IsKnown (Sent seq bytes) = Unit {0}
  IsKnown (Refused seq why) = Unit {0}

  abbrev pub AreKnown : Trace → Type 0
  AreKnown past = AllByRecursion IsKnown past

  drain-known : (x : Happening) → IsOfDrain x → IsKnown x
  drain-known (Took call) holds = tt
  drain-known (Away method number addr) holds = tt
  drain-known (Op step) holds = absurd holds
  drain-known (Moment ms) holds = tt
  drain-known (Charged seq name left) holds = tt
  drain-known (Drawn seq name window ticket) holds = tt
  drain-known (Counted seq name) holds = tt
  drain-known (Redacted seq name version) holds = tt
  drain-known (Sent seq bytes) holds = tt
  drain-known (Refused seq why) holds = tt

  adds-known : (old new : Trace) → Adds IsOfDrain old new → AreKnown old → AreKnown new
  adds-known old new a known = subst AreKnown (sym a.is)
      (all-append IsKnown a.more old (all-weaker IsOfDrain IsKnown drain-known a.more a.each) known)

  -- ---- transitions

  abbrev IsKnownEvent : Transition → Type 0
  IsKnownEvent (accepts call) = Unit {0}
  IsKnownEvent (turns_away method number addr) = Unit {0}
  IsKnownEvent (operates step) = IsGoodStep tenants step
  IsKnownEvent (shows ms) = Unit {0}
  IsKnownEvent (turns position seq outcome) = Unit {0}
  IsKnownEvent (sends seq bytes) = Unit {0}
  IsKnownEvent fails = Unit {0}

  accepted-known : (call : AcceptedCall) (copy : TookCopy) (c : ConnState) → AreKnown c.past → AreKnown (accepted_as call copy c).past
  accepted-known call (Copy tree) c known = (tt, known)
  accepted-known call (Malformed reason place value) c known = (tt, (tt, known))

  turning-known : (u : JudgeContext) (old : ConnState) (event : Transition) (new : ConnState) → IsTurning event → IsTransition u old event new → AreKnown old.past → AreKnown new.past
  turning-known u old event new turning comes known =
      adds-known old.past new.past (adds-weaker IsOfTurn IsOfDrain turn-drains old.past new.past (turning-adds u old event new turning comes)) known

  event-known : (u : JudgeContext) (old : ConnState) (event : Transition) (new : ConnState) → IsKnownEvent event → IsTransition u old event new → AreKnown old.past → AreKnown new.past
  event-known u old event new good (takes call is going may makes) known =
      subst (λ (c : ConnState). AreKnown c.past) (sym makes) (accepted-known call call.copy old known)
  event-known u old event new good (is_away method number addr is full makes) known =
      subst (λ (c : ConnState). AreKnown c.past) (sym makes) (tt, known)
  event-known u old event new good (changes step is made makes) known =
      subst (λ (c : ConnState). AreKnown c.past) (sym makes) (subst IsKnownEvent is good, known)
  event-known u old event new good (rises ms is later makes) known =
      subst (λ (c : ConnState). AreKnown c.past) (sym makes) (tt, known)
  event-known u old event new good (stays ms is earlier makes) known =
      subst (λ (c : ConnState). AreKnown c.past) (sym makes) known
  event-known u old event new good (has_turn position seq outcome e is turn makes) known =
      turning-known u old event new (subst IsTurning (sym is) tt) (has_turn position seq outcome e is turn makes) known
  event-known u old event new good (is_sent seq bytes is going ready makes) known =
      subst (λ (c : ConnState). AreKnown c.past) (sym makes) (tt, known)
  event-known u old event new good (link_failed is makes) known =
      turning-known u old event new (subst IsTurning (sym is) tt) (link_failed is makes) known

  -- ---- lines

  module _ (s : Script) (good : ArePolicies tenants s.declared.policies) where
    along : (old new : OpenConnection) (c : ConnState) → new ≡ with_state old c → AreKnown c.past → AreKnown new.course.past
    along old new c makes known = subst (λ (o : OpenConnection). AreKnown o.course.past) (sym makes) known

    does-known : (l : ScriptLine) (old new : OpenConnection) → IsLineEffect s l old new → AreKnown old.course.past → AreKnown new.course.past
    does-known l old new (stores place value is makes) known = subst (λ (o : OpenConnection). AreKnown o.course.past) (sym makes) known
    does-known l old new (races load place value is makes) known = subst (λ (o : OpenConnection). AreKnown o.course.past) (sym makes) known
    does-known l old new (submits call own c is after reads loaded comes makes) known =
        subst (λ (o : OpenConnection). AreKnown o.course.past) (sym makes) (event-known (script_context s old.conn) old.course (accepts call) c tt comes known)
    does-known l old new (is_turned_away method number addr c is comes makes) known =
        subst (λ (o : OpenConnection). AreKnown o.course.past) (sym makes) (event-known (script_context s old.conn) old.course (turns_away method number addr) c tt comes known)
    does-known l old new (operates_on step c is comes makes) known =
        along old new c makes
        (event-known (script_context s old.conn) old.course (operates step) c (subst (IsGoodOption tenants) is (op-good tenants s.declared.policies good l)) comes known)
    does-known l old new (advances_clock ms c is comes makes) known =
        along old new c makes (event-known (script_context s old.conn) old.course (shows ms) c tt comes known)
    does-known l old new (has_none position is empty makes) known = subst (λ (o : OpenConnection). AreKnown o.course.past) (sym makes) known
    does-known l old new (does_turn position seq outcome c is comes makes) known =
        along old new c makes (event-known (script_context s old.conn) old.course (turns position seq outcome) c tt comes known)
    does-known l old new (none_ready is empty makes) known = subst (λ (o : OpenConnection). AreKnown o.course.past) (sym makes) known
    does-known l old new (does_send seq bytes c is comes makes) known =
        along old new c makes (event-known (script_context s old.conn) old.course (sends seq bytes) c tt comes known)
    does-known l old new (drains c is drained makes) known =
        along old new c makes (adds-known old.course.past c.past (begins-adds (script_context s old.conn) old.course c drained.begins) known)

    gets-known : (l : ScriptLine) (old : OpenConnection) (c : ConnState) → CanSendAt s l old c → AreKnown old.course.past → AreKnown c.past
    gets-known l old c (by_send is same) known = subst (λ (d : ConnState). AreKnown d.past) (sym same) known
    gets-known l old c (by_drain is begins) known = adds-known old.course.past c.past (begins-adds (script_context s old.conn) old.course c begins) known

    fails-known : (l : ScriptLine) (old new : OpenConnection) (tried : Call) → IsSendFailure s l old tried new → AreKnown old.course.past → AreKnown new.course.past
    fails-known l old new tried failing known =
        event-known (script_context s old.conn) failing.at fails new.course tt failing.refused (gets-known l old failing.at failing.gets known)

    -- ---- all connections

    abbrev pub AllAreKnown : List OpenConnection → Type 0
    AllAreKnown os = AllByRecursion (λ o. AreKnown o.course.past) os

    known-at : (front back : List OpenConnection) (o : OpenConnection) → AllAreKnown (front ++ o ∷ back) → AreKnown o.course.past
    known-at [] back o all = all.0
    known-at (x ∷ front) back o all = known-at front back o all.1

    known-on : (front back : List OpenConnection) (one other : OpenConnection) → AreKnown other.course.past → AllAreKnown (front ++ one ∷ back) → AllAreKnown (front ++ other ∷ back)
    known-on [] back one other known all = (known, all.1)
    known-on (x ∷ front) back one other known all = (all.0, known-on front back one other known all.1)

    known-more : (os : List OpenConnection) (o : OpenConnection) → AreKnown o.course.past → AllAreKnown os → AllAreKnown (os ++ o ∷ [])
    known-more [] o known all = (known, tt)
    known-more (x ∷ os) o known all = (all.0, known-more os o known all.1)

    goes-known : (old new : ScriptState) (one other : OpenConnection) → (AreKnown one.course.past → AreKnown other.course.past) → IsLineStep old one other new
        → AllAreKnown old.opened → AllAreKnown new.opened
    goes-known old new one other keeps goes all =
        let before : AllAreKnown (goes.front ++ one ∷ goes.back) = subst AllAreKnown goes.before all in
        subst AllAreKnown (sym goes.after) (known-on goes.front goes.back one other (keeps (known-at goes.front goes.back one before)) before)

    step-known : (l : ScriptLine) (old new : ScriptState) → IsScriptStep s old l new → AllAreKnown old.opened → AllAreKnown new.opened
    step-known l old new (opens conn words is makes) all =
        subst (λ (st : ScriptState). AllAreKnown st.opened) (sym makes) (known-more old.opened (new_connection conn words) tt all)
    step-known l old new (advances one other on does goes) all = goes-known old new one other (does-known l one other does) goes all

    pub leads-known : (lines : List ScriptLine) (old new : ScriptState) → IsStateAfter s old lines new → AllAreKnown old.opened → AllAreKnown new.opened
    leads-known [] old new same all = subst (λ (st : ScriptState). AllAreKnown st.opened) (sym same) all
    leads-known (l ∷ lines) old new leads all = leads-known lines leads.0 new leads.2 (step-known l old leads.0 leads.1 all)

    pub until-known : (tried : Call) (end : ScriptState) → IsRunToFailedSend s tried end → AllAreKnown end.opened
    until-known tried end f =
        goes-known f.before end f.one f.other (fails-known f.failing f.one f.other tried f.fails) f.goes (leads-known f.lines start f.before f.leads tt)

  -- ---- chains

  -- the policies of a chain that such operations lead to are valid
  pub chain-good : (past : Trace) → AreKnown past → (n : ℕ) × IsModestChain tenants n (chain past)
  chain-good [] known = (0, record { attached = omega arith; entries = All-nil (IsModest tenants 0) })
  chain-good (Took call ∷ past) known = chain-good past known.1
  chain-good (Away method number addr ∷ past) known = chain-good past known.1
  chain-good (Op step ∷ past) known =
      let so_far = chain-good past known.1 in
      (so_far.0 + 1, step-modest tenants so_far.0 step (chain past) known.0 so_far.1)
  chain-good (Moment ms ∷ past) known = chain-good past known.1
  chain-good (Charged seq name left ∷ past) known = chain-good past known.1
  chain-good (Drawn seq name window ticket ∷ past) known = chain-good past known.1
  chain-good (Counted seq name ∷ past) known = chain-good past known.1
  chain-good (Redacted seq name version ∷ past) known = chain-good past known.1
  chain-good (Sent seq bytes ∷ past) known = chain-good past known.1
  chain-good (Refused seq why ∷ past) known = chain-good past known.1
