-- Which calls of a script are sent, if its chain is set up first, of access and count policies, and a drain follows its
-- last submission.
use Rattle.std.proofs.Common.{◌≡◌, ◌≢◌, ◌∙◌, ◌⊎◌, ℕ, Bool, true, false, inl, inr, List, [], ◌∷◌, ◌++◌, map, refl, sym}
use Rattle.std.proofs.Common.{ap, subst, append_assoc, append-nil}
use Rattle.std.specs.Prelude.{All, filter}
use Rattle.std.proofs.lemmas.Bool.{cases_eq, true≢false}
use Rattle.std.proofs.lemmas.List.Elements.{All-head, All-tail, All-map}
use Rattle.replay_script.specs.Lines.{IsScript, conn_of, is_submit}
use Rattle.replay_script.specs.declared.script.ScriptLine.{ScriptLine}
use Rattle.replay_script.specs.declared.script.ScriptLine.TheVariants as line
use Rattle.replay_script.specs.declared.script.Script.{Script}
use Rattle.call_history.specs.Trace.{Trace, chain, has_failed, pending_calls, is_pending, taken}
use Rattle.call_history.specs.Transitions.{IsTransition, ConnState, Transition, IsValidState, accepts, fails, operates, sends, shows, turns, turns_away}
use Rattle.call_history.specs.Frames.{frame_of, frames_of_trace}
use Rattle.call_history.specs.Legal.{History, IsLegal, trace_of}
use Rattle.call_history.specs.Positions.{AreLegalPositions, IsSettled}
use Rattle.call_history.specs.declared.happening.ConnectionEvent.{ConnectionEvent}
use Rattle.call_history.specs.declared.happening.Happening.{Happening}
use Rattle.call_history.specs.declared.happening.Happening.TheVariants.{Took, Op}
use Rattle.call_history.specs.declared.happening.AcceptedCall.{AcceptedCall}
use Rattle.replay_run.specs.Follows.{IsLineEffect, Follows, IsStateAfter, OpenConnection, ScriptState, IsScriptStep, with_state, advances, event_on, opens, start, script_context}
use Rattle.replay_run.specs.Follows.IsLineEffect.{stores, races, submits, is_away, operates_on, advances_clock, is_idle, has_turn, none_ready, is_sent, drains}
use Rattle.replay_run.specs.Consistency.{IsConsistentOn}
use Rattle.replay_laws.specs.SetFirst.{IsSetFirst, allowed_copies}
use Rattle.replay_laws.specs.Scripts.{IsDrainedLast}
use Rattle.replay_laws.proofs.Allowed.{ArePlain}
use Rattle.replay_laws.proofs.Lists.{at-middle, push-not-nil}
use Rattle.replay_laws.proofs.Sending.{StandsOnceTaken, all-sent}
use Rattle.replay_laws.proofs.Settled.{none-stands}
use Rattle.replay_laws.proofs.Steady.{Goes, Rests, Steady, acceptance-goes, drain-steady, event-steady}

-- the laws of the layers below
pub record Laws : Type 0 where
  pub stands_once_taken : StandsOnceTaken
  pub joined : (conn : ℕ) (h k : History) → trace_of conn (h ++ k) ≡ trace_of conn k ++ trace_of conn h
  pub apart : (conn : ℕ) (h k : History) → All (λ x. x.conn ≢ conn) k → trace_of conn (h ++ k) ≡ trace_of conn h
  pub sound : (s : Script) (lines others : List ScriptLine) (st : ScriptState) → IsScript s → s.lines ≡ lines ++ others
      → IsStateAfter s start lines st → All (IsConsistentOn s st.history) st.opened
  pub legal : (s : Script) (end : ScriptState) → IsScript s → Follows s end → IsLegal s.table s.loads end.history
  pub settled : (s : Script) (old new : OpenConnection) → IsValidState (script_context s old.conn) old.course
      → IsLineEffect s (line.Drain old.conn) old new
      → IsSettled (script_context s old.conn) new.course.past (map (λ call. call.1) new.course.row)

-- ---- one line on its connection

record Done (l : ScriptLine) (old new : OpenConnection) : Type 0 where
  conn : new.conn ≡ old.conn
  going : Goes old.course.past new.course.past
  rests : is_submit l ≡ false → Rests old.course.past new.course.past

by-steady : (l : ScriptLine) (old new : OpenConnection) (c : ConnState) → new ≡ with_state old c → Steady old.course.past c.past
    → Done l old new
by-steady l old new c is steady =
    subst (Done l old) (sym is) (record { conn = refl; going = steady.going; rests = λ other. steady.rests })

by-event : (s : Script) (l : ScriptLine) (old new : OpenConnection) (event : Transition) (c : ConnState)
    → ((call : AcceptedCall) → event ≢ accepts call) → event ≢ fails → IsTransition (script_context s old.conn) old.course event c
    → new ≡ with_state old c → Done l old new
by-event s l old new event c not-taken not-failed comes is =
    by-steady l old new c is (event-steady (script_context s old.conn) old.course c event not-taken not-failed comes)

no-submission : (l : ScriptLine) (conn method number addr : ℕ) → l ≡ line.Submit conn method number addr → is_submit l ≡ false → ⊥
no-submission l conn method number addr is other = true≢false (sym (ap is_submit is) ∙ other)

does-done : (s : Script) (l : ScriptLine) (old new : OpenConnection) → IsLineEffect s l old new → Done l old new
does-done s l old new (stores place value is makes) =
    subst (Done l old) (sym makes) (record { conn = refl; going = λ h. h; rests = λ other h. h })
does-done s l old new (races load place value is makes) =
    subst (Done l old) (sym makes) (record { conn = refl; going = λ h. h; rests = λ other h. h })
does-done s l old new (submits call own c is after reads loaded comes makes) =
    subst (Done l old) (sym makes) (record {
      conn = refl;
      going = acceptance-goes (script_context s old.conn) old.course c call comes;
      rests = λ other. absurd (no-submission l old.conn call.method call.number call.addr is other);
    })
does-done s l old new (is_away method number addr c is comes makes) =
    let steady = event-steady (script_context s old.conn) old.course c (turns_away method number addr) (λ call e. cc) (λ e. cc) comes in
    subst (Done l old) (sym makes) (record { conn = refl; going = steady.going; rests = λ other. steady.rests })
does-done s l old new (operates_on step c is comes makes) =
    by-event s l old new (operates step) c (λ call e. cc) (λ e. cc) comes makes
does-done s l old new (advances_clock ms c is comes makes) =
    by-event s l old new (shows ms) c (λ call e. cc) (λ e. cc) comes makes
does-done s l old new (is_idle position is empty makes) =
    subst (Done l old) (sym makes) (record { conn = refl; going = λ h. h; rests = λ other h. h })
does-done s l old new (has_turn position seq outcome c is comes makes) =
    by-event s l old new (turns position seq outcome) c (λ call e. cc) (λ e. cc) comes makes
does-done s l old new (none_ready is empty makes) =
    subst (Done l old) (sym makes) (record { conn = refl; going = λ h. h; rests = λ other h. h })
does-done s l old new (is_sent seq bytes c is comes makes) =
    by-event s l old new (sends seq bytes) c (λ call e. cc) (λ e. cc) comes makes
does-done s l old new (drains c is drained makes) =
    by-steady l old new c makes (drain-steady (script_context s old.conn) old.course c drained)

-- ---- lists of lines

leads-push : (s : Script) (old mid new : ScriptState) (lines : List ScriptLine) (l : ScriptLine) → IsStateAfter s old lines mid
    → IsScriptStep s mid l new → IsStateAfter s old (lines ++ l ∷ []) new
leads-push s old mid new [] l leads step = (new, subst (λ (st : ScriptState). IsScriptStep s st l new) leads step, refl)
leads-push s old mid new (x ∷ lines) l leads step = (leads.0, leads.1, leads-push s leads.0 mid new lines l leads.2 step)

record Split (s : Script) (old end : ScriptState) (xs ys : List ScriptLine) : Type 0 where
  mid : ScriptState
  first : IsStateAfter s old xs mid
  rest : IsStateAfter s mid ys end

leads-split : (s : Script) (old end : ScriptState) (xs ys : List ScriptLine) → IsStateAfter s old (xs ++ ys) end → Split s old end xs ys
leads-split s old end [] ys leads = record { mid = old; first = refl; rest = leads }
leads-split s old end (x ∷ xs) ys leads =
    let split = leads-split s leads.0 end xs ys leads.2 in
    record { mid = split.mid; first = (leads.0, leads.1, split.first); rest = split.rest }

step-history : (s : Script) (old new : ScriptState) (l : ScriptLine) → IsScriptStep s old l new
    → (k : History) × (new.history ≡ old.history ++ k)
step-history s old new l (opens conn words is makes) =
    ([], ap (λ (st : ScriptState). st.history) makes ∙ sym (append-nil old.history))
step-history s old new l (advances one other on does goes) = (map (event_on one.conn) goes.piece, goes.history)

leads-history : (s : Script) (old end : ScriptState) (lines : List ScriptLine) → IsStateAfter s old lines end
    → (k : History) × (end.history ≡ old.history ++ k)
leads-history s old end [] leads = ([], ap (λ (st : ScriptState). st.history) leads ∙ sym (append-nil old.history))
leads-history s old end (l ∷ lines) leads =
    let first = step-history s old leads.0 l leads.1 in
    let rest = leads-history s leads.0 end lines leads.2 in
    (first.0 ++ rest.0, rest.1 ∙ ap (λ (h : History). h ++ rest.0) first.1 ∙ append_assoc old.history first.0 rest.0)

-- ---- the effect of a line on a connection's history

data Moves (conn : ℕ) (l : ScriptLine) (old new : ScriptState) : Type 0 where
  still : trace_of conn new.history ≡ trace_of conn old.history → Moves conn l old new
  moved : (one other : OpenConnection) → conn_of l ≡ conn → trace_of conn old.history ≡ one.course.past
      → trace_of conn new.history ≡ other.course.past → Done l one other → Moves conn l old new

all-of : {A : Type 0} (P : A → Type 0) → ((x : A) → P x) → (xs : List A) → All P xs
all-of P f xs k d lt = f _

of-others : (conn one : ℕ) (piece : List Happening) → one ≢ conn → All (λ x. x.conn ≢ conn) (map (event_on one) piece)
of-others conn one piece apart =
    All-map (λ (x : ConnectionEvent). x.conn ≢ conn) (event_on one) piece
    (all-of (λ (what : Happening). one ≢ conn) (λ what. apart) piece)

step-moves : Laws → (s : Script) (lines others : List ScriptLine) (l : ScriptLine) (old new : ScriptState) (conn : ℕ) → IsScript s
    → s.lines ≡ lines ++ l ∷ others → IsStateAfter s start lines old → IsScriptStep s old l new → Moves conn l old new
step-moves laws s lines others l old new conn script order leads (opens number words is makes) =
    still (ap (λ (st : ScriptState). trace_of conn st.history) makes)
step-moves laws s lines others l old new conn script order leads (advances one other on does goes) =
    elim (cases_eq one.conn conn) [
      | inl same ↦
          let done = does-done s l one other does in
          let before : IsConsistentOn s old.history one =
          at-middle (IsConsistentOn s old.history) goes.front goes.back one
          (subst (λ (os : List OpenConnection). All (IsConsistentOn s old.history) os) goes.before
          (laws.sound s lines (l ∷ others) old script order leads)) in
          let further : s.lines ≡ (lines ++ l ∷ []) ++ others = order ∙ sym (append_assoc lines (l ∷ []) others) in
          let all : IsStateAfter s start (lines ++ l ∷ []) new =
          leads-push s start old new lines l leads (advances one other on does goes) in
          let behind-it : IsConsistentOn s new.history other =
          at-middle (IsConsistentOn s new.history) goes.front goes.back other
          (subst (λ (os : List OpenConnection). All (IsConsistentOn s new.history) os) goes.after
          (laws.sound s (lines ++ l ∷ []) others new script further all)) in
          moved one other (on ∙ same) (sym (before.past ∙ ap (λ (n : ℕ). trace_of n old.history) same))
          (sym (behind-it.past ∙ ap (λ (n : ℕ). trace_of n new.history) (done.conn ∙ same))) done
      | inr apart ↦
          still (ap (trace_of conn) goes.history
          ∙ laws.apart conn old.history (map (event_on one.conn) goes.piece) (of-others conn one.conn goes.piece apart))
    ]

-- what lines of this kind preserve on a connection holds after them
through : Laws → (s : Script) (conn : ℕ) (P : Trace → Type 0) (A : ScriptLine → Type 0)
    → ((l : ScriptLine) (old new : OpenConnection) → A l → conn_of l ≡ conn → Done l old new → P old.course.past → P new.course.past)
    → (lines others : List ScriptLine) (st end : ScriptState) → IsScript s → s.lines ≡ lines ++ others → IsStateAfter s start lines st
    → IsStateAfter s st others end → All A others → P (trace_of conn st.history) → P (trace_of conn end.history)
through laws s conn P A keeps lines [] st end script order leads more each h =
    subst (λ (x : ScriptState). P (trace_of conn x.history)) (sym more) h
through laws s conn P A keeps lines (l ∷ others) st end script order leads more each h =
    let moves = step-moves laws s lines others l st more.0 conn script order leads more.1 in
    let next : P (trace_of conn more.0.history) = elim moves [
      | still e ↦ subst P (sym e) h
      | moved one other on a b done ↦ subst P (sym b) (keeps l one other (All-head A l others each) on done (subst P a h))
    ] in
    through laws s conn P A keeps (lines ++ l ∷ []) others more.0 end script (order ∙ sym (append_assoc lines (l ∷ []) others))
    (leads-push s start st more.0 lines l leads more.1) more.2 (All-tail A l others each) next

-- ---- chains that are set up first

earlier-none : (later past : Trace) → taken (later ++ past) ≡ [] → taken past ≡ []
earlier-none [] past none = none
earlier-none (Took call ∷ later) past none = absurd (push-not-nil (taken (later ++ past)) call none)
earlier-none (x ∷ later) past none = earlier-none later past none

earlier-plain : (later past : Trace) → IsSetFirst (later ++ past) → ArePlain (chain (later ++ past)).entries
    → (taken past ≡ []) ⊎ ArePlain (chain past).entries
earlier-plain [] past first plain = inr plain
earlier-plain (Op step ∷ later) past first plain = inl (earlier-none later past first)
earlier-plain (x ∷ later) past first plain = earlier-plain later past first plain

-- ---- after the drain

drained-none : Laws → (s : Script) (conn : ℕ) (front back : List ScriptLine) (old new : ScriptState) → IsScript s
    → s.lines ≡ front ++ line.Drain conn ∷ back → IsStateAfter s start front old → IsScriptStep s old (line.Drain conn) new
    → ArePlain (chain (trace_of conn new.history)).entries → pending_calls (trace_of conn new.history) ≡ []
drained-none laws s conn front back old new script order leads (opens number words is makes) plain = absurd cc
drained-none laws s conn front back old new script order leads (advances one other on does goes) plain =
    let done = does-done s (line.Drain conn) one other does in
    let before : IsConsistentOn s old.history one =
    at-middle (IsConsistentOn s old.history) goes.front goes.back one
    (subst (λ (os : List OpenConnection). All (IsConsistentOn s old.history) os) goes.before
    (laws.sound s front (line.Drain conn ∷ back) old script order leads)) in
    let further : s.lines ≡ (front ++ line.Drain conn ∷ []) ++ back =
    order ∙ sym (append_assoc front (line.Drain conn ∷ []) back) in
    let all : IsStateAfter s start (front ++ line.Drain conn ∷ []) new =
    leads-push s start old new front (line.Drain conn) leads (advances one other on does goes) in
    let behind-it : IsConsistentOn s new.history other =
    at-middle (IsConsistentOn s new.history) goes.front goes.back other
    (subst (λ (os : List OpenConnection). All (IsConsistentOn s new.history) os) goes.after
    (laws.sound s (front ++ line.Drain conn ∷ []) back new script further all)) in
    let past-is : other.course.past ≡ trace_of conn new.history =
    behind-it.past ∙ ap (λ (n : ℕ). trace_of n new.history) (done.conn ∙ sym on) in
    let settled = laws.settled s one other before.course (subst (λ (n : ℕ). IsLineEffect s (line.Drain n) one other) on does) in
    let places : AreLegalPositions (script_context s one.conn) other.course.past (map (λ call. call.1) other.course.row) =
    subst (λ (n : ℕ). AreLegalPositions (script_context s n) other.course.past (map (λ call. call.1) other.course.row)) done.conn
    behind-it.course.places in
    subst (λ (p : Trace). pending_calls p ≡ []) past-is
    (none-stands (script_context s one.conn) other.course.past (map (λ call. call.1) other.course.row) places settled
    (subst (λ (p : Trace). ArePlain (chain p).entries) (sym past-is) plain))

rests-on : (conn : ℕ) (l : ScriptLine) (old new : OpenConnection) → (is_submit l ≡ true → conn_of l ≢ conn) → conn_of l ≡ conn
    → Done l old new → Rests old.course.past new.course.past
rests-on conn l old new other on done =
    let given : (b : Bool) → is_submit l ≡ b → Rests old.course.past new.course.past = λ b. elim b as (λ b. is_submit l ≡ b → Rests old.course.past new.course.past) [
      | true ↦ λ is. absurd (other is on)
      | false ↦ λ is. done.rests is
    ] in
    given (is_submit l) refl

pub script-sends : Laws → (s : Script) (end : ScriptState) (conn : ℕ) → IsScript s → Follows s end → IsDrainedLast s conn
    → IsSetFirst (trace_of conn end.history) → ArePlain (chain (trace_of conn end.history)).entries
    → frames_of_trace s.table conn (trace_of conn end.history)
    ≡ map (frame_of s.table)
    (allowed_copies conn (chain (trace_of conn end.history)).entries (taken (trace_of conn end.history)))
script-sends laws s end conn script follows last first plain =
    let past : Trace = trace_of conn end.history in
    let legal = laws.legal s end script follows conn in
    let unfailed : has_failed past ≡ false =
    through laws s conn (λ (p : Trace). has_failed p ≡ false) (λ (l : ScriptLine). Unit {0})
    (λ l old new any on done h. done.going h) [] s.lines start end script refl refl follows.leads
    (all-of (λ (l : ScriptLine). Unit {0}) (λ l. tt) s.lines) refl in
    let split = leads-split s start end last.front (line.Drain conn ∷ last.back)
    (subst (λ (ls : List ScriptLine). IsStateAfter s start ls end) last.order follows.leads) in
    let old : ScriptState = split.mid in
    let at = split.rest in
    let new : ScriptState = at.0 in
    let grown = leads-history s new end last.back at.2 in
    let longer : past ≡ trace_of conn grown.0 ++ trace_of conn new.history =
    ap (trace_of conn) grown.1 ∙ laws.joined conn new.history grown.0 in
    let earlier = earlier-plain (trace_of conn grown.0) (trace_of conn new.history) (subst IsSetFirst longer first)
    (subst (λ (p : Trace). ArePlain (chain p).entries) longer plain) in
    let none-then : pending_calls (trace_of conn new.history) ≡ [] = elim earlier [
      | inl none ↦ ap (filter (is_pending (trace_of conn new.history))) none
      | inr so ↦ drained-none laws s conn last.front last.back old new script last.order split.first at.1 so
    ] in
    let further : s.lines ≡ (last.front ++ line.Drain conn ∷ []) ++ last.back =
    last.order ∙ sym (append_assoc last.front (line.Drain conn ∷ []) last.back) in
    let none-stand : pending_calls past ≡ [] =
    through laws s conn (λ (p : Trace). pending_calls p ≡ []) (λ (l : ScriptLine). is_submit l ≡ true → conn_of l ≢ conn)
    (λ l a b other on done h. rests-on conn l a b other on done h) (last.front ++ line.Drain conn ∷ []) last.back new end
    script further (leads-push s start old new last.front (line.Drain conn) split.first at.1) at.2 last.others none-then in
    all-sent laws.stands_once_taken (script_context s conn) past legal.prefix first plain unfailed none-stand
