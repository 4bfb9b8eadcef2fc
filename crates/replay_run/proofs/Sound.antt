-- Properties of a script's connections, line by line.
use Rattle.std.proofs.Common.{◌≡◌, ◌≢◌, ℕ, cond, List, [], ◌∷◌, ◌++◌, map, reverse, refl, sym, ap, ◌∙◌, subst, append-nil, append_assoc}
use Rattle.std.specs.Prelude.{Some, None}
use Rattle.std.specs.List.{AllByRecursion, cons_option}
use Rattle.std.proofs.lemmas.Bool.{eq-eqb}
use Rattle.std.proofs.lemmas.List.{map-append}
use Rattle.std.proofs.lemmas.List.Elements.{All-map}
use Rattle.replay_script.specs.Lines.{AreAllowed, IsAllowedAfter}
use Rattle.replay_script.specs.declared.script.ScriptLine.{ScriptLine}
use Rattle.replay_script.specs.declared.script.ScriptLine.TheVariants as line
use Rattle.replay_script.specs.declared.script.Script.{Script}
use Rattle.call_history.specs.Transitions.{IsTransition, ConnState, Transition, IsValidState, accepts, operates, sends, shows, turns, turns_away}
use Rattle.call_history.specs.Legal.{History, trace_of, events_of}
use Rattle.call_history.specs.Loads.{AreSpelled}
use Rattle.call_history.specs.declared.happening.ConnectionEvent.{ConnectionEvent}
use Rattle.call_history.specs.declared.happening.Happening.{Happening}
use Rattle.replay_run.specs.Follows.{OpenConnection, ScriptState, start, new_connection, script_context, with_state, IsLineEffect, stores, races, submits}
use Rattle.replay_run.specs.Follows.{is_away, operates_on, advances_clock, is_idle, has_turn, none_ready, is_sent, drains}
use Rattle.replay_run.specs.Follows.{CanSendAt, by_send, by_drain, IsLineStep, IsScriptStep, opens, advances, event_on, IsStateAfter}
use Rattle.replay_run.specs.Consistency.{IsConsistentOn}
use Rattle.replay_run.proofs.GivenLaws.{HistoryLaws}
use Rattle.replay_run.proofs.Lines.{openings, Lacks, AreApart, openings-append, op-opens-none, lacks-unopened, unopened, apart-more}
use Rattle.replay_run.proofs.Spelled.{event-spells, begins-spell, taking-spells}

-- ---- one connection

-- number and heap are unchanged, the state is valid, and the loads are those of its calls
pub record IsNext (s : Script) (old new : OpenConnection) : Type 0 where
  pub conn : new.conn ≡ old.conn
  pub course : IsValidState (script_context s old.conn) new.course
  pub spelled : AreSpelled s.table old.words s.loads new.course.past new.loads
  pub words : new.words ≡ old.words

module _ (laws : HistoryLaws) (s : Script) where
  abbrev Spells : OpenConnection → Type 0
  Spells o = AreSpelled s.table o.words s.loads o.course.past o.loads

  come-next : (old new : OpenConnection) (c : ConnState) → new ≡ with_state old c → IsValidState (script_context s old.conn) c → AreSpelled s.table old.words s.loads c.past old.loads → IsNext s old new
  come-next old new c is course spelled = subst (IsNext s old) (sym is) (record { conn = refl; course = course; spelled = spelled; words = refl })

  event-next : (old new : OpenConnection) (event : Transition) (c : ConnState) → ((call : _) → event ≡ accepts call → ⊥) → IsValidState (script_context s old.conn) old.course → Spells old
      → IsTransition (script_context s old.conn) old.course event c → new ≡ with_state old c → IsNext s old new
  event-next old new event c other course spelled comes is =
      come-next old new c is (laws.event (script_context s old.conn) old.course c event course comes)
      (event-spells s.table old.words s.loads (script_context s old.conn) old.course event c old.loads other comes spelled)

  pub does-next : (l : ScriptLine) (old new : OpenConnection) → IsValidState (script_context s old.conn) old.course → Spells old → IsLineEffect s l old new → IsNext s old new
  does-next l old new course spelled (stores place value is makes) = subst (IsNext s old) (sym makes) (record { conn = refl; course = course; spelled = spelled; words = refl })
  does-next l old new course spelled (races load place value is makes) = subst (IsNext s old) (sym makes) (record { conn = refl; course = course; spelled = spelled; words = refl })
  does-next l old new course spelled (submits call own c is after reads loaded comes makes) = subst (IsNext s old) (sym makes) (record {
    conn = refl;
    course = laws.event (script_context s old.conn) old.course c (accepts call) course comes;
    spelled = taking-spells s.table old.words s.loads (script_context s old.conn) old.course call c old.loads own comes loaded spelled;
    words = refl;
  })
  does-next l old new course spelled (is_away method number addr c is comes makes) = subst (IsNext s old) (sym makes) (record {
    conn = refl;
    course = laws.event (script_context s old.conn) old.course c (turns_away method number addr) course comes;
    spelled = subst (AreSpelled s.table old.words s.loads c.past) (sym (append-nil old.loads))
        (event-spells s.table old.words s.loads (script_context s old.conn) old.course (turns_away method number addr) c old.loads (λ call e. cc) comes spelled);
    words = refl;
  })
  does-next l old new course spelled (operates_on step c is comes makes) = event-next old new (operates step) c (λ call e. cc) course spelled comes makes
  does-next l old new course spelled (advances_clock ms c is comes makes) = event-next old new (shows ms) c (λ call e. cc) course spelled comes makes
  does-next l old new course spelled (is_idle position is empty makes) = subst (IsNext s old) (sym makes) (record { conn = refl; course = course; spelled = spelled; words = refl })
  does-next l old new course spelled (has_turn position seq outcome c is comes makes) = event-next old new (turns position seq outcome) c (λ call e. cc) course spelled comes makes
  does-next l old new course spelled (none_ready is empty makes) = subst (IsNext s old) (sym makes) (record { conn = refl; course = course; spelled = spelled; words = refl })
  does-next l old new course spelled (is_sent seq bytes c is comes makes) = event-next old new (sends seq bytes) c (λ call e. cc) course spelled comes makes
  does-next l old new course spelled (drains c is drained makes) =
      come-next old new c makes (laws.whole (script_context s old.conn) old.course c course drained)
      (begins-spell s.table old.words s.loads (script_context s old.conn) old.course c old.loads drained.begins spelled)

  -- a state that a line reaches
  pub record IsReached (old : OpenConnection) (c : ConnState) : Type 0 where
    pub course : IsValidState (script_context s old.conn) c
    pub spelled : AreSpelled s.table old.words s.loads c.past old.loads

  pub gets-next : (l : ScriptLine) (old : OpenConnection) (c : ConnState) → IsValidState (script_context s old.conn) old.course → Spells old → CanSendAt s l old c → IsReached old c
  gets-next l old c course spelled (by_send is same) = subst (IsReached old) (sym same) (record { course = course; spelled = spelled })
  gets-next l old c course spelled (by_drain is begins) = record {
    course = laws.partly (script_context s old.conn) old.course c course begins;
    spelled = begins-spell s.table old.words s.loads (script_context s old.conn) old.course c old.loads begins spelled;
  }

  does-opens-none : (l : ScriptLine) (old new : OpenConnection) → IsLineEffect s l old new → openings (l ∷ []) ≡ []
  does-opens-none l old new (stores place value is makes) = ap (λ k. openings (k ∷ [])) is
  does-opens-none l old new (races load place value is makes) = ap (λ k. openings (k ∷ [])) is
  does-opens-none l old new (submits call own c is after reads loaded comes makes) = ap (λ k. openings (k ∷ [])) is
  does-opens-none l old new (is_away method number addr c is comes makes) = ap (λ k. openings (k ∷ [])) is
  does-opens-none l old new (operates_on step c is comes makes) = op-opens-none s.declared.policies l step is
  does-opens-none l old new (advances_clock ms c is comes makes) = ap (λ k. openings (k ∷ [])) is
  does-opens-none l old new (is_idle position is empty makes) = ap (λ k. openings (k ∷ [])) is
  does-opens-none l old new (has_turn position seq outcome c is comes makes) = ap (λ k. openings (k ∷ [])) is
  does-opens-none l old new (none_ready is empty makes) = ap (λ k. openings (k ∷ [])) is
  does-opens-none l old new (is_sent seq bytes c is comes makes) = ap (λ k. openings (k ∷ [])) is
  does-opens-none l old new (drains c is drained makes) = ap (λ k. openings (k ∷ [])) is

  -- ---- the events of one connection, in the history of all

  on-own : (conn : ℕ) (piece : List Happening) → events_of conn (map (event_on conn) piece) ≡ piece
  on-own conn [] = refl
  on-own conn (x ∷ xs) =
      ap (λ b. cons_option (cond b (Some x) None) (events_of conn (map (event_on conn) xs))) (eq-eqb conn conn refl)
      ∙ ap (λ ys. x ∷ ys) (on-own conn xs)

  pub behind-own : (conn : ℕ) (h : History) (piece : List Happening) → trace_of conn (h ++ map (event_on conn) piece) ≡ reverse piece ++ trace_of conn h
  behind-own conn h piece = laws.joined conn h (map (event_on conn) piece) ∙ ap (λ xs. reverse xs ++ trace_of conn h) (on-own conn piece)

  behind-other : (conn other : ℕ) (h : History) (piece : List Happening) → conn ≢ other → trace_of other (h ++ map (event_on conn) piece) ≡ trace_of other h
  behind-other conn other h piece differ =
      laws.apart other h (map (event_on conn) piece)
      (All-map (λ (x : ConnectionEvent). x.conn ≢ other) (event_on conn) piece (λ k x e. differ))

  sound-other : (conn : ℕ) (h : History) (piece : List Happening) (o : OpenConnection) → o.conn ≢ conn → IsConsistentOn s h o → IsConsistentOn s (h ++ map (event_on conn) piece) o
  sound-other conn h piece o differ sound =
      let same : trace_of o.conn (h ++ map (event_on conn) piece) ≡ trace_of o.conn h = behind-other conn o.conn h piece (λ e. differ (sym e)) in
      record {
        past = sound.past ∙ sym same;
        course = sound.course;
        spelled = subst (λ past. AreSpelled s.table o.words s.loads past o.loads) (sym same) sound.spelled;
      }

  sound-one : (h : History) (piece : List Happening) (one other : OpenConnection) → IsConsistentOn s h one → IsNext s one other → other.course.past ≡ reverse piece ++ one.course.past
      → IsConsistentOn s (h ++ map (event_on one.conn) piece) other
  sound-one h piece one other sound next past =
      let here : other.course.past ≡ trace_of other.conn (h ++ map (event_on one.conn) piece) =
      past ∙ ap (λ b. reverse piece ++ b) sound.past ∙ sym (behind-own one.conn h piece) ∙ ap (λ c. trace_of c (h ++ map (event_on one.conn) piece)) (sym next.conn) in
      record {
        past = here;
        course = subst (λ c. IsValidState (script_context s c) other.course) (sym next.conn) next.course;
        spelled = subst (λ b. AreSpelled s.table other.words s.loads b other.loads) here
            (subst (λ w. AreSpelled s.table w s.loads other.course.past other.loads) (sym next.words) next.spelled);
      }

  -- ---- all connections

  abbrev pub AreSound : History → List OpenConnection → Type 0
  AreSound h opened = AllByRecursion (IsConsistentOn s h) opened

  abbrev pub numbers : List OpenConnection → List ℕ
  numbers opened = map (λ o. o.conn) opened

  -- what is known after some lines of a script
  pub record Stands (before : List ScriptLine) (st : ScriptState) : Type 0 where
    pub are : numbers st.opened ≡ openings before
    pub apart : AreApart (openings before)
    pub each : AreSound st.history st.opened
    pub quiet : (conn : ℕ) → Lacks conn (openings before) → trace_of conn st.history ≡ []

  pub middle : (P : ℕ → Type 0) (front back : List OpenConnection) (o : OpenConnection) → AllByRecursion P (numbers (front ++ o ∷ back)) → P o.conn
  middle P [] back o all = all.0
  middle P (x ∷ front) back o all = middle P front back o all.1

  pub sound-at : (h : History) (front back : List OpenConnection) (o : OpenConnection) → AreSound h (front ++ o ∷ back) → IsConsistentOn s h o
  sound-at h [] back o all = all.0
  sound-at h (x ∷ front) back o all = sound-at h front back o all.1

  sounds-behind : (conn : ℕ) (h : History) (piece : List Happening) (os : List OpenConnection) → AllByRecursion (λ n. n ≢ conn) (numbers os) → AreSound h os
      → AreSound (h ++ map (event_on conn) piece) os
  sounds-behind conn h piece [] apart each = tt
  sounds-behind conn h piece (o ∷ os) apart each = (sound-other conn h piece o apart.0 each.0, sounds-behind conn h piece os apart.1 each.1)

  sounds-on : (h : History) (piece : List Happening) (front back : List OpenConnection) (one other : OpenConnection) → AreApart (numbers (front ++ one ∷ back)) → AreSound h (front ++ one ∷ back)
      → IsNext s one other → other.course.past ≡ reverse piece ++ one.course.past → AreSound (h ++ map (event_on one.conn) piece) (front ++ other ∷ back)
  sounds-on h piece [] back one other apart each next past =
      (sound-one h piece one other each.0 next past, sounds-behind one.conn h piece back apart.0 each.1)
  sounds-on h piece (x ∷ front) back one other apart each next past = (
    sound-other one.conn h piece x (λ same. middle (λ n. n ≢ x.conn) front back one apart.0 (sym same)) each.0,
    sounds-on h piece front back one other apart.1 each.1 next past,
  )

  numbers-on : (front back : List OpenConnection) (one other : OpenConnection) → other.conn ≡ one.conn → numbers (front ++ other ∷ back) ≡ numbers (front ++ one ∷ back)
  numbers-on [] back one other same = ap (λ n. n ∷ numbers back) same
  numbers-on (x ∷ front) back one other same = ap (λ ns. x.conn ∷ ns) (numbers-on front back one other same)

  lacks-middle : (front back : List OpenConnection) (one : OpenConnection) (conn : ℕ) → Lacks conn (numbers (front ++ one ∷ back)) → one.conn ≢ conn
  lacks-middle front back one conn lacks = middle (λ n. n ≢ conn) front back one lacks

  -- one connection advances
  pub goes-stand : (before : List ScriptLine) (l : ScriptLine) (old new : ScriptState) (one other : OpenConnection) → openings (l ∷ []) ≡ []
      → Stands before old → IsLineStep old one other new → IsNext s one other
      → Stands (before ++ l ∷ []) new
  goes-stand before l old new one other none stands goes next =
      let more : openings (before ++ l ∷ []) ≡ openings before = openings-append before (l ∷ []) ∙ ap (λ ns. openings before ++ ns) none ∙ append-nil (openings before) in
      let names : numbers (goes.front ++ one ∷ goes.back) ≡ openings before = ap numbers (sym goes.before) ∙ stands.are in
      record {
        are = ap numbers goes.after ∙ numbers-on goes.front goes.back one other next.conn ∙ names ∙ sym more;
        apart = subst AreApart (sym more) stands.apart;
        each = subst (λ h. AreSound h new.opened) (sym goes.history) (subst (AreSound (old.history ++ map (event_on one.conn) goes.piece)) (sym goes.after)
            (sounds-on old.history goes.piece goes.front goes.back one other (subst AreApart (sym names) stands.apart)
            (subst (AreSound old.history) goes.before stands.each) next goes.past));
        quiet = λ conn lacks.
            let lacked : Lacks conn (openings before) = subst (Lacks conn) more lacks in
            ap (trace_of conn) goes.history
            ∙ behind-other one.conn conn old.history goes.piece (lacks-middle goes.front goes.back one conn (subst (Lacks conn) (sym names) lacked))
            ∙ stands.quiet conn lacked;
      }

  one-sound : (before : List ScriptLine) (old new : ScriptState) (one other : OpenConnection) → Stands before old → IsLineStep old one other new → IsConsistentOn s old.history one
  one-sound before old new one other stands goes = sound-at old.history goes.front goes.back one (subst (AreSound old.history) goes.before stands.each)

  pub one-course : (before : List ScriptLine) (old new : ScriptState) (one other : OpenConnection) → Stands before old → IsLineStep old one other new → IsValidState (script_context s one.conn) one.course
  one-course before old new one other stands goes = (one-sound before old new one other stands goes).course

  pub one-spelled : (before : List ScriptLine) (old new : ScriptState) (one other : OpenConnection) → Stands before old → IsLineStep old one other new → Spells one
  one-spelled before old new one other stands goes =
      let sound = one-sound before old new one other stands goes in
      subst (λ b. AreSpelled s.table one.words s.loads b one.loads) (sym sound.past) sound.spelled

  sound-new : (h : History) (conn words : ℕ) → trace_of conn h ≡ [] → IsConsistentOn s h (new_connection conn words)
  sound-new h conn words none = record {
    past = sym none;
    course = laws.begins (script_context s conn);
    spelled = subst (λ b. AreSpelled s.table words s.loads b []) (sym none) refl;
  }

  sounds-more : (h : History) (os : List OpenConnection) (o : OpenConnection) → AreSound h os → IsConsistentOn s h o → AreSound h (os ++ o ∷ [])
  sounds-more h [] o each sound = (sound, tt)
  sounds-more h (x ∷ os) o each sound = (each.0, sounds-more h os o each.1 sound)

  lacks-front : (conn : ℕ) (xs ys : List ℕ) → Lacks conn (xs ++ ys) → Lacks conn xs
  lacks-front conn [] ys lacks = tt
  lacks-front conn (x ∷ xs) ys lacks = (lacks.0, lacks-front conn xs ys lacks.1)

  opening-stands : (before : List ScriptLine) (old : ScriptState) (conn words : ℕ) → IsAllowedAfter s.loads s.declared.policies before (line.Conn conn words) → Stands before old
      → Stands (before ++ line.Conn conn words ∷ []) (record { opened = old.opened ++ new_connection conn words ∷ []; history = old.history })
  opening-stands before old conn words allows stands =
      let lacks : Lacks conn (openings before) = lacks-unopened before conn (unopened s.loads s.declared.policies before conn words _ refl allows) in
      let more : openings (before ++ line.Conn conn words ∷ []) ≡ openings before ++ conn ∷ [] = openings-append before (line.Conn conn words ∷ []) in
      record {
        are = map-append (λ (o : OpenConnection). o.conn) old.opened (new_connection conn words ∷ []) ∙ ap (λ ns. ns ++ conn ∷ []) stands.are ∙ sym more;
        apart = subst AreApart (sym more) (apart-more (openings before) conn lacks stands.apart);
        each = sounds-more old.history old.opened (new_connection conn words) stands.each (sound-new old.history conn words (stands.quiet conn lacks));
        quiet = λ other lacked. stands.quiet other (lacks-front other (openings before) (conn ∷ []) (subst (Lacks other) more lacked));
      }

  pub step-stands : (before : List ScriptLine) (l : ScriptLine) (old new : ScriptState) → IsAllowedAfter s.loads s.declared.policies before l
      → Stands before old → IsScriptStep s old l new → Stands (before ++ l ∷ []) new
  step-stands before l old new allows stands (opens conn words is makes) =
      subst (λ k. Stands (before ++ k ∷ []) new) (sym is) (subst (Stands (before ++ line.Conn conn words ∷ [])) (sym makes)
      (opening-stands before old conn words (subst (IsAllowedAfter s.loads s.declared.policies before) is allows) stands))
  step-stands before l old new allows stands (advances one other events_of does goes) =
      goes-stand before l old new one other (does-opens-none l one other does) stands goes
      (does-next l one other (one-course before old new one other stands goes) (one-spelled before old new one other stands goes) does)

  pub leads-stand : (before lines : List ScriptLine) (old new : ScriptState) → AreAllowed s.loads s.declared.policies before lines
      → Stands before old → IsStateAfter s old lines new → Stands (before ++ lines) new
  leads-stand before [] old new allowed stands same = subst (λ ls. Stands ls new) (sym (append-nil before)) (subst (Stands before) (sym same) stands)
  leads-stand before (l ∷ lines) old new allowed stands leads =
      subst (λ ls. Stands ls new) (append_assoc before (l ∷ []) lines)
      (leads-stand (before ++ l ∷ []) lines leads.0 new allowed.1 (step-stands before l old leads.0 allowed.0 stands leads.1) leads.2)

  pub start-stands : Stands [] start
  start-stands = record { are = refl; apart = tt; each = tt; quiet = λ conn lacks. refl }
