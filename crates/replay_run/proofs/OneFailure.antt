-- Two sends that fail after the same number of sends are the same.
use Rattle.std.proofs.Common.{◌≡◌, ℕ, ◌+◌, ◌<◌, ◌≤◌, ◌⊎◌, inl, inr, List, [], ◌∷◌, ◌++◌, length, map, reverse}
use Rattle.std.proofs.Common.{refl, sym, ap, ◌∙◌, subst, append_assoc, append-nil, length-append, arith}
use Rattle.std.specs.Prelude.{None}
use Rattle.std.specs.List.{AllByRecursion}
use Rattle.mrpc_table.specs.declared.call.Call.{Call}
use Rattle.mrpc_table.specs.declared.table.Table.{Table}
use Rattle.engine_core.specs.Moves.{first_at}
use Rattle.replay_script.specs.Lines.{AreAllowed, IsScript, conn_of}
use Rattle.replay_script.specs.declared.script.ScriptLine.{ScriptLine}
use Rattle.replay_script.specs.declared.script.ScriptLine.TheVariants as line
use Rattle.replay_script.specs.declared.script.Script.{Script}
use Rattle.call_history.specs.Trace.{Trace, chain}
use Rattle.call_history.specs.Draining.{HasPartlyDrained, HasSentSome}
use Rattle.call_history.specs.Transitions.{IsTransition, ConnState, IsValidState, IsReady, fails, sends, takes, is_away, changes, rises, stays, has_turn, is_sent, link_failed}
use Rattle.call_history.specs.Frames.{frames, frames_of_trace, frames_sent_by}
use Rattle.call_history.specs.Legal.{trace_of}
use Rattle.call_history.specs.Rules.{JudgeContext}
use Rattle.call_history.specs.declared.happening.Happening.{Happening}
use Rattle.call_history.specs.declared.happening.Happening.TheVariants.{Sent}
use Rattle.replay_run.specs.Follows.{OpenConnection, ScriptState, start, script_context, with_state, IsLineEffect, IsSendFailure, CanSendAt, by_drain, by_send}
use Rattle.replay_run.specs.Follows.{IsLineStep, IsScriptStep, opens, advances, event_on, IsStateAfter, FollowsUntil}
use Rattle.replay_run.specs.Consistency.{IsConsistentOn}
use Rattle.replay_run.specs.Tickets.{tickets}
use Rattle.replay_run.proofs.Adds.{Adds, IsOfDrain, IsOfTurn, adds-nothing, sends-add, turning-adds}
use Rattle.replay_run.proofs.Broken.{frames-failed}
use Rattle.replay_run.proofs.Followed.{allowed-front, front-stands}
use Rattle.replay_run.proofs.GivenLaws.{HistoryLaws}
use Rattle.replay_run.proofs.NextTicket.{IsInTurn, earlier}
use Rattle.replay_run.proofs.OneDrain.{by_one, drains-alike, no-first, no_more, none-sent, one-ready, sends-by}
use Rattle.replay_run.proofs.OneLaws.{OneLaws}
use Rattle.replay_run.proofs.OneLine.{DoesBy, DrainsAll, Idles, SendsOne, does-by}
use Rattle.replay_run.proofs.OneScript.{AreCounted, counted-before, counted-in-turn, goes-alike, goes-in-turn, leads-alike, leads-grow, together}
use Rattle.replay_run.proofs.Pasts.{IsAny}
use Rattle.replay_run.proofs.Pieces.{frames-further, frames-more}
use Rattle.replay_run.proofs.Sound.{Stands, behind-own, one-course, sound-at, start-stands}

-- ---- the number of sent calls

-- on a connection
abbrev many : Table → ℕ → Trace → ℕ
many T conn past = length (frames_of_trace T conn past)

record Hands (T : Table) (conn : ℕ) (old new : Trace) : Type 0 where
  more : List (List ℕ)
  is : frames_of_trace T conn new ≡ frames_of_trace T conn old ++ more

hands-over : (T : Table) (conn : ℕ) (up old : Trace) → Hands T conn old (up ++ old)
hands-over T conn [] old = record { more = []; is = sym (append-nil (frames_of_trace T conn old)) }
hands-over T conn (x ∷ up) old =
    let rest : Hands T conn old (up ++ old) = hands-over T conn up old in
    let now : List (List ℕ) = frames_sent_by T conn x (up ++ old) in
    record {
      more = rest.more ++ now;
      is = ap (λ fs. fs ++ now) rest.is ∙ append_assoc (frames_of_trace T conn old) rest.more now;
    }

hands-by : (T : Table) (conn : ℕ) (P : Happening → Type 0) (old new : Trace) → Adds P old new → Hands T conn old new
hands-by T conn P old new adds = subst (Hands T conn old) (sym adds.is) (hands-over T conn adds.more old)

no-fewer : (T : Table) (conn : ℕ) (P : Happening → Type 0) (old new : Trace) → Adds P old new → many T conn old ≤ many T conn new
no-fewer T conn P old new adds =
    let hands : Hands T conn old new = hands-by T conn P old new adds in
    let long : many T conn new ≡ length (frames_of_trace T conn old ++ hands.more) = ap length hands.is in
    omega (arith, long, length-append (frames_of_trace T conn old) hands.more)

-- a call that is sent adds one
sent-past : (u : JudgeContext) (old : ConnState) (seq bytes : ℕ) (new : ConnState) → IsTransition u old (sends seq bytes) new → new.past ≡ Sent seq bytes ∷ old.past
sent-past u old seq bytes new (takes call is going may makes) = absurd cc
sent-past u old seq bytes new (is_away method number addr is full makes) = absurd cc
sent-past u old seq bytes new (changes step is made makes) = absurd cc
sent-past u old seq bytes new (rises ms is later makes) = absurd cc
sent-past u old seq bytes new (stays ms is before makes) = absurd cc
sent-past u old seq bytes new (has_turn position s outcome e is turn makes) = absurd cc
sent-past u old seq bytes new (is_sent s b is going ready makes) =
    let number : s ≡ seq = cc in
    let long : b ≡ bytes = cc in
    ap (λ (c : ConnState). c.past) makes ∙ (λ i. Sent (number i) (long i) ∷ old.past)
sent-past u old seq bytes new (link_failed is makes) = absurd cc

one-more : (T : Table) (conn : ℕ) (u : JudgeContext) (old : ConnState) (seq bytes : ℕ) (new : ConnState) → IsTransition u old (sends seq bytes) new → many T conn new.past ≡ many T conn old.past + 1
one-more T conn u old seq bytes new comes =
    ap (many T conn) (sent-past u old seq bytes new comes)
    ∙ length-append (frames_of_trace T conn old.past) (frames_sent_by T conn (Sent seq bytes) old.past)

-- sends add to the number, unless there are none
sends-more : (T : Table) (conn : ℕ) (u : JudgeContext) (old new : ConnState) → HasSentSome u old new → (new ≡ old) ⊎ (many T conn old.past < many T conn new.past)
sends-more T conn u old new some = elim (sends-by u old new some) [
  | no_more same ↦ inl same
  | by_one between seq bytes comes rest ↦ (
      let first : many T conn between.past ≡ many T conn old.past + 1 = one-more T conn u old seq bytes between comes in
      let others : many T conn between.past ≤ many T conn new.past = no-fewer T conn IsOfDrain between.past new.past (sends-add u between new rest) in
      inr (omega (arith, first, others))
      )
]

at-least : (xs ys zs : List (List ℕ)) → ys ≡ xs ++ zs → length xs ≤ length ys
at-least xs ys zs is = let long : length ys ≡ length (xs ++ zs) = ap length is in omega (arith, long, length-append xs zs)

-- ---- the positions of two lines

data Places (xs ys : List ScriptLine) (l k : ScriptLine) : Type 0 where
  at_once : xs ≡ ys → l ≡ k → Places xs ys l k
  sooner : (between : List ScriptLine) → ys ≡ xs ++ l ∷ between → Places xs ys l k
  later : (between : List ScriptLine) → xs ≡ ys ++ k ∷ between → Places xs ys l k

further : (z : ScriptLine) (xs ys : List ScriptLine) (l k : ScriptLine) → Places xs ys l k → Places (z ∷ xs) (z ∷ ys) l k
further z xs ys l k (at_once same is) = at_once (ap (λ zs. z ∷ zs) same) is
further z xs ys l k (sooner between is) = sooner between (ap (λ zs. z ∷ zs) is)
further z xs ys l k (later between is) = later between (ap (λ zs. z ∷ zs) is)

places : (xs ys : List ScriptLine) (l k : ScriptLine) (ls ks : List ScriptLine) → xs ++ l ∷ ls ≡ ys ++ k ∷ ks → Places xs ys l k
places [] [] l k ls ks is = at_once refl cc
places [] (z ∷ ys) l k ls ks is = let first : z ≡ l = cc in sooner ys (ap (λ v. v ∷ ys) first)
places (z ∷ xs) [] l k ls ks is = let first : z ≡ k = cc in later xs (ap (λ v. v ∷ xs) first)
places (z ∷ xs) (w ∷ ys) l k ls ks is =
    let first : w ≡ z = cc in
    subst (λ v. Places (z ∷ xs) (v ∷ ys) l k) (sym first) (further z xs ys l k (places xs ys l k ls ks cc))

record Parts (s : Script) (old : ScriptState) (xs ys : List ScriptLine) (new : ScriptState) : Type 0 where
  mid : ScriptState
  front : IsStateAfter s old xs mid
  back : IsStateAfter s mid ys new

parts : (s : Script) (old : ScriptState) (xs ys : List ScriptLine) (new : ScriptState) → IsStateAfter s old (xs ++ ys) new → Parts s old xs ys new
parts s old [] ys new leads = record { mid = old; front = refl; back = leads }
parts s old (x ∷ xs) ys new leads =
    let rest : Parts s leads.0 xs ys new = parts s leads.0 xs ys new leads.2 in
    record { mid = rest.mid; front = (leads.0, leads.1, rest.front); back = rest.back }

-- ---- one connection

module _ (laws : OneLaws) (s : Script) (told : (tenant window : ℕ) → List ℕ) (one : OpenConnection) (course : IsValidState (script_context s one.conn) one.course) where
  abbrev u : JudgeContext
  u = script_context s one.conn

  abbrev TurnsInTurn : Trace → Type 0
  TurnsInTurn past = IsInTurn told one.course.past past

  abbrev count : ConnState → ℕ
  count c = many s.table one.conn c.past

  not-ready : (a b : ConnState) (seq bytes : ℕ) → a ≡ b → first_at (length (chain a.past).entries) a.row ≡ None → IsReady u b seq bytes → ⊥
  not-ready a b seq bytes same empty ready =
      no-first (seq, length (chain b.past).entries) (sym empty ∙ ap (λ (k : ConnState). first_at (length (chain k.past).entries) k.row) same ∙ ready.first)

  sending-more : (at : ConnState) (seq bytes : ℕ) (other : OpenConnection) → at ≡ one.course → IsReady u at seq bytes
      → Idles (length (chain one.course.past).entries) one other ⊎ SendsOne s one other
      → count at < count other.course
  sending-more at seq bytes other same ready (inl idle) = absurd (not-ready one.course at seq bytes (sym same) idle.empty ready)
  sending-more at seq bytes other same ready (inr sent) =
      let more : count sent.course ≡ count one.course + 1 = one-more s.table one.conn u one.course sent.seq sent.bytes sent.course sent.comes in
      let here : count at ≡ count one.course = ap count same in
      let there : count other.course ≡ count sent.course = ap (λ (o : OpenConnection). count o.course) sent.effect in
      omega (arith, more, here, there)

  draining-more : (at : ConnState) (seq bytes : ℕ) (other : OpenConnection) → HasPartlyDrained u one.course at → IsReady u at seq bytes → DrainsAll s one other → TurnsInTurn at.past
      → TurnsInTurn other.course.past → count at < count other.course
  draining-more at seq bytes other begins ready all turn-at turn-other =
      let turn-all : TurnsInTurn all.course.past = subst (λ (o : OpenConnection). TurnsInTurn o.course.past) all.effect turn-other in
      let there : count other.course ≡ count all.course = ap (λ (o : OpenConnection). count o.course) all.effect in
      elim (drains-alike laws u told one.course.past one.course at all.course course (adds-nothing IsAny one.course.past) begins all.drained.begins turn-at turn-all) [
        | inl some ↦ elim (sends-more s.table one.conn u at all.course some) [
          | inl same ↦ absurd (not-ready all.course at seq bytes same all.drained.none_ready ready)
          | inr more ↦ omega (arith, there, more)
        ]
        | inr some ↦ absurd (not-ready all.course at seq bytes (sym (none-sent u all.course at all.drained.none_ready some)) all.drained.none_ready ready)
      ]

  -- a full line sends more calls than one whose send fails
  pub whole-more : (l : ScriptLine) (tried : Call) (other whole : OpenConnection) (f : IsSendFailure s l one tried other) → IsLineEffect s l one whole → TurnsInTurn f.at.past → TurnsInTurn whole.course.past
      → count f.at < count whole.course
  whole-more l tried other whole f does turn-at turn-whole = elim (f.gets) [
    | by_send is same ↦ sending-more f.at f.seq f.bytes whole same f.ready (subst (λ k. DoesBy s k one whole) is (does-by s l one whole does))
    | by_drain is begins ↦ draining-more f.at f.seq f.bytes whole begins f.ready (subst (λ k. DoesBy s k one whole) is (does-by s l one whole does)) turn-at turn-whole
  ]

  gets-alike : (l : ScriptLine) (a b : ConnState) → CanSendAt s l one a → CanSendAt s l one b → TurnsInTurn a.past → TurnsInTurn b.past → count a ≡ count b → a ≡ b
  gets-alike l a b (by_send is same) (by_send is_too same_too) turn-a turn-b counts = same ∙ sym same_too
  gets-alike l a b (by_send is same) (by_drain is_too begins) turn-a turn-b counts = let wrong : line.Send one.conn ≡ line.Drain one.conn = sym is ∙ is_too in absurd cc
  gets-alike l a b (by_drain is begins) (by_send is_too same) turn-a turn-b counts = let wrong : line.Drain one.conn ≡ line.Send one.conn = sym is ∙ is_too in absurd cc
  gets-alike l a b (by_drain is begins) (by_drain is_too begins_too) turn-a turn-b counts =
      elim (drains-alike laws u told one.course.past one.course a b course (adds-nothing IsAny one.course.past) begins begins_too turn-a turn-b) [
        | inl some ↦ elim (sends-more s.table one.conn u a b some) [ inl same ↦ sym same | inr more ↦ absurd (omega (arith, counts, more)) ]
        | inr some ↦ elim (sends-more s.table one.conn u b a some) [ inl same ↦ same | inr more ↦ absurd (omega (arith, counts, more)) ]
      ]

  pub failures-alike : (l : ScriptLine) (tried instead : Call) (x y : OpenConnection) (f : IsSendFailure s l one tried x) (g : IsSendFailure s l one instead y) → TurnsInTurn f.at.past → TurnsInTurn g.at.past
      → count f.at ≡ count g.at → (tried ≡ instead) × (x ≡ y)
  failures-alike l tried instead x y f g turn-f turn-g counts =
      let at : f.at ≡ g.at = gets-alike l f.at g.at f.gets g.gets turn-f turn-g counts in
      let ready = one-ready u f.at g.at at f.seq g.seq f.bytes g.bytes f.ready g.ready in
      let ends : x.course ≡ y.course = laws.end u f.at x.course y.course fails f.refused (subst (λ (c : ConnState). IsTransition u c fails y.course) (sym at) g.refused) in
      (f.is_tried ∙ ready.call ∙ sym g.is_tried, f.same ∙ ap (with_state one) ends ∙ sym g.same)

-- ---- all connections

module _ (laws : OneLaws) (s : Script) where
  abbrev h-laws : HistoryLaws
  h-laws = laws.history

  abbrev all : ScriptState → ℕ
  all st = length (frames s.table st.history)

  -- the sends of one connection are sends of all
  goes-count : (before : List ScriptLine) (old new : ScriptState) (one other : OpenConnection) (c : ConnState) → Stands h-laws s before old → IsLineStep old one other new
      → frames_of_trace s.table one.conn other.course.past ≡ frames_of_trace s.table one.conn c.past
      → all new + many s.table one.conn one.course.past ≡ all old + many s.table one.conn c.past
  goes-count before old new one other c stands goes same =
      let T : Table = s.table in
      let here : one.course.past ≡ trace_of one.conn old.history =
      (sound-at h-laws s old.history goes.front goes.back one
      (subst (λ os. AllByRecursion (IsConsistentOn s old.history) os) goes.before stands.each)).past in
      let now : other.course.past ≡ trace_of one.conn (old.history ++ map (event_on one.conn) goes.piece) =
      goes.past ∙ ap (λ p. reverse goes.piece ++ p) here ∙ sym (behind-own h-laws s one.conn old.history goes.piece) in
      let hands : Hands T one.conn one.course.past other.course.past =
      subst (Hands T one.conn one.course.past) (sym goes.past)
      (hands-over T one.conn (reverse goes.piece) one.course.past) in
      let history : frames T (old.history ++ map (event_on one.conn) goes.piece) ≡ frames T old.history ++ hands.more =
      frames-more h-laws T one.conn old.history goes.piece hands.more
      (ap (frames_of_trace T one.conn) (sym now) ∙ hands.is ∙ ap (λ p. frames_of_trace T one.conn p ++ hands.more) here) in
      let a : all new ≡ length (frames T old.history ++ hands.more) = ap length (ap (frames T) goes.history ∙ history) in
      let b : many T one.conn c.past ≡ length (frames_of_trace T one.conn one.course.past ++ hands.more) = ap length (sym same ∙ hands.is) in
      omega (arith, a, b, length-append (frames T old.history) hands.more, length-append (frames_of_trace T one.conn one.course.past) hands.more)

  no-fewer-later : (old : ScriptState) (lines : List ScriptLine) (new : ScriptState) → IsStateAfter s old lines new → all old ≤ all new
  no-fewer-later old lines new leads =
      let grows = leads-grow laws s old lines new leads in
      at-least (frames s.table old.history) (frames s.table new.history) _ (ap (frames s.table) grows.is ∙ frames-further h-laws s.table old.history grows.more)

  -- a send that fails, with what is known of it
  record Failure (x : ScriptState) (lines : List ScriptLine) (l : ScriptLine) (before : ScriptState) (one other : OpenConnection) (tried : Call) : Type 0 where
    stands : Stands h-laws s lines before
    goes : IsLineStep before one other x
    failing : IsSendFailure s l one tried other
    counted : AreCounted x.history

  fails-on : (l : ScriptLine) (o p : OpenConnection) (call : Call) → IsSendFailure s l o call p → conn_of l ≡ o.conn
  fails-on l o p call failing = elim (failing.gets) [ by_send is same ↦ ap conn_of is | by_drain is begins ↦ ap conn_of is ]

  abbrev told : ScriptState → (tenant window : ℕ) → List ℕ
  told st tenant window = tickets tenant window st.history

  module _ (x : ScriptState) (lines : List ScriptLine) (l : ScriptLine) (before : ScriptState) (one other : OpenConnection) (tried : Call) (f : Failure x lines l before one other tried) where
    failed-in-turn : IsInTurn (told before) one.course.past f.failing.at.past
    failed-in-turn = earlier (told before) one.course.past IsOfTurn f.failing.at.past other.course.past (turning-adds (script_context s one.conn) f.failing.at fails other.course tt f.failing.refused)
        (goes-in-turn laws s lines before x one other f.stands f.goes f.counted)

    failed-count : all x + many s.table one.conn one.course.past ≡ all before + many s.table one.conn f.failing.at.past
    failed-count = goes-count lines before x one other f.failing.at f.stands f.goes
        (frames-failed s.table one.conn (script_context s one.conn) f.failing.at other.course f.failing.refused)

    before-counted : AreCounted before.history
    before-counted = counted-before laws s before.history (map (event_on one.conn) f.goes.piece) (subst AreCounted f.goes.history f.counted)

    no-opening : (conn words : ℕ) → l ≡ line.Conn conn words → CanSendAt s l one f.failing.at → ⊥
    no-opening conn words is (by_send sends_it same) = let wrong : line.Conn conn words ≡ line.Send one.conn = sym is ∙ sends_it in absurd cc
    no-opening conn words is (by_drain drains_it begins) = let wrong : line.Conn conn words ≡ line.Drain one.conn = sym is ∙ drains_it in absurd cc

    -- after a full line more calls were sent
    line-more : (next : ScriptState) → IsScriptStep s before l next → AreCounted next.history → all x < all next
    line-more next (opens conn words is makes) counted = absurd (no-opening conn words is f.failing.gets)
    line-more next (advances two another on does goes) counted =
        let same_number : one.conn ≡ two.conn = sym (fails-on l one other tried f.failing) ∙ on in
        let same : one ≡ two = goes-alike laws s lines before x next one other two another f.stands f.goes goes same_number in
        let goes_so : IsLineStep before one another next = subst (λ (o : OpenConnection). IsLineStep before o another next) (sym same) goes in
        let does_so : IsLineEffect s l one another = subst (λ (o : OpenConnection). IsLineEffect s l o another) (sym same) does in
        let more = whole-more laws s (told before) one (one-course h-laws s lines before x one other f.stands f.goes) l tried other another f.failing does_so failed-in-turn
        (goes-in-turn laws s lines before next one another f.stands goes_so counted) in
        let whole = goes-count lines before next one another another.course f.stands goes_so refl in
        omega (arith, more, whole, failed-count)

  failure-of : (x : ScriptState) (tried : Call) → IsScript s → (a : FollowsUntil s tried x) → Failure x a.until.lines a.until.failing a.until.before a.until.one a.until.other tried
  failure-of x tried script a = record {
    stands = front-stands h-laws s script a.until.lines (a.until.failing ∷ a.until.behind) a.until.before a.until.order a.until.leads;
    goes = a.until.goes;
    failing = a.until.fails;
    counted = counted-in-turn x.history a.in_turn;
  }

  module _ (script : IsScript s) where
    -- no line whose send fails comes before one that fails after the same number of sends
    never-sooner : (x y : ScriptState) (tried instead : Call) (a : FollowsUntil s tried x) (b : FollowsUntil s instead y)
        (between : List ScriptLine) → b.until.lines ≡ a.until.lines ++ a.until.failing ∷ between
        → all x ≡ all y → ⊥
    never-sooner x y tried instead a b between is counts =
        let f = failure-of x tried script a in
        let g = failure-of y instead script b in
        let cut = parts s start a.until.lines (a.until.failing ∷ between) b.until.before (subst (λ ls. IsStateAfter s start ls b.until.before) is b.until.leads) in
        let grown = leads-grow laws s cut.mid (a.until.failing ∷ between) b.until.before cut.back in
        let counted_mid : AreCounted cut.mid.history = counted-before laws s cut.mid.history grown.more
        (subst AreCounted grown.is (before-counted y b.until.lines b.until.failing b.until.before b.until.one b.until.other instead g)) in
        let allowed = allowed-front s.loads s.declared.policies [] a.until.lines (a.until.failing ∷ a.until.behind)
        (subst (AreAllowed s.loads s.declared.policies []) a.until.order script.lines) in
        let same : cut.mid ≡ a.until.before =
        leads-alike laws s [] a.until.lines start cut.mid a.until.before allowed (start-stands h-laws s) cut.front a.until.leads counted_mid
        (before-counted x a.until.lines a.until.failing a.until.before a.until.one a.until.other tried f) in
        let back = subst (λ (st : ScriptState). IsStateAfter s st (a.until.failing ∷ between) b.until.before) same cut.back in
        let rest = leads-grow laws s back.0 between b.until.before back.2 in
        let counted_next : AreCounted back.0.history = counted-before laws s back.0.history rest.more
        (subst AreCounted rest.is (before-counted y b.until.lines b.until.failing b.until.before b.until.one b.until.other instead g)) in
        let more : all x < all back.0 = line-more x a.until.lines a.until.failing a.until.before a.until.one a.until.other tried f back.0 back.1 counted_next in
        let longer : all back.0 ≤ all b.until.before = no-fewer-later back.0 between b.until.before back.2 in
        let last : all b.until.before ≤ all y =
        at-least (frames s.table b.until.before.history) (frames s.table y.history) _
        (ap (frames s.table) b.until.goes.history ∙ frames-further h-laws s.table b.until.before.history (map (event_on b.until.one.conn) b.until.goes.piece)) in
        omega (arith, more, longer, last, counts)

    -- two that fail at one line, on the connections of one state
    same-line : (x y : ScriptState) (lines : List ScriptLine) (l : ScriptLine) (before : ScriptState) (one two other another : OpenConnection) (tried instead : Call) → Failure x lines l before one other tried
        → Failure y lines l before two another instead → all x ≡ all y → (tried ≡ instead) × (x ≡ y)
    same-line x y lines l before one two other another tried instead f g counts =
        let same : one ≡ two = goes-alike laws s lines before x y one other two another f.stands f.goes g.goes
        (sym (fails-on l one other tried f.failing) ∙ fails-on l two another instead g.failing) in
        let g_so : Failure y lines l before one another instead = subst (λ (o : OpenConnection). Failure y lines l before o another instead) (sym same) g in
        let count_x = failed-count x lines l before one other tried f in
        let count_y = failed-count y lines l before one another instead g_so in
        let level : many s.table one.conn f.failing.at.past ≡ many s.table one.conn g_so.failing.at.past = omega (arith, count_x, count_y, counts) in
        let alike = failures-alike laws s (told before) one (one-course h-laws s lines before x one other f.stands f.goes) l tried instead other another f.failing g_so.failing
        (failed-in-turn x lines l before one other tried f) (failed-in-turn y lines l before one another instead g_so) level in
        (alike.0, together laws s lines before x y one other one another f.stands f.goes g_so.goes refl alike.1)

    same-place : (x y : ScriptState) (tried instead : Call) (a : FollowsUntil s tried x) (b : FollowsUntil s instead y) → a.until.lines ≡ b.until.lines → a.until.failing ≡ b.until.failing
        → all x ≡ all y → (tried ≡ instead) × (x ≡ y)
    same-place x y tried instead a b same_lines same_line counts =
        let f = failure-of x tried script a in
        let g = failure-of y instead script b in
        let allowed = allowed-front s.loads s.declared.policies [] a.until.lines (a.until.failing ∷ a.until.behind)
        (subst (AreAllowed s.loads s.declared.policies []) a.until.order script.lines) in
        let same : a.until.before ≡ b.until.before =
        leads-alike laws s [] a.until.lines start a.until.before b.until.before allowed (start-stands h-laws s) a.until.leads
        (subst (λ ls. IsStateAfter s start ls b.until.before) (sym same_lines) b.until.leads)
        (before-counted x a.until.lines a.until.failing a.until.before a.until.one a.until.other tried f)
        (before-counted y b.until.lines b.until.failing b.until.before b.until.one b.until.other instead g) in
        let g_here : Failure y a.until.lines a.until.failing a.until.before b.until.one b.until.other instead =
        subst (λ ls. Failure y ls a.until.failing a.until.before b.until.one b.until.other instead) (sym same_lines)
        (subst (λ l. Failure y b.until.lines l a.until.before b.until.one b.until.other instead) (sym same_line)
        (subst (λ (st : ScriptState). Failure y b.until.lines b.until.failing st b.until.one b.until.other instead) (sym same) g)) in
        same-line x y a.until.lines a.until.failing a.until.before a.until.one b.until.one a.until.other b.until.other tried instead f g_here counts

    pub until-alike : (x y : ScriptState) (tried instead : Call) → FollowsUntil s tried x → FollowsUntil s instead y → all x ≡ all y → (tried ≡ instead) × (x ≡ y)
    until-alike x y tried instead a b counts =
        elim (places a.until.lines b.until.lines a.until.failing b.until.failing a.until.behind b.until.behind (sym a.until.order ∙ b.until.order)) [
          | at_once same is ↦ same-place x y tried instead a b same is counts
          | sooner between is ↦ absurd (never-sooner x y tried instead a b between is counts)
          | later between is ↦ absurd (never-sooner y x instead tried b a between is (sym counts))
        ]
