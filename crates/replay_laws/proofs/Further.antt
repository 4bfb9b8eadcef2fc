-- A script sends at least as many calls as come before one of its sends that fails, and one more.
use Rattle.std.proofs.Common.{◌≡◌, inl, inr, ℕ, ◌+◌, ◌<◌, ◌≤◌, suc, List, [], ◌∷◌, ◌++◌, length, map, reverse, refl}
use Rattle.std.proofs.Common.{sym, ap, ◌∙◌, subst, append_assoc, append-nil, arith}
use Rattle.std.specs.Prelude.{Some}
use Rattle.std.specs.List.{range_with_len}
use Rattle.std.proofs.lemmas.List.{append_cancel_right, map-append, reverse-append, reverse-reverse}
use Rattle.std.proofs.lemmas.List.Elements.{recursion_from_All}
use Rattle.mrpc_table.specs.declared.call.Call.{Call}
use Rattle.mrpc_table.specs.declared.table.Table.{Table}
use Rattle.engine_core.specs.Moves.{first_at}
use Rattle.policy_declarations.specs.declared.declaration.NamedPolicy.{NamedPolicy}
use Rattle.replay_script.specs.Lines.{AreAllowed, IsScript}
use Rattle.replay_script.specs.declared.script.ScriptLine.{ScriptLine}
use Rattle.replay_script.specs.declared.script.Script.{Script}
use Rattle.call_history.specs.Trace.{chain, pending_calls}
use Rattle.call_history.specs.Draining.{HasPartlyDrained}
use Rattle.call_history.specs.Transitions.{IsTransition, ConnState, IsValidState, fails, refused_for_link, sends, takes}
use Rattle.call_history.specs.Transitions.{is_away as turns_off, changes, rises, stays, has_turn as turns_on}
use Rattle.call_history.specs.Transitions.{is_sent as comes_sent, link_failed}
use Rattle.call_history.specs.Frames.{frames}
use Rattle.call_history.specs.Legal.{History, trace_of}
use Rattle.call_history.specs.Rules.{JudgeContext}
use Rattle.call_history.specs.Tickets.{tickets_drawn_by}
use Rattle.call_history.specs.declared.happening.Happening.{Happening}
use Rattle.call_history.specs.declared.happening.AcceptedCall.{AcceptedCall}
use Rattle.replay_run.specs.Follows.{IsLineEffect, Follows, FollowsUntil, CanSendAt, IsLineStep, IsStateAfter, OpenConnection, ScriptState, IsScriptStep, by_drain, by_send, with_state, advances, event_on, opens, start, script_context}
use Rattle.replay_run.specs.Follows.IsLineEffect.{stores, races, submits, is_away, operates_on, advances_clock, is_idle, has_turn, none_ready, is_sent, drains}
use Rattle.replay_run.specs.Consistency.{IsConsistentOn}
use Rattle.replay_run.specs.Tickets.{AreConsecutive, tickets, tickets_after}
use Rattle.replay_laws.proofs.Adding.{AddsTo, adds-none, begins-add, refusal_of, refused-past, sends-behind}
use Rattle.replay_laws.proofs.Doing.{IsOpen}
use Rattle.replay_laws.proofs.Drains.{leaves, sends-on}
use Rattle.replay_laws.proofs.Found.{IsIn}
use Rattle.replay_laws.proofs.Growing.{GrowthLaws, Grows, grows-then, one-still}
use Rattle.replay_laws.proofs.Scripts.{Known, Laws, all-at, known-line, known-start, known-through, leads-push}
use Rattle.replay_laws.proofs.Turning.{Stands}

-- ---- the tickets of a prefix

counts-front : (a : ℕ) (xs ys : List ℕ) → xs ++ ys ≡ range_with_len a (length (xs ++ ys)) → xs ≡ range_with_len a (length xs)
counts-front a [] ys is = refl
counts-front a (x ∷ xs) ys is =
    let whole : x ∷ (xs ++ ys) ≡ a ∷ range_with_len (a + 1) (length (xs ++ ys)) = is in
    let here : x ≡ a = cc in
    let rest : xs ++ ys ≡ range_with_len (a + 1) (length (xs ++ ys)) = cc in
    ap (λ n. n ∷ xs) here ∙ ap (λ ns. a ∷ ns) (counts-front (a + 1) xs ys rest)

tickets-more : (tenant window : ℕ) (b h k : History) → (more : List ℕ) × (tickets_after tenant window b (h ++ k) ≡ tickets_after tenant window b h ++ more)
tickets-more tenant window b [] k = (tickets_after tenant window b k, refl)
tickets-more tenant window b (x ∷ h) k =
    let now : List ℕ = tickets_drawn_by tenant window x.what (trace_of x.conn b) in
    let rest = tickets-more tenant window (b ++ x ∷ []) h k in
    (rest.0, ap (λ ts. now ++ ts) rest.1 ∙ sym (append_assoc now (tickets_after tenant window (b ++ x ∷ []) h) rest.0))

front-in-turn : (h k : History) → AreConsecutive (h ++ k) → AreConsecutive h
front-in-turn h k turn tenant window =
    let more = tickets-more tenant window [] h k in
    counts-front 0 (tickets tenant window h) more.0
    (subst (λ ts. ts ≡ range_with_len 0 (length ts)) more.1 (turn tenant window))

-- ---- a script with some of the lines

abbrev with_lines : Script → List ScriptLine → Script
with_lines s lines = record { loads = s.loads; table = s.table; declared = s.declared; lines = lines }

does-in : (s : Script) (lines : List ScriptLine) (l : ScriptLine) (old new : OpenConnection) → IsLineEffect s l old new → IsLineEffect (with_lines s lines) l old new
does-in s lines l old new (stores place value is makes) = stores place value is makes
does-in s lines l old new (races load place value is makes) = races load place value is makes
does-in s lines l old new (submits call own c is after reads loaded comes makes) = submits call own c is after reads loaded comes makes
does-in s lines l old new (is_away method number addr c is comes makes) = is_away method number addr c is comes makes
does-in s lines l old new (operates_on step c is comes makes) = operates_on step c is comes makes
does-in s lines l old new (advances_clock ms c is comes makes) = advances_clock ms c is comes makes
does-in s lines l old new (is_idle position is empty makes) = is_idle position is empty makes
does-in s lines l old new (has_turn position seq outcome c is comes makes) = has_turn position seq outcome c is comes makes
does-in s lines l old new (none_ready is empty makes) = none_ready is empty makes
does-in s lines l old new (is_sent seq bytes c is comes makes) = is_sent seq bytes c is comes makes
does-in s lines l old new (drains c is drained makes) = drains c is drained makes

step-in : (s : Script) (lines : List ScriptLine) (l : ScriptLine) (old new : ScriptState) → IsScriptStep s old l new → IsScriptStep (with_lines s lines) old l new
step-in s lines l old new (opens conn words is makes) = opens conn words is makes
step-in s lines l old new (advances one other on does goes) = advances one other on (does-in s lines l one other does) goes

leads-in : (s : Script) (lines : List ScriptLine) (some : List ScriptLine) (old new : ScriptState) → IsStateAfter s old some new → IsStateAfter (with_lines s lines) old some new
leads-in s lines [] old new same = same
leads-in s lines (l ∷ some) old new leads = (leads.0, step-in s lines l old leads.0 leads.1, leads-in s lines some leads.0 new leads.2)

allowed-front : (loads : ℕ) (policies : List NamedPolicy) (before xs ys : List ScriptLine) → AreAllowed loads policies before (xs ++ ys) → AreAllowed loads policies before xs
allowed-front loads policies before [] ys allowed = tt
allowed-front loads policies before (l ∷ xs) ys allowed = (allowed.0, allowed-front loads policies (before ++ l ∷ []) xs ys allowed.1)

allowed-rest : (loads : ℕ) (policies : List NamedPolicy) (before xs ys : List ScriptLine) → AreAllowed loads policies before (xs ++ ys) → AreAllowed loads policies (before ++ xs) ys
allowed-rest loads policies before [] ys allowed = subst (λ ls. AreAllowed loads policies ls ys) (sym (append-nil before)) allowed
allowed-rest loads policies before (l ∷ xs) ys allowed =
    subst (λ ls. AreAllowed loads policies ls ys) (append_assoc before (l ∷ []) xs) (allowed-rest loads policies (before ++ l ∷ []) xs ys allowed.1)

script-in : (s : Script) (xs ys : List ScriptLine) → IsScript s → s.lines ≡ xs ++ ys → IsScript (with_lines s xs)
script-in s xs ys script order = record {
  table = script.table;
  loads_from = script.loads_from;
  loads_to = script.loads_to;
  declared = script.declared;
  lines = allowed-front s.loads s.declared.policies [] xs ys (subst (AreAllowed s.loads s.declared.policies []) order script.lines);
}

-- ---- a part of a history

pub record FurtherLaws : Type 0 where
  pub below : Laws
  pub begins : (u : JudgeContext) (old new : ConnState) → IsValidState u old → HasPartlyDrained u old new → IsValidState u new
  pub one : (s : Script) (end other : ScriptState) → IsScript s → Follows s end → Follows s other → end ≡ other

module _ (laws : GrowthLaws) (conn : ℕ) where
  piece-behind : (h : History) (piece : List Happening) → trace_of conn (h ++ map (event_on conn) piece) ≡ reverse piece ++ trace_of conn h
  piece-behind h [] = ap (trace_of conn) (append-nil h)
  piece-behind h (x ∷ piece) =
      ap (trace_of conn) (sym (append_assoc h (event_on conn x ∷ []) (map (event_on conn) piece)))
      ∙ piece-behind (h ++ event_on conn x ∷ []) piece
      ∙ ap (λ p. reverse piece ++ p) (laws.one_more conn h (event_on conn x) refl)
      ∙ sym (append_assoc (reverse piece) (x ∷ []) (trace_of conn h))
      ∙ ap (λ p. p ++ trace_of conn h) (sym (reverse-append (x ∷ []) piece))

  refusals-send-none : (T : Table) (h : History) (calls : List AcceptedCall) → length (frames T (h ++ map (event_on conn) (map refusal_of calls))) ≡ length (frames T h)
  refusals-send-none T h [] = ap (λ k. length (frames T k)) (append-nil h)
  refusals-send-none T h (call ∷ calls) =
      ap (λ k. length (frames T k)) (sym (append_assoc h (event_on conn (refusal_of call) ∷ []) (map (event_on conn) (map refusal_of calls))))
      ∙ refusals-send-none T (h ++ event_on conn (refusal_of call) ∷ []) calls
      ∙ one-still laws conn T h (refusal_of call) (λ past. refl)

fails-past : (u : JudgeContext) (old new : ConnState) → IsTransition u old fails new → new.past ≡ refused_for_link (pending_calls old.past) old.past
fails-past u old new (takes call is going may makes) = cc
fails-past u old new (turns_off method number addr is full makes) = cc
fails-past u old new (changes step is made makes) = cc
fails-past u old new (rises ms is later makes) = cc
fails-past u old new (stays ms is earlier makes) = cc
fails-past u old new (turns_on position seq outcome e is turn makes) = cc
fails-past u old new (comes_sent seq bytes is going ready makes) = cc
fails-past u old new (link_failed is makes) = ap (λ (c : ConnState). c.past) makes

-- ---- a line that fails could have continued

-- a line continues, with more sends than this
record Extends (s : Script) (l : ScriptLine) (one : OpenConnection) (h : History) (sent : ℕ) : Type 0 where
  other : OpenConnection
  history : History
  does : IsLineEffect s l one other
  grows : Grows one.conn h one.course.past history other.course.past
  more : sent < length (frames s.table history)

module _ (laws : FurtherLaws) (s : Script) where
  adds-of : (l : ScriptLine) (one : OpenConnection) (at : ConnState) → CanSendAt s l one at → AddsTo one.course at
  adds-of l one at (by_send is same) = subst (AddsTo one.course) (sym same) (adds-none one.course)
  adds-of l one at (by_drain is begins) = begins-add (script_context s one.conn) one.course at begins

  course-of : (l : ScriptLine) (one : OpenConnection) (at : ConnState) → CanSendAt s l one at → IsValidState (script_context s one.conn) one.course → IsValidState (script_context s one.conn) at
  course-of l one at (by_send is same) course = subst (IsValidState (script_context s one.conn)) (sym same) course
  course-of l one at (by_drain is begins) course = laws.begins (script_context s one.conn) one.course at course begins

  extend-by : (l : ScriptLine) (one : OpenConnection) (h i : History) (at : ConnState) → CanSendAt s l one at → Grows one.conn h one.course.past i at.past → Stands (script_context s one.conn) i at
      → (x : ℕ × ℕ) → first_at (length (chain at.past).entries) at.row ≡ Some x → (sent : ℕ) → sent ≡ length (frames s.table i) → Extends s l one h sent
  extend-by l one h i at (by_send is same) grows stands x first sent count =
      let now = leaves laws.below.turns (script_context s one.conn) i at stands x first in
      let more : length (frames s.table now.history) ≡ length (frames s.table i) + 1 = now.count in
      record {
        other = with_state one now.course;
        history = now.history;
        does = is_sent now.seq now.bytes now.course is (subst (λ c. IsTransition (script_context s one.conn) c (sends now.seq now.bytes) now.course) same now.comes) refl;
        grows = grows-then one.conn h i now.history one.course.past at.past now.course.past grows now.grows;
        more = omega arith;
      }
  extend-by l one h i at (by_drain is begins) grows stands x first sent count =
      let u : JudgeContext = script_context s one.conn in
      let now = leaves laws.below.turns u i at stands x first in
      let rest = sends-on laws.below.turns u (suc (length now.course.row)) now.history now.course now.stands (omega arith) in
      let once : length (frames s.table now.history) ≡ length (frames s.table i) + 1 = now.count in
      let later : length (frames s.table now.history) ≤ length (frames s.table rest.history) = rest.more in
      record {
        other = with_state one rest.course;
        history = rest.history;
        does = drains rest.course is (record {
          begins = record {
            between = begins.between;
            passes = begins.passes;
            sent = sends-behind u begins.between at now.course rest.course now.seq now.bytes begins.sent now.comes rest.sent;
          };
          none_ready = rest.none_ready;
        }) refl;
        grows = grows-then one.conn h i rest.history one.course.past at.past rest.course.past grows
            (grows-then one.conn i now.history rest.history at.past now.course.past rest.course.past now.grows rest.grows);
        more = omega arith;
      }

  -- the events up to the send that fails
  record Reached (one : OpenConnection) (at : ConnState) (before end : ScriptState) : Type 0 where
    history : History
    grows : Grows one.conn before.history one.course.past history at.past
    stands : Stands (script_context s one.conn) history at
    count : length (frames s.table end.history) ≡ length (frames s.table history)

  reached : (l : ScriptLine) (one other : OpenConnection) (at : ConnState) (before end : ScriptState) → CanSendAt s l one at → IsTransition (script_context s one.conn) at fails other.course
      → IsLineStep before one other end → IsConsistentOn s before.history one → IsOpen one → AreConsecutive end.history → Reached one at before end
  reached l one other at before end gets refused goes sound opened turn =
      let conn : ℕ = one.conn in
      let adds = adds-of l one at gets in
      let calls : List AcceptedCall = pending_calls at.past in
      let up : List Happening = reverse adds.more in
      let i : History = before.history ++ map (event_on conn) up in
      let over : reverse goes.piece ++ one.course.past ≡ (reverse (map refusal_of calls) ++ adds.more) ++ one.course.past =
      sym goes.past ∙ fails-past (script_context s conn) at other.course refused ∙ refused-past calls at.past
      ∙ ap (λ p. reverse (map refusal_of calls) ++ p) adds.past ∙ sym (append_assoc (reverse (map refusal_of calls)) adds.more one.course.past) in
      let turned : reverse goes.piece ≡ reverse (map refusal_of calls) ++ adds.more =
      append_cancel_right (reverse goes.piece) (reverse (map refusal_of calls) ++ adds.more) one.course.past over in
      let piece : goes.piece ≡ up ++ map refusal_of calls =
      sym (reverse-reverse goes.piece) ∙ ap reverse turned ∙ reverse-append (reverse (map refusal_of calls)) adds.more
      ∙ ap (λ xs. up ++ xs) (reverse-reverse (map refusal_of calls)) in
      let all : end.history ≡ i ++ map (event_on conn) (map refusal_of calls) =
      goes.history ∙ ap (λ xs. before.history ++ map (event_on conn) xs) piece
      ∙ ap (λ k. before.history ++ k) (map-append (event_on conn) up (map refusal_of calls))
      ∙ sym (append_assoc before.history (map (event_on conn) up) (map (event_on conn) (map refusal_of calls))) in
      let past : at.past ≡ reverse up ++ one.course.past = adds.past ∙ ap (λ p. p ++ one.course.past) (sym (reverse-reverse adds.more)) in
      let there : at.past ≡ trace_of conn i =
      past ∙ ap (λ p. reverse up ++ p) sound.past ∙ sym (piece-behind laws.below.turns.growth conn before.history up) in
      let in_turn : AreConsecutive i = front-in-turn i (map (event_on conn) (map refusal_of calls)) (subst AreConsecutive all turn) in
      record {
        history = i;
        grows = record { piece = up; past_is = past; history_is = refl; here = record { at = there; in_turn = in_turn } };
        stands = record { course = course-of l one at gets sound.course; going = adds.going ∙ opened.going; here = record { at = there; in_turn = in_turn } };
        count = ap (λ h. length (frames s.table h)) all ∙ refusals-send-none laws.below.turns.growth conn s.table i calls;
      }

  in-middle : (front back : List OpenConnection) (o : OpenConnection) → IsIn o (front ++ o ∷ back)
  in-middle [] back o = inl refl
  in-middle (x ∷ front) back o = inr (in-middle front back o)

  module _ (script : IsScript s) (tried : Call) (end : ScriptState) (f : FollowsUntil s tried end) where
    abbrev front : List ScriptLine
    front = f.until.lines

    abbrev l : ScriptLine
    l = f.until.failing

    further-order : s.lines ≡ (front ++ l ∷ []) ++ f.until.behind
    further-order = f.until.order ∙ sym (append_assoc front (l ∷ []) f.until.behind)

    allowed : AreAllowed s.loads s.declared.policies [] (front ++ l ∷ f.until.behind)
    allowed = subst (AreAllowed s.loads s.declared.policies []) f.until.order script.lines

    -- what is known before the line
    known-before : Known laws.below s script front f.until.before
    known-before =
        let some = known-through laws.below s script front (l ∷ f.until.behind) [] start f.until.order allowed (known-start laws.below s script) in
        let turn : AreConsecutive f.until.before.history =
        front-in-turn f.until.before.history (map (event_on f.until.one.conn) f.until.goes.piece) (subst AreConsecutive f.until.goes.history f.in_turn) in
        let same : f.until.before ≡ some.end =
        laws.one (with_lines s front) f.until.before some.end (script-in s front (l ∷ f.until.behind) script f.until.order)
        (record { leads = leads-in s front front start f.until.before f.until.leads; in_turn = turn })
        (record { leads = leads-in s front front start some.end some.known.leads; in_turn = some.known.in_turn }) in
        subst (Known laws.below s script front) (sym same) some.known

    extends : Extends s l f.until.one f.until.before.history (length (frames s.table end.history))
    extends =
        let before : ScriptState = f.until.before in
        let one : OpenConnection = f.until.one in
        let there : IsIn one before.opened = subst (λ os. IsIn one os) (sym f.until.goes.before) (in-middle f.until.goes.front f.until.goes.back one) in
        let sound : IsConsistentOn s before.history one =
        all-at (IsConsistentOn s before.history) before.opened one
        (recursion_from_All (IsConsistentOn s before.history) before.opened (laws.below.sound s front (l ∷ f.until.behind) before script f.until.order f.until.leads)) there in
        let opened : IsOpen one = all-at IsOpen before.opened one known-before.opened there in
        let r = reached l one f.until.other f.until.fails.at before end f.until.fails.gets f.until.fails.refused f.until.goes sound opened f.in_turn in
        extend-by l one before.history r.history f.until.fails.at f.until.fails.gets r.grows r.stands (f.until.fails.seq, length (chain f.until.fails.at.past).entries)
        f.until.fails.ready.first (length (frames s.table end.history)) r.count

    pub sends-more : (whole : ScriptState) → Follows s whole → length (frames s.table end.history) < length (frames s.table whole.history)
    sends-more whole follows =
        let e = extends in
        let goes = f.until.goes in
        let gone : ScriptState = record { opened = goes.front ++ e.other ∷ goes.back; history = e.history } in
        let step : IsScriptStep s f.until.before l gone = advances f.until.one e.other f.until.on e.does (record {
          front = goes.front;
          back = goes.back;
          before = goes.before;
          after = refl;
          piece = e.grows.piece;
          past = e.grows.past_is;
          history = e.grows.history_is;
        }) in
        let to : List ScriptLine = front ++ l ∷ [] in
        let policies = s.declared.policies in
        let first = known-line laws.below s script front f.until.behind l f.until.before f.until.order
        (allowed-rest s.loads policies [] front (l ∷ f.until.behind) allowed).0 known-before in
        let same : gone ≡ first.end =
        laws.one (with_lines s to) gone first.end (script-in s to f.until.behind script further-order)
        (record { leads = leads-in s to to start gone (leads-push s start f.until.before gone front l f.until.leads step); in_turn = e.grows.here.in_turn })
        (record { leads = leads-in s to to start first.end first.known.leads; in_turn = first.known.in_turn }) in
        let ended : s.lines ≡ to ++ (f.until.behind ++ []) = further-order ∙ ap (λ ls. to ++ ls) (sym (append-nil f.until.behind)) in
        let rest = known-through laws.below s script f.until.behind [] to first.end ended
        (subst (AreAllowed s.loads policies to) (sym (append-nil f.until.behind)) (allowed-rest s.loads policies [] front (l ∷ f.until.behind) allowed).1) first.known in
        let mine : Follows s rest.end = record { leads = subst (λ ls. IsStateAfter s start ls rest.end) (sym further-order) rest.known.leads; in_turn = rest.known.in_turn } in
        let whole_is : whole ≡ rest.end = laws.one s whole rest.end script follows mine in
        let sent : length (frames s.table end.history) < length (frames s.table first.end.history) =
        subst (λ (st : ScriptState). length (frames s.table end.history) < length (frames s.table st.history)) same e.more in
        let later : length (frames s.table first.end.history) ≤ length (frames s.table rest.end.history) = rest.more in
        let long : length (frames s.table whole.history) ≡ length (frames s.table rest.end.history) = ap (λ (st : ScriptState). length (frames s.table st.history)) whole_is in
        omega arith
