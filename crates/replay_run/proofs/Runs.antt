-- How a run follows its script, line by line.
use Rattle.std.proofs.Common.{◌≡◌, ℕ, ◌<◌, ◌≤◌, inl, inr, List, [], ◌∷◌, ◌++◌, drop, length, map, reverse, take, refl}
use Rattle.std.proofs.Common.{sym, ap, ◌∙◌, subst, append-nil, append_assoc, length-append, arith}
use Rattle.std.specs.Prelude.{Option, Some, None, IfSome, slice_get, slice_set}
use Rattle.std.specs.Io.KnownBytes.{Appends}
use Rattle.std.proofs.lemmas.List.{map-append, take-append-le}
use Rattle.std.proofs.lemmas.List.Concat.{flat_map-append}
use Rattle.std.proofs.lemmas.List.Elements.{All-get_or, All-nil, All-push, All-set}
use Rattle.mrpc_base.specs.Quota.{Counters, drawn_in, tickets_of}
use Rattle.mrpc_base.specs.declared.tickets.TheConstants.{WINDOWS}
use Rattle.mrpc_table.specs.declared.call.Call.{Call}
use Rattle.mrpc_table.specs.declared.table.Table.{Table}
use Rattle.replay_script.specs.Lines.{IsScript, conn_of}
use Rattle.replay_script.specs.declared.script.ScriptLine.{ScriptLine}
use Rattle.replay_script.specs.declared.script.ScriptLine.TheVariants as line
use Rattle.replay_script.specs.declared.script.Script.{Script}
use Rattle.call_history.specs.Draining.{HasPartlyDrained}
use Rattle.call_history.specs.Transitions.{ConnState}
use Rattle.call_history.specs.Frames.{frame_of, frames, frames_of_trace}
use Rattle.call_history.specs.Legal.{History, trace_of}
use Rattle.call_history.specs.Tickets.{tickets_of_trace}
use Rattle.call_history.specs.declared.happening.Happening.{Happening}
use Rattle.audit_text.specs.Lines.{audit, audit_line}
use Rattle.conn_core.specs.Connections.{IsConnection, conn_state}
use Rattle.replay_run.specs.Follows.{OpenConnection, ScriptState, start, new_connection, event_on, with_state, script_context, IsLineStep, IsRunToFailedSend, IsScriptStep, opens, advances}
use Rattle.replay_run.specs.Kept.{HasRunSomeLines, IsRunBefore, HasBroken, IsBrokenOn, IsBrokenAndWritten, HasBrokenFrame, IsDoneOn, IsDoneAndWritten, IsDrawnIn}
use Rattle.replay_run.specs.Kept.{HasDrawn, HasSentFrames, IsJustOpened, IsBetweenLines, IsBetweenSubmissions, AreEventsWritten, IsStoppedAt, IsPrefixWritten}
use Rattle.replay_run.specs.Kept.{after_failure, after_line, drawn_of, in_line, open_connection_of, unwritten}
use Rattle.replay_run.specs.Running.{IsStoppedRun, HasPrintedPrefix, joined_frames, partly, sent_frames, stops_behind, stops_in, full_text, whole}
use Rattle.replay_run.specs.PendingLines.{all_stands_lines}
use Rattle.replay_run.specs.Tickets.{tickets}
use Rattle.replay_run.specs.declared.connection.RunConnection.{RunConnection}
use Rattle.replay_run.proofs.Adds.{IsOfDrain, begins-adds}
use Rattle.replay_run.proofs.Bytes.{TellsBehind, appends-more, appends-nothing, tells-behind, tells-none}
use Rattle.replay_run.proofs.GivenLaws.{HistoryLaws}
use Rattle.replay_run.proofs.Going.{IsKnown, front-known, leads-more}
use Rattle.replay_run.proofs.Pasts.{IsAny, IsPiece, does-adds, does-going, fails-adds, piece-added, piece-dropped}
use Rattle.replay_run.proofs.Pieces.{append-cancel, frames-more, tickets-more}
use Rattle.replay_run.proofs.Places.{IsCut, cut, opened-after, opened-before}
use Rattle.replay_run.proofs.Sound.{AreSound, behind-own, sound-at}

-- ---- nothing was run

none-drawn : IfSome (tickets_of 0) (λ now. now ≡ [])
unfolding tickets_of
none-drawn = refl

pub begins : (s : Script) (quotas : Counters) (out wire : Option (List ℕ))
    → quotas.tenants ≡ length s.declared.tenants → ((tenant window : ℕ) → drawn_in quotas tenant window ≡ 0)
    → HasRunSomeLines s [] [] quotas out out wire wire
begins s quotas out wire tenants undrawn = (
  start,
  record {
    leads = refl;
    holds = record {
      opened = refl;
      ready = All-nil (IsBetweenLines s);
      tenants = tenants;
      drawn = λ tenant window known early. subst (λ n. IfSome (tickets_of n) (λ now. now ≡ [])) (sym (undrawn tenant window)) none-drawn;
    };
    told = appends-nothing out;
    handed = appends-nothing wire;
  },
)

-- all events, and a prefix of what comes after them
tells-front : (s : Script) (before : ScriptState) (all more : List ℕ) (out out' : Option (List ℕ)) → all ≡ audit s.table before.history ++ more
    → TellsBehind out out' (audit s.table before.history) more → HasPrintedPrefix s before all out out'
tells-front s before all more out out' same tells = record {
  many = tells.many;
  least = tells.least;
  most = subst (λ t. tells.many ≤ length t) (sym same) tells.most;
  told = subst (λ t. Appends out out' (take tells.many t)) (sym same) tells.told;
}

-- the events were written, and nothing else
tells-all : (s : Script) (st : ScriptState) (out out' : Option (List ℕ)) → Appends out out' (audit s.table st.history) → HasPrintedPrefix s st (audit s.table st.history) out out'
tells-all s st out out' told =
    let happened : List ℕ = audit s.table st.history in
    tells-front s st happened [] out out' (sym (append-nil happened)) (tells-none out out' happened [] told)

-- a prefix of a text is one of a longer text
tells-more : (s : Script) (before : ScriptState) (xs ys : List ℕ) (out out' : Option (List ℕ)) → HasPrintedPrefix s before xs out out' → HasPrintedPrefix s before (xs ++ ys) out out'
tells-more s before xs ys out out' tells = record {
  many = tells.many;
  least = tells.least;
  most = let few : tells.many ≤ length xs = tells.most in omega (arith, length-append xs ys, few);
  told = subst (Appends out out') (sym (take-append-le tells.many xs ys tells.most)) tells.told;
}

pub stops-as_it_is : (s : Script) (l : ScriptLine) (cs : List RunConnection) (quotas : Counters) (out wire : Option (List ℕ)) (b : IsRunBefore s l cs quotas out wire) → IsStoppedRun s b.out out b.wire wire
stops-as_it_is s l cs quotas out wire b =
    stops_in b.st b.st (record { lines = b.lines; behind = l ∷ b.others; order = b.order; leads = b.ran.leads; begun = inl refl })
    (tells-all s b.st b.out out b.ran.told)
    b.ran.handed

pub stops-after : (s : Script) (cs : List RunConnection) (quotas : Counters) (out out' wire wire' : Option (List ℕ)) (a : HasRunSomeLines s s.lines cs quotas out out' wire wire')
    (last : Option (List ℕ)) → IsPrefixWritten out' last (all_stands_lines (map open_connection_of cs)) → IsStoppedRun s out last wire wire'
stops-after s cs quotas out out' wire wire' a last some =
    stops_in a.0 a.0 (record { lines = s.lines; behind = []; order = sym (append-nil s.lines); leads = a.1.leads; begun = inl refl })
    (tells-front s a.0 (full_text s a.0) (all_stands_lines a.0.opened) out last refl (tells-behind out out' last (audit s.table a.0.history) (all_stands_lines a.0.opened) a.1.told
    (subst (λ os. IsPrefixWritten out' last (all_stands_lines os)) a.1.holds.opened some)))
    a.1.handed

pub stops-at_once : (s : Script) (out wire : Option (List ℕ)) → IsStoppedRun s out out wire wire
stops-at_once s out wire =
    stops_in start start (record { lines = []; behind = s.lines; order = refl; leads = refl; begun = inl refl })
    (record { many = 0; least = omega arith; most = omega arith; told = appends-nothing out })
    (appends-nothing wire)

-- ---- a connection is opened

pub opens-one : (s : Script) (conn words : ℕ) (cs : List RunConnection) (c : RunConnection) (quotas : Counters)
    (out wire : Option (List ℕ)) (b : IsRunBefore s (line.Conn conn words) cs quotas out wire)
    → open_connection_of c ≡ new_connection conn words → IsJustOpened s.table s.loads c → HasRunSomeLines s (b.lines ++ line.Conn conn words ∷ []) (cs ++ c ∷ []) quotas b.out out b.wire wire
opens-one s conn words cs c quotas out wire b is fresh =
    let next : ScriptState = record { opened = b.st.opened ++ new_connection conn words ∷ []; history = b.st.history } in (
      next,
      record {
        leads = leads-more s b.lines (line.Conn conn words) start b.st next b.ran.leads (opens conn words refl refl);
        holds = record {
          opened = map-append open_connection_of cs (c ∷ []) ∙ ap (λ os. os ++ open_connection_of c ∷ []) b.ran.holds.opened ∙ ap (λ o. b.st.opened ++ o ∷ []) is;
          ready = All-push (IsBetweenLines s) cs c b.ran.holds.ready (record {
            of_script = record { table = fresh.table; limit = fresh.limit_is };
            rests = fresh.rests;
            going = fresh.going;
            told = fresh.none_told ∙ ap length (sym fresh.none);
            sound = fresh.sound;
          });
          tenants = b.ran.holds.tenants;
          drawn = b.ran.holds.drawn;
        };
        told = b.ran.told;
        handed = b.ran.handed;
      },
    )

-- ---- the effect of a line of an open connection

module _ (laws : HistoryLaws) (s : Script) where
  -- events that were added on the connection at an index
  record IsOn (l : ScriptLine) (cs : List RunConnection) (quotas : Counters) (out wire : Option (List ℕ)) (b : IsRunBefore s l cs quotas out wire) (c : RunConnection) (new : ConnState)
      (piece : List Happening) : Type 0 where
    here : (conn_state c.calls).past ≡ trace_of c.calls.conn b.st.history
    grown : new.past ≡ trace_of c.calls.conn (b.st.history ++ map (event_on c.calls.conn) piece)

  is-on : (l : ScriptLine) (cs : List RunConnection) (quotas : Counters) (out wire : Option (List ℕ))
      (b : IsRunBefore s l cs quotas out wire) (place : ℕ) (c : RunConnection) (new : ConnState) (piece : List Happening)
      → IsScript s → IsCut cs place c → IsPiece (conn_state c.calls).past new.past piece → IsOn l cs quotas out wire b c new piece
  is-on l cs quotas out wire b place c new piece script it added =
      let known : IsKnown laws s b.lines b.st = front-known laws s b.lines (l ∷ b.others) b.st script b.order b.ran.leads in
      let opened : b.st.opened ≡ map open_connection_of it.front ++ open_connection_of c ∷ map open_connection_of it.back = sym b.ran.holds.opened ∙ opened-before cs place c it in
      let sound = sound-at laws s b.st.history (map open_connection_of it.front) (map open_connection_of it.back) (open_connection_of c) (subst (AreSound laws s b.st.history) opened known.stands.each) in
      record {
        here = sound.past;
        grown = added.is ∙ ap (λ p. reverse piece ++ p) sound.past ∙ sym (behind-own laws s c.calls.conn b.st.history piece);
      }

  -- the state after it
  abbrev next_state : ScriptState → (front : List OpenConnection) (other : OpenConnection) (back : List OpenConnection) (conn : ℕ) → List Happening → ScriptState
  next_state st front other back conn piece = record { opened = front ++ other ∷ back; history = st.history ++ map (event_on conn) piece }

  frames-on : (l : ScriptLine) (cs : List RunConnection) (quotas : Counters) (out wire wire' : Option (List ℕ))
      (b : IsRunBefore s l cs quotas out wire) (c : RunConnection) (new : ConnState) (piece : List Happening)
      → IsOn l cs quotas out wire b c new piece
      → (hands : HasSentFrames s.table c.calls.conn (conn_state c.calls) new wire wire') (st : ScriptState)
      → st.history ≡ b.st.history ++ map (event_on c.calls.conn) piece
      → Appends b.wire wire' (sent_frames s st)
  frames-on l cs quotas out wire wire' b c new piece is hands st same =
      let T : Table = s.table in
      let more : frames T (b.st.history ++ map (event_on c.calls.conn) piece) ≡ frames T b.st.history ++ hands.more =
      frames-more laws T c.calls.conn b.st.history piece hands.more
      (ap (frames_of_trace T c.calls.conn) (sym is.grown) ∙ hands.frames ∙ ap (λ p. frames_of_trace T c.calls.conn p ++ hands.more) is.here) in
      subst (Appends b.wire wire')
      (sym (ap (λ h. joined_frames (frames T h)) same ∙ ap joined_frames more ∙ flat_map-append (λ frame. frame) (frames T b.st.history) hands.more))
      (appends-more b.wire wire wire' (sent_frames s b.st) (joined_frames hands.more) b.ran.handed hands.told)

  -- tickets, if they are known
  drawn-more : (tenant window : ℕ) (old new : ConnState) (before after : List ℕ) (d d' : Option (List ℕ))
      → ((more : List ℕ) → tickets_of_trace tenant window new.past ≡ tickets_of_trace tenant window old.past ++ more → after ≡ before ++ more)
      → IfSome d (λ now. now ≡ before) → IsDrawnIn tenant window old new d d' → IfSome d' (λ now. now ≡ after)
  drawn-more tenant window old new before after d None goes was drawn = tt
  drawn-more tenant window old new before after None (Some now) goes was drawn = absurd drawn
  drawn-more tenant window old new before after (Some earlier) (Some now) goes was drawn =
      drawn.2 ∙ ap (λ ts. ts ++ drawn.0) was ∙ sym (goes drawn.0 drawn.1)

  drawn-on : (l : ScriptLine) (cs : List RunConnection) (quotas quotas' : Counters) (out wire : Option (List ℕ))
      (b : IsRunBefore s l cs quotas out wire) (c : RunConnection) (new : ConnState) (piece : List Happening)
      → IsOn l cs quotas out wire b c new piece → HasDrawn (conn_state c.calls) new quotas quotas' → (h : History) → h ≡ b.st.history ++ map (event_on c.calls.conn) piece
      → (tenant window : ℕ) → tenant < quotas'.tenants → window < WINDOWS → IfSome (drawn_of quotas' tenant window) (λ now. now ≡ tickets tenant window h)
  drawn-on l cs quotas quotas' out wire b c new piece is draws h same tenant window known early =
      let was : tenant < quotas.tenants = subst (λ n. tenant < n) draws.same known in
      drawn-more tenant window (conn_state c.calls) new (tickets tenant window b.st.history) (tickets tenant window h) (drawn_of quotas tenant window) (drawn_of quotas' tenant window)
      (λ more grown. ap (tickets tenant window) same
      ∙ tickets-more laws tenant window c.calls.conn b.st.history piece more
      (ap (tickets_of_trace tenant window) (sym is.grown) ∙ grown ∙ ap (λ p. tickets_of_trace tenant window p ++ more) is.here))
      (b.ran.holds.drawn tenant window was early) (draws.drawn tenant window was early)

  -- the lines of the added events
  untold-piece : (c mid : RunConnection) (piece : List Happening) → IsPiece (conn_state c.calls).past (conn_state mid.calls).past piece → mid.told ≡ length c.calls.happenings
      → mid.calls.conn ≡ c.calls.conn → unwritten s.table mid ≡ audit s.table (map (event_on c.calls.conn) piece)
  untold-piece c mid piece added told conn =
      ap (λ n. audit s.table (map (event_on n) (drop mid.told mid.calls.happenings))) conn
      ∙ ap (λ n. audit s.table (map (event_on c.calls.conn) (drop n mid.calls.happenings))) told
      ∙ ap (λ xs. audit s.table (map (event_on c.calls.conn) xs)) (piece-dropped c.calls.happenings mid.calls.happenings piece added)

  -- the text of the earlier events, and of the added ones
  audit-more : (h : History) (conn : ℕ) (piece : List Happening)
      → audit s.table (h ++ map (event_on conn) piece) ≡ audit s.table h
      ++ audit s.table (map (event_on conn) piece)
  audit-more h conn piece = flat_map-append (audit_line s.table) h (map (event_on conn) piece)

  -- the line led to this connection, by these events
  goes-on : (l : ScriptLine) (cs : List RunConnection) (quotas : Counters) (out wire : Option (List ℕ))
      (b : IsRunBefore s l cs quotas out wire) (place : ℕ) (c : RunConnection) (it : IsCut cs place c) (other : OpenConnection)
      (piece : List Happening) → IsPiece (conn_state c.calls).past other.course.past piece
      → IsLineStep b.st (open_connection_of c) other (next_state b.st (map open_connection_of it.front) other (map open_connection_of it.back) c.calls.conn piece)
  goes-on l cs quotas out wire b place c it other piece added = record {
    front = map open_connection_of it.front;
    back = map open_connection_of it.back;
    before = sym b.ran.holds.opened ∙ opened-before cs place c it;
    after = refl;
    piece = piece;
    past = added.is;
    history = refl;
  }

  -- ---- a line that was done

  done-piece : (l : ScriptLine) (c mid : RunConnection) (quotas quotas' : Counters) (wire wire' : Option (List ℕ)) → IsDoneOn s l c mid quotas quotas' wire wire' → List Happening
  done-piece l c mid quotas quotas' wire wire' done = reverse (does-adds s l (open_connection_of c) (open_connection_of mid) done.does).more

  done-added : (l : ScriptLine) (c mid : RunConnection) (quotas quotas' : Counters) (wire wire' : Option (List ℕ)) (done : IsDoneOn s l c mid quotas quotas' wire wire')
      → IsPiece (conn_state c.calls).past (conn_state mid.calls).past (done-piece l c mid quotas quotas' wire wire' done)
  unfolding done-piece
  done-added l c mid quotas quotas' wire wire' done =
      piece-added IsAny (conn_state c.calls).past (conn_state mid.calls).past (does-adds s l (open_connection_of c) (open_connection_of mid) done.does)

  ready-again : (l : ScriptLine) (c mid d : RunConnection) (quotas quotas' : Counters) (wire wire' : Option (List ℕ)) → IsBetweenLines s c → IsDoneOn s l c mid quotas quotas' wire wire' → AreEventsWritten mid d
      → IsConnection d.calls → IsBetweenLines s d
  ready-again l c mid d quotas quotas' wire wire' ready done told sound = record {
    of_script = record {
      table = ap (λ k. k.table) told.calls ∙ done.keeps.same.table ∙ ready.of_script.table;
      limit = ap (λ k. k.limit) told.calls ∙ done.keeps.same.limit ∙ ready.of_script.limit;
    };
    rests = subst IsBetweenSubmissions (sym told.heap) done.keeps.rests;
    going = ap (λ k. k.ended) told.calls ∙ does-going s l (open_connection_of c) (open_connection_of mid) done.does ∙ ready.going;
    told = told.told ∙ ap (λ k. length k.happenings) (sym told.calls);
    sound = sound;
  }

  told-same : (mid d : RunConnection) → AreEventsWritten mid d → open_connection_of d ≡ open_connection_of mid
  told-same mid d told = (λ i. record {
    conn = (told.calls i).conn;
    words = (told.heap i).size;
    stores = (told.heap i).stores;
    races = (told.heap i).races;
    loads = (told.heap i).loads;
    course = conn_state (told.calls i);
  })

  pub line-goes_on : (l : ScriptLine) (cs : List RunConnection) (place : ℕ) (c d : RunConnection) (quotas quotas' : Counters) (out out' wire wire' : Option (List ℕ)) → IsScript s
      → (b : IsRunBefore s l cs quotas out wire) → conn_of l ≡ c.calls.conn → slice_get cs place ≡ Some c → IsDoneAndWritten s l c d quotas quotas' out out' wire wire'
      → HasRunSomeLines s (b.lines ++ l ∷ []) (slice_set cs place d) quotas' b.out out' b.wire wire'
  line-goes_on l cs place c d quotas quotas' out out' wire wire' script b on at did =
      let it : IsCut cs place c = cut cs place c at in
      let mid : RunConnection = did.mid in
      let done : IsDoneOn s l c mid quotas quotas' wire wire' = did.done in
      let ready : IsBetweenLines s c = subst (IsBetweenLines s) (sym it.is) (All-get_or (IsBetweenLines s) cs place c it.within b.ran.holds.ready) in
      let piece : List Happening = done-piece l c mid quotas quotas' wire wire' done in
      let added : IsPiece (conn_state c.calls).past (conn_state mid.calls).past piece = done-added l c mid quotas quotas' wire wire' done in
      let next : ScriptState = next_state b.st (map open_connection_of it.front) (open_connection_of mid) (map open_connection_of it.back) c.calls.conn piece in
      let is : IsOn l cs quotas out wire b c (conn_state mid.calls) piece = is-on l cs quotas out wire b place c (conn_state mid.calls) piece script it added in
      let step : IsScriptStep s b.st l next = advances (open_connection_of c) (open_connection_of mid) on done.does (goes-on l cs quotas out wire b place c it (open_connection_of mid) piece added) in (
        next,
        record {
          leads = leads-more s b.lines l start b.st next b.ran.leads step;
          holds = record {
            opened = opened-after cs place c d it ∙ ap (λ o. map open_connection_of it.front ++ o ∷ map open_connection_of it.back) (told-same mid d did.told);
            ready = All-set (IsBetweenLines s) cs place d (ready-again l c mid d quotas quotas' wire wire' ready done did.told did.sound) b.ran.holds.ready;
            tenants = done.draws.same ∙ b.ran.holds.tenants;
            drawn = drawn-on l cs quotas quotas' out wire b c (conn_state mid.calls) piece is done.draws next.history refl;
          };
          told = subst (Appends b.out out') (sym (audit-more b.st.history c.calls.conn piece
              ∙ ap (λ t. audit s.table b.st.history ++ t) (sym (untold-piece c mid piece added (done.keeps.told ∙ ready.told) done.keeps.same.conn))))
              (appends-more b.out out out' (audit s.table b.st.history) (unwritten s.table mid) b.ran.told did.lines);
          handed = frames-on l cs quotas out wire wire' b c (conn_state mid.calls) piece is done.frames_sent next refl;
        },
      )

  -- ---- a line whose send failed

  sent-more : (l : ScriptLine) (cs : List RunConnection) (quotas : Counters) (out wire : Option (List ℕ))
      (b : IsRunBefore s l cs quotas out wire) (c : RunConnection) (new : ConnState) (piece : List Happening)
      (more : List (List ℕ)) → IsOn l cs quotas out wire b c new piece
      → frames_of_trace s.table c.calls.conn new.past ≡ frames_of_trace s.table c.calls.conn (conn_state c.calls).past ++ more
      → joined_frames (frames s.table (b.st.history ++ map (event_on c.calls.conn) piece)) ≡ sent_frames s b.st ++ joined_frames more
  sent-more l cs quotas out wire b c new piece more is grown =
      let T : Table = s.table in
      ap joined_frames (frames-more laws T c.calls.conn b.st.history piece more
      (ap (frames_of_trace T c.calls.conn) (sym is.grown) ∙ grown ∙ ap (λ p. frames_of_trace T c.calls.conn p ++ more) is.here))
      ∙ flat_map-append (λ frame. frame) (frames T b.st.history) more

  breaks-on : (l : ScriptLine) (cs : List RunConnection) (quotas : Counters) (out wire wire' : Option (List ℕ))
      (b : IsRunBefore s l cs quotas out wire) (c : RunConnection) (new : ConnState) (piece : List Happening)
      (tried : Call) → IsOn l cs quotas out wire b c new piece → (hands : HasBrokenFrame s.table c.calls.conn tried (conn_state c.calls) new wire wire')
      → Appends b.wire wire' (joined_frames (frames s.table (b.st.history ++ map (event_on c.calls.conn) piece)) ++ take hands.many (frame_of s.table tried))
  breaks-on l cs quotas out wire wire' b c new piece tried is hands =
      let front : List ℕ = take hands.many (frame_of s.table tried) in
      subst (Appends b.wire wire')
      (sym (ap (λ t. t ++ front) (sent-more l cs quotas out wire b c new piece hands.more is hands.frames) ∙ append_assoc (sent_frames s b.st) (joined_frames hands.more) front))
      (appends-more b.wire wire wire' (sent_frames s b.st) (joined_frames hands.more ++ front) b.ran.handed hands.told)

  broken-piece : (l : ScriptLine) (c mid : RunConnection) (quotas quotas' : Counters) (wire wire' : Option (List ℕ)) → IsBrokenOn s l c mid quotas quotas' wire wire' → List Happening
  broken-piece l c mid quotas quotas' wire wire' broken = reverse (fails-adds s l (open_connection_of c) (open_connection_of mid) broken.tried broken.fails).more

  broken-added : (l : ScriptLine) (c mid : RunConnection) (quotas quotas' : Counters) (wire wire' : Option (List ℕ)) (broken : IsBrokenOn s l c mid quotas quotas' wire wire')
      → IsPiece (conn_state c.calls).past (conn_state mid.calls).past (broken-piece l c mid quotas quotas' wire wire' broken)
  unfolding broken-piece
  broken-added l c mid quotas quotas' wire wire' broken =
      piece-added IsAny (conn_state c.calls).past (conn_state mid.calls).past (fails-adds s l (open_connection_of c) (open_connection_of mid) broken.tried broken.fails)

  abbrev leads-until : (l : ScriptLine) (cs : List RunConnection) (quotas : Counters) (out wire wire' : Option (List ℕ))
      (b : IsRunBefore s l cs quotas out wire) (place : ℕ) (c : RunConnection) (it : IsCut cs place c)
      (mid : RunConnection) (piece : List Happening) (q q' : Counters) → conn_of l ≡ c.calls.conn → (broken : IsBrokenOn s l c mid q q' wire wire')
      → IsPiece (conn_state c.calls).past (conn_state mid.calls).past piece
      → IsRunToFailedSend s broken.tried (next_state b.st (map open_connection_of it.front) (open_connection_of mid) (map open_connection_of it.back) c.calls.conn piece)
  leads-until l cs quotas out wire wire' b place c it mid piece q q' on broken added = record {
    lines = b.lines;
    failing = l;
    behind = b.others;
    order = b.order;
    before = b.st;
    leads = b.ran.leads;
    one = open_connection_of c;
    other = open_connection_of mid;
    on = on;
    fails = broken.fails;
    goes = goes-on l cs quotas out wire b place c it (open_connection_of mid) piece added;
  }

  pub line-breaks : (l : ScriptLine) (cs : List RunConnection) (place : ℕ) (c d : RunConnection) (quotas quotas' : Counters) (out out' wire wire' : Option (List ℕ)) → IsScript s
      → (b : IsRunBefore s l cs quotas out wire) → conn_of l ≡ c.calls.conn → slice_get cs place ≡ Some c → IsBrokenAndWritten s l c d quotas quotas' out out' wire wire'
      → HasBroken s (slice_set cs place d) quotas' b.out out' b.wire wire'
  line-breaks l cs place c d quotas quotas' out out' wire wire' script b on at did =
      let it : IsCut cs place c = cut cs place c at in
      let mid : RunConnection = did.mid in
      let broken : IsBrokenOn s l c mid quotas quotas' wire wire' = did.broken in
      let ready : IsBetweenLines s c = subst (IsBetweenLines s) (sym it.is) (All-get_or (IsBetweenLines s) cs place c it.within b.ran.holds.ready) in
      let piece : List Happening = broken-piece l c mid quotas quotas' wire wire' broken in
      let added : IsPiece (conn_state c.calls).past (conn_state mid.calls).past piece = broken-added l c mid quotas quotas' wire wire' broken in
      let next : ScriptState = next_state b.st (map open_connection_of it.front) (open_connection_of mid) (map open_connection_of it.back) c.calls.conn piece in
      let is : IsOn l cs quotas out wire b c (conn_state mid.calls) piece = is-on l cs quotas out wire b place c (conn_state mid.calls) piece script it added in
      record {
        tried = broken.tried;
        end = next;
        until = leads-until l cs quotas out wire wire' b place c it mid piece quotas quotas' on broken added;
        opened = opened-after cs place c d it ∙ ap (λ o. map open_connection_of it.front ++ o ∷ map open_connection_of it.back) (told-same mid d did.told);
        tenants = broken.draws.same ∙ b.ran.holds.tenants;
        drawn = drawn-on l cs quotas quotas' out wire b c (conn_state mid.calls) piece is broken.draws next.history refl;
        told = subst (Appends b.out out') (sym (audit-more b.st.history c.calls.conn piece
            ∙ ap (λ t. audit s.table b.st.history ++ t) (sym (untold-piece c mid piece added (broken.keeps.told ∙ ready.told) broken.keeps.same.conn))))
            (appends-more b.out out out' (audit s.table b.st.history) (unwritten s.table mid) b.ran.told did.lines);
        many = broken.frames_sent.many;
        few = broken.frames_sent.few;
        handed = breaks-on l cs quotas out wire wire' b c (conn_state mid.calls) piece broken.tried is broken.frames_sent;
      }

  -- ---- a run that stops

  -- all earlier events, and a prefix of the added events' lines
  tells-piece : (l : ScriptLine) (cs : List RunConnection) (quotas : Counters) (out out' wire : Option (List ℕ))
      (b : IsRunBefore s l cs quotas out wire) (c : RunConnection) (st : ScriptState) (piece : List Happening)
      → st.history ≡ b.st.history ++ map (event_on c.calls.conn) piece → IsPrefixWritten out out' (audit s.table (map (event_on c.calls.conn) piece))
      → HasPrintedPrefix s b.st (audit s.table st.history) b.out out'
  tells-piece l cs quotas out out' wire b c st piece same some =
      let lines : List ℕ = audit s.table (map (event_on c.calls.conn) piece) in
      tells-front s b.st (audit s.table st.history) lines b.out out'
      (ap (audit s.table) same ∙ audit-more b.st.history c.calls.conn piece)
      (tells-behind b.out out out' (audit s.table b.st.history) lines b.ran.told some)

  untold-some : (c mid : RunConnection) (piece : List Happening) (out out' : Option (List ℕ))
      → IsPiece (conn_state c.calls).past (conn_state mid.calls).past piece → mid.told ≡ length c.calls.happenings
      → mid.calls.conn ≡ c.calls.conn → IsPrefixWritten out out' (unwritten s.table mid) → IsPrefixWritten out out' (audit s.table (map (event_on c.calls.conn) piece))
  untold-some c mid piece out out' added told conn some = subst (IsPrefixWritten out out') (untold-piece c mid piece added told conn) some

  stops-unmoved : (l : ScriptLine) (cs : List RunConnection) (quotas : Counters) (out wire wire' : Option (List ℕ)) (b : IsRunBefore s l cs quotas out wire) (c : RunConnection) (end : ConnState)
      → end ≡ conn_state c.calls → HasSentFrames s.table c.calls.conn (conn_state c.calls) end wire wire' → IsStoppedRun s b.out out b.wire wire'
  stops-unmoved l cs quotas out wire wire' b c end same hands =
      let T : Table = s.table in
      let past : List (List ℕ) = frames_of_trace T c.calls.conn (conn_state c.calls).past in
      let none : hands.more ≡ [] = append-cancel past hands.more []
      (sym hands.frames ∙ ap (λ (d : ConnState). frames_of_trace T c.calls.conn d.past) same ∙ sym (append-nil past)) in
      let nothing : Appends wire wire' [] = subst (λ fs. Appends wire wire' (joined_frames fs)) none hands.told in
      stops_in b.st b.st (record { lines = b.lines; behind = l ∷ b.others; order = b.order; leads = b.ran.leads; begun = inl refl })
      (tells-all s b.st b.out out b.ran.told)
      (subst (Appends b.wire wire') (append-nil (sent_frames s b.st)) (appends-more b.wire wire wire' (sent_frames s b.st) [] b.ran.handed nothing))

  stops-partly : (l : ScriptLine) (cs : List RunConnection) (place : ℕ) (c : RunConnection) (quotas : Counters)
      (out wire wire' : Option (List ℕ)) → IsScript s → (b : IsRunBefore s l cs quotas out wire) (it : IsCut cs place c)
      (end : ConnState) → l ≡ line.Drain c.calls.conn → HasPartlyDrained (script_context s c.calls.conn) (conn_state c.calls) end → HasSentFrames s.table c.calls.conn (conn_state c.calls) end wire wire'
      → IsStoppedRun s b.out out b.wire wire'
  stops-partly l cs place c quotas out wire wire' script b it end is_drain drains hands =
      let adds = begins-adds (script_context s c.calls.conn) (conn_state c.calls) end drains in
      let piece : List Happening = reverse adds.more in
      let added : IsPiece (conn_state c.calls).past end.past piece = piece-added IsOfDrain (conn_state c.calls).past end.past adds in
      let other : OpenConnection = with_state (open_connection_of c) end in
      let next : ScriptState = next_state b.st (map open_connection_of it.front) other (map open_connection_of it.back) c.calls.conn piece in
      let is : IsOn l cs quotas out wire b c end piece = is-on l cs quotas out wire b place c end piece script it added in
      stops_in b.st next
      (record {
        lines = b.lines;
        behind = l ∷ b.others;
        order = b.order;
        leads = b.ran.leads;
        begun = inr (record {
          next = l;
          others = b.others;
          order = refl;
          begun = partly (open_connection_of c) other is_drain drains refl (goes-on l cs quotas out wire b place c it other piece added);
        });
      })
      (tells-piece l cs quotas out out wire b c next piece refl (0, omega arith, appends-nothing out))
      (frames-on l cs quotas out wire wire' b c end piece is hands next refl)

  pub line-stops : (l : ScriptLine) (cs : List RunConnection) (place : ℕ) (c : RunConnection) (quotas : Counters)
      (out out' wire wire' : Option (List ℕ)) → IsScript s → (b : IsRunBefore s l cs quotas out wire)
      → conn_of l ≡ c.calls.conn → slice_get cs place ≡ Some c → IsStoppedAt s l c out out' wire wire' → IsStoppedRun s b.out out' b.wire wire'
  line-stops l cs place c quotas out out' wire wire' script b on at (in_line stopped same) =
      subst (λ o. IsStoppedRun s b.out o b.wire wire') (sym same) (elim stopped.begun [
        | inl still ↦ stops-unmoved l cs quotas out wire wire' b c stopped.end still stopped.frames_sent
        | inr drain ↦ stops-partly l cs place c quotas out wire wire' script b (cut cs place c at) stopped.end drain.0 drain.1 stopped.frames_sent
      ])
  line-stops l cs place c quotas out out' wire wire' script b on at (after_line mid q q' done some) =
      let it : IsCut cs place c = cut cs place c at in
      let ready : IsBetweenLines s c = subst (IsBetweenLines s) (sym it.is) (All-get_or (IsBetweenLines s) cs place c it.within b.ran.holds.ready) in
      let piece : List Happening = done-piece l c mid q q' wire wire' done in
      let added : IsPiece (conn_state c.calls).past (conn_state mid.calls).past piece = done-added l c mid q q' wire wire' done in
      let next : ScriptState = next_state b.st (map open_connection_of it.front) (open_connection_of mid) (map open_connection_of it.back) c.calls.conn piece in
      let is : IsOn l cs quotas out wire b c (conn_state mid.calls) piece = is-on l cs quotas out wire b place c (conn_state mid.calls) piece script it added in
      stops_in b.st next
      (record {
        lines = b.lines;
        behind = l ∷ b.others;
        order = b.order;
        leads = b.ran.leads;
        begun = inr (record {
          next = l;
          others = b.others;
          order = refl;
          begun = whole (advances (open_connection_of c) (open_connection_of mid) on done.does (goes-on l cs quotas out wire b place c it (open_connection_of mid) piece added));
        });
      })
      (tells-piece l cs quotas out out' wire b c next piece refl (untold-some c mid piece out out' added (done.keeps.told ∙ ready.told) done.keeps.same.conn some))
      (frames-on l cs quotas out wire wire' b c (conn_state mid.calls) piece is done.frames_sent next refl)
  line-stops l cs place c quotas out out' wire wire' script b on at (after_failure mid q q' broken some) =
      let it : IsCut cs place c = cut cs place c at in
      let ready : IsBetweenLines s c = subst (IsBetweenLines s) (sym it.is) (All-get_or (IsBetweenLines s) cs place c it.within b.ran.holds.ready) in
      let piece : List Happening = broken-piece l c mid q q' wire wire' broken in
      let added : IsPiece (conn_state c.calls).past (conn_state mid.calls).past piece = broken-added l c mid q q' wire wire' broken in
      let next : ScriptState = next_state b.st (map open_connection_of it.front) (open_connection_of mid) (map open_connection_of it.back) c.calls.conn piece in
      let is : IsOn l cs quotas out wire b c (conn_state mid.calls) piece = is-on l cs quotas out wire b place c (conn_state mid.calls) piece script it added in
      stops_behind next broken.tried (leads-until l cs quotas out wire wire' b place c it mid piece q q' on broken added)
      (tells-more s b.st (audit s.table next.history) (all_stands_lines next.opened) b.out out'
      (tells-piece l cs quotas out out' wire b c next piece refl (untold-some c mid piece out out' added (broken.keeps.told ∙ ready.told) broken.keeps.same.conn some)))
      (record {
        many = broken.frames_sent.many;
        fewer = broken.frames_sent.few;
        handed = breaks-on l cs quotas out wire wire' b c (conn_state mid.calls) piece broken.tried is broken.frames_sent;
      })
