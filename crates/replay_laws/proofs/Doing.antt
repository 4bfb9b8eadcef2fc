-- Each line leads its connection to a next state, perhaps the same one; and if it sends, each of its sends can fail.
use Rattle.std.proofs.Common.{◌≡◌, inl, inr, ℕ, ◌+◌, ◌<◌, ◌≤◌, ◌^◌, true, false, List, [], ◌∷◌, ◌++◌, length, refl, sym, ap, ◌∙◌, subst, arith}
use Rattle.std.specs.Prelude.{Option, Some, None, option_map, slice_get}
use Rattle.std.proofs.lemmas.Bool.{cases_lt}
use Rattle.std.proofs.lemmas.Option.{slice_get_cases}
use Rattle.mrpc_base.specs.Heap.{races_with, stores_of}
use Rattle.mrpc_table.specs.Valid.{IsValid}
use Rattle.mrpc_table.specs.declared.call.Call.{Call}
use Rattle.engine_core.specs.Chains.{HasChanged, changed}
use Rattle.engine_core.specs.Moves.{first_at, moved_by}
use Rattle.engine_core.specs.declared.call_row.TheConstants.{MAX_CALLS}
use Rattle.engine_core.specs.declared.op.Op.{Op as Step}
use Rattle.engine_core.specs.declared.op.Op.TheVariants as op
use Rattle.policy_declarations.specs.declared.declaration.NamedPolicy.{NamedPolicy}
use Rattle.replay_script.specs.Lines.{IsValidLine, conn_of, chain_after_op, is_conn, op_in}
use Rattle.replay_script.specs.declared.script.ScriptLine.{ScriptLine}
use Rattle.replay_script.specs.declared.script.ScriptLine.TheVariants as line
use Rattle.replay_script.specs.declared.script.Script.{Script}
use Rattle.call_history.specs.Trace.{chain, timestamp, pending_calls, taken}
use Rattle.call_history.specs.Transitions.{IsTransition, ConnState, IsReady, accepted, accepts, changes, has_turn, is_away}
use Rattle.call_history.specs.Transitions.{link_failed, operates, refused_for_link, rises, shows, stays, takes, trace_after_turn}
use Rattle.call_history.specs.Transitions.{turns, turns_away}
use Rattle.call_history.specs.Frames.{frames}
use Rattle.call_history.specs.Legal.{History}
use Rattle.call_history.specs.Loads.{IsLoaded}
use Rattle.call_history.specs.Rules.{MayTake, JudgeContext}
use Rattle.call_history.specs.declared.happening.Cause.TheVariants as cause
use Rattle.call_history.specs.declared.happening.Happening.TheVariants as what
use Rattle.call_history.specs.declared.happening.AcceptedCall.{AcceptedCall}
use Rattle.call_history.specs.declared.happening.TookCopy.{TookCopy}
use Rattle.call_history.specs.declared.happening.TookCopy.TheVariants.{Copy, Malformed}
use Rattle.replay_run.specs.Follows.{IsLineEffect, IsSendFailure, CanSendAt, OpenConnection, by_drain, by_send, with_state, event_on, read_at, submitted, script_context}
use Rattle.replay_run.specs.Follows.IsLineEffect.{stores, races, submits, is_away as is_turned_away, operates_on, advances_clock, is_idle, has_turn as does_turn, none_ready, is_sent as does_send, drains}
use Rattle.replay_laws.proofs.Drains.{drains-on, leaves}
use Rattle.replay_laws.proofs.Growing.{Grows, after_refusals, grows-more, grows-none, grows-then, one-still, refusals-grow, refusals-still}
use Rattle.replay_laws.proofs.Heaps.{AreSmall, AreSmallRaces, read-small, small-append, small-stores, small-with}
use Rattle.replay_laws.proofs.Taking.{GraphLaws, IsSoundCopy, Takes, takes as taken-somehow}
use Rattle.replay_laws.proofs.Turning.{Stands, TurnLaws, chain-turned, entries_of, has-turn}

-- ---- open connections

-- properties of a connection whose link is up, apart from its state
pub record IsOpen (o : OpenConnection) : Type 0 where
  pub going : o.course.ended ≡ false
  pub stores : AreSmall o.stores
  pub races : AreSmallRaces o.races

-- a line on its connection fails after this many sends of all connections
pub record FailsOn (s : Script) (l : ScriptLine) (one : OpenConnection) (h : History) (n : ℕ) : Type 0 where
  pub tried : Call
  pub other : OpenConnection
  pub history : History
  pub fails : IsSendFailure s l one tried other
  pub grows : Grows one.conn h one.course.past history other.course.past
  pub count : length (frames s.table history) ≡ n

-- the effect of a line on its connection
pub record DoesOn (s : Script) (l : ScriptLine) (one : OpenConnection) (h : History) : Type 0 where
  pub other : OpenConnection
  pub history : History
  pub does : IsLineEffect s l one other
  pub grows : Grows one.conn h one.course.past history other.course.past
  pub conn : other.conn ≡ one.conn
  pub opened : IsOpen other
  pub same_chain : chain other.course.past ≡ chain_after_op (op_in s.declared.policies l) (chain one.course.past)
  pub tries : (n : ℕ) → length (frames s.table h) ≤ n → n < length (frames s.table history) → FailsOn s l one h n

-- if nothing is sent, nothing fails
none-fails : (s : Script) (l : ScriptLine) (one : OpenConnection) (h i : History) → length (frames s.table i) ≡ length (frames s.table h) → (n : ℕ)
    → length (frames s.table h) ≤ n → n < length (frames s.table i) → FailsOn s l one h n
none-fails s l one h i same n from below = absurd (omega arith)

module _ (laws : TurnLaws) (graphs : GraphLaws) (s : Script) (one : OpenConnection) (h : History) (opened : IsOpen one) (stands : Stands (script_context s one.conn) h one.course) where
  abbrev u : JudgeContext
  u = script_context s one.conn

  with-course : (c : ConnState) → c.ended ≡ false → IsOpen (with_state one c)
  with-course c going = record { going = going; stores = opened.stores; races = opened.races }

  -- ---- stores and races

  does-store : (place value : ℕ) → value < 2 ^ 64 → DoesOn s (line.Store one.conn place value) one h
  does-store place value low =
      let new : OpenConnection = record one { stores = one.stores ++ (place, value) ∷ [] } in
      record {
        other = new;
        history = h;
        does = stores place value refl refl;
        grows = grows-none one.conn h one.course.past stands.here;
        conn = refl;
        opened = record { going = opened.going; stores = small-append one.stores ((place, value) ∷ []) opened.stores (low, tt); races = opened.races };
        same_chain = refl;
        tries = none-fails s (line.Store one.conn place value) one h h refl;
      }

  does-race : (load place value : ℕ) → value < 2 ^ 64 → DoesOn s (line.Race one.conn load place value) one h
  does-race load place value low =
      let new : OpenConnection = record one { races = races_with one.races (record { load = load; place = place; value = value }) } in
      record {
        other = new;
        history = h;
        does = races load place value refl refl;
        grows = grows-none one.conn h one.course.past stands.here;
        conn = refl;
        opened = record { going = opened.going; stores = opened.stores; races = small-with one.races (record { load = load; place = place; value = value }) opened.races low };
        same_chain = refl;
        tries = none-fails s (line.Race one.conn load place value) one h h refl;
      }

  -- ---- submissions

  record Accepts (call : AcceptedCall) : Type 0 where
    history : History
    grows : Grows one.conn h one.course.past history (accepted call one.course).past
    same_chain : chain (accepted call one.course).past ≡ chain one.course.past
    going : (accepted call one.course).ended ≡ false
    still : length (frames s.table history) ≡ length (frames s.table h)

  abbrev call_of : (method number addr count : ℕ) → TookCopy → AcceptedCall
  call_of method number addr count copy = record {
    seq = length (taken one.course.past) + 1;
    method = method;
    number = number;
    addr = addr;
    after = length one.stores;
    count = count;
    copy = copy;
  }

  accepts-it : (method number addr count : ℕ) (copy : TookCopy) → Accepts (call_of method number addr count copy)
  accepts-it method number addr count (Copy tree) =
      let call : AcceptedCall = call_of method number addr count (Copy tree) in
      record {
        history = h ++ event_on one.conn (what.Took call) ∷ [];
        grows = grows-more laws.growth one.conn h h one.course.past one.course.past (what.Took call) (grows-none one.conn h one.course.past stands.here) (λ tenant window. inl refl);
        same_chain = refl;
        going = opened.going;
        still = one-still laws.growth one.conn s.table h (what.Took call) (λ past. refl);
      }
  accepts-it method number addr count (Malformed reason place value) =
      let call : AcceptedCall = call_of method number addr count (Malformed reason place value) in
      let i : History = h ++ event_on one.conn (what.Took call) ∷ [] in
      record {
        history = i ++ event_on one.conn (what.Refused call.seq cause.Malformed) ∷ [];
        grows = grows-more laws.growth one.conn h i one.course.past (what.Took call ∷ one.course.past) (what.Refused call.seq cause.Malformed)
            (grows-more laws.growth one.conn h h one.course.past one.course.past (what.Took call) (grows-none one.conn h one.course.past stands.here) (λ tenant window. inl refl))
            (λ tenant window. inl refl);
        same_chain = refl;
        going = opened.going;
        still = one-still laws.growth one.conn s.table i (what.Refused call.seq cause.Malformed) (λ past. refl)
            ∙ one-still laws.growth one.conn s.table h (what.Took call) (λ past. refl);
      }

  may-take : (method number addr count : ℕ) (copy : TookCopy) → length (pending_calls one.course.past) < MAX_CALLS → count ≤ s.loads
      → IsSoundCopy s.table method number copy → MayTake u one.course.past (call_of method number addr count copy)
  may-take method number addr count (Copy tree) few loads sound = record { number = refl; few = few; loads = loads; copy = sound }
  may-take method number addr count (Malformed reason place value) few loads sound = record { number = refl; few = few; loads = loads; copy = sound }

  does-take : (method number addr : ℕ) → length (pending_calls one.course.past) < MAX_CALLS
      → Takes s.table one.words s.loads method number addr (read_at one.stores one.races) → DoesOn s (line.Submit one.conn method number addr) one h
  does-take method number addr few t =
      let call : AcceptedCall = call_of method number addr (length t.own) t.copy in
      let a = accepts-it method number addr (length t.own) t.copy in
      let c : ConnState = accepted call one.course in
      let comes : IsTransition u one.course (accepts call) c = takes call refl opened.going (may-take method number addr (length t.own) t.copy few t.few t.sound) refl in
      let loaded : IsLoaded s.table one.words s.loads call t.own = record { taken = t.taken; counted = refl } in
      record {
        other = submitted one t.own c;
        history = a.history;
        does = submits call t.own c refl refl t.reads loaded comes refl;
        grows = a.grows;
        conn = refl;
        opened = record { going = a.going; stores = small-append one.stores (stores_of one.races) opened.stores (small-stores one.races opened.races); races = tt };
        same_chain = a.same_chain;
        tries = none-fails s (line.Submit one.conn method number addr) one h a.history a.still;
      }

  does-turn-away : (method number addr : ℕ) → length (pending_calls one.course.past) ≡ MAX_CALLS → DoesOn s (line.Submit one.conn method number addr) one h
  does-turn-away method number addr full =
      let c : ConnState = record one.course { past = what.Away method number addr ∷ one.course.past } in
      let comes : IsTransition u one.course (turns_away method number addr) c = is_away method number addr refl full refl in
      record {
        other = submitted one [] c;
        history = h ++ event_on one.conn (what.Away method number addr) ∷ [];
        does = is_turned_away method number addr c refl comes refl;
        grows = grows-more laws.growth one.conn h h one.course.past one.course.past (what.Away method number addr)
            (grows-none one.conn h one.course.past stands.here) (λ tenant window. inl refl);
        conn = refl;
        opened = record { going = opened.going; stores = small-append one.stores (stores_of one.races) opened.stores (small-stores one.races opened.races); races = tt };
        same_chain = refl;
        tries = none-fails s (line.Submit one.conn method number addr) one h (h ++ event_on one.conn (what.Away method number addr) ∷ [])
            (one-still laws.growth one.conn s.table h (what.Away method number addr) (λ past. refl));
      }

  does-submit : (method number addr : ℕ) → IsValid s.table → 1 ≤ s.loads
      → length (pending_calls one.course.past) ≤ MAX_CALLS → DoesOn s (line.Submit one.conn method number addr) one h
  does-submit method number addr valid least few = elim (cases_lt (length (pending_calls one.course.past)) MAX_CALLS) [
    | inl low ↦ does-take method number addr low
        (taken-somehow graphs s.table one.words s.loads method number addr (read_at one.stores one.races) valid least (read-small one.stores one.races opened.stores opened.races))
    | inr high ↦ does-turn-away method number addr (let full : length (pending_calls one.course.past) ≡ MAX_CALLS = omega arith in full)
  ]

  -- ---- operators and the clock

  does-operate : (l : ScriptLine) (step : Step) → op_in s.declared.policies l ≡ Some step
      → HasChanged (chain one.course.past) step (changed step (chain one.course.past)) → DoesOn s l one h
  does-operate l step is change =
      let c : ConnState = record one.course { past = what.Op step ∷ one.course.past; row = moved_by step (chain one.course.past).entries one.course.row } in
      let comes : IsTransition u one.course (operates step) c = changes step refl change refl in
      record {
        other = with_state one c;
        history = h ++ event_on one.conn (what.Op step) ∷ [];
        does = operates_on step c is comes refl;
        grows = grows-more laws.growth one.conn h h one.course.past one.course.past (what.Op step) (grows-none one.conn h one.course.past stands.here) (λ tenant window. inl refl);
        conn = refl;
        opened = with-course c opened.going;
        same_chain = ap (λ o. chain_after_op o (chain one.course.past)) (sym is);
        tries = none-fails s l one h (h ++ event_on one.conn (what.Op step) ∷ []) (one-still laws.growth one.conn s.table h (what.Op step) (λ past. refl));
      }

  does-moment : (ms : ℕ) → DoesOn s (line.Moment one.conn ms) one h
  does-moment ms = elim (cases_lt (timestamp one.course.past) ms) [
    | inl later ↦
        let c : ConnState = record one.course { past = what.Moment ms ∷ one.course.past } in
        let comes : IsTransition u one.course (shows ms) c = rises ms refl later refl in
        record {
          other = with_state one c;
          history = h ++ event_on one.conn (what.Moment ms) ∷ [];
          does = advances_clock ms c refl comes refl;
          grows = grows-more laws.growth one.conn h h one.course.past one.course.past (what.Moment ms) (grows-none one.conn h one.course.past stands.here) (λ tenant window. inl refl);
          conn = refl;
          opened = with-course c opened.going;
          same_chain = refl;
          tries = none-fails s (line.Moment one.conn ms) one h (h ++ event_on one.conn (what.Moment ms) ∷ [])
              (one-still laws.growth one.conn s.table h (what.Moment ms) (λ past. refl));
        }
    | inr earlier ↦ record {
      other = with_state one one.course;
      history = h;
      does = advances_clock ms one.course refl (stays ms refl earlier refl) refl;
      grows = grows-none one.conn h one.course.past stands.here;
      conn = refl;
      opened = with-course one.course opened.going;
      same_chain = refl;
      tries = none-fails s (line.Moment one.conn ms) one h h refl;
    }
  ]

  -- ---- turns

  does-turn-by : (at : ℕ) → at < length (entries_of one.course) → (found : Option (ℕ × ℕ)) → first_at at one.course.row ≡ found → DoesOn s (line.Turn one.conn at) one h
  does-turn-by at low None is = record {
    other = one;
    history = h;
    does = is_idle at refl is refl;
    grows = grows-none one.conn h one.course.past stands.here;
    conn = refl;
    opened = opened;
    same_chain = refl;
    tries = none-fails s (line.Turn one.conn at) one h h refl;
  }
  does-turn-by at low (Some x) is =
      let t = has-turn laws u h one.course stands at x low is in
      let c : ConnState = trace_after_turn t.entry t.seq t.outcome one.course in
      let comes : IsTransition u one.course (turns at t.seq t.outcome) c = has_turn at t.seq t.outcome t.entry refl t.has refl in
      record {
        other = with_state one c;
        history = t.history;
        does = does_turn at t.seq t.outcome c refl comes refl;
        grows = t.grows;
        conn = refl;
        opened = with-course c t.stands.going;
        same_chain = chain-turned t.entry t.seq t.outcome one.course;
        tries = none-fails s (line.Turn one.conn at) one h t.history t.still;
      }

  -- ---- sends

  -- the send of a ready call can fail
  fails-at : (l : ScriptLine) (at : ConnState) (i : History) (n : ℕ) → CanSendAt s l one at → Grows one.conn h one.course.past i at.past → Stands u i at
      → (seq bytes : ℕ) → IsReady u at seq bytes → length (frames s.table i) ≡ n → FailsOn s l one h n
  fails-at l at i n gets grows there seq bytes ready count =
      let calls : List AcceptedCall = pending_calls at.past in
      let c : ConnState = record { past = refused_for_link calls at.past; row = []; ended = true } in
      let refused = refusals-grow laws.growth one.conn calls i at.past there.here in
      record {
        tried = ready.sent;
        other = with_state one c;
        history = after_refusals laws.growth one.conn calls i;
        fails = record { at = at; gets = gets; seq = seq; bytes = bytes; ready = ready; is_tried = refl; refused = link_failed refl refl; same = refl };
        grows = grows-then one.conn h i (after_refusals laws.growth one.conn calls i) one.course.past at.past c.past grows refused;
        count = refusals-still laws.growth one.conn s.table calls i ∙ count;
      }

  does-send-by : (found : Option (ℕ × ℕ)) → first_at (length (entries_of one.course)) one.course.row ≡ found → DoesOn s (line.Send one.conn) one h
  does-send-by None is = record {
    other = one;
    history = h;
    does = none_ready refl is refl;
    grows = grows-none one.conn h one.course.past stands.here;
    conn = refl;
    opened = opened;
    same_chain = refl;
    tries = none-fails s (line.Send one.conn) one h h refl;
  }
  does-send-by (Some x) is =
      let l = leaves laws u h one.course stands x is in
      record {
        other = with_state one l.course;
        history = l.history;
        does = does_send l.seq l.bytes l.course refl l.comes refl;
        grows = l.grows;
        conn = refl;
        opened = with-course l.course l.stands.going;
        same_chain = l.same_chain;
        tries = λ n from below.
            let more : length (frames s.table l.history) ≡ length (frames s.table h) + 1 = l.count in
            fails-at (line.Send one.conn) one.course h n (by_send refl refl) (grows-none one.conn h one.course.past stands.here) stands l.seq l.bytes l.ready
            (let here : length (frames s.table h) ≡ n = omega arith in here);
      }

  does-drain : DoesOn s (line.Drain one.conn) one h
  does-drain =
      let d = drains-on laws u h one.course stands in
      record {
        other = with_state one d.course;
        history = d.history;
        does = drains d.course refl d.drains refl;
        grows = d.grows;
        conn = refl;
        opened = with-course d.course d.stands.going;
        same_chain = d.same_chain;
        tries = λ n from below.
            let t = d.tries n from below in
            fails-at (line.Drain one.conn) t.course t.history n (by_drain refl t.begins) t.grows t.stands t.seq t.bytes t.ready t.count;
      }

  -- ---- each line

  -- what a script guarantees for a line of the connection
  pub record Given (l : ScriptLine) : Type 0 where
    pub valid : IsValid s.table
    pub least : 1 ≤ s.loads
    pub few : length (pending_calls one.course.past) ≤ MAX_CALLS
    pub ranges : IsValidLine (length s.declared.policies) l
    pub on : conn_of l ≡ one.conn
    pub uses : is_conn l ≡ false
    pub step : (o : Step) → op_in s.declared.policies l ≡ Some o → HasChanged (chain one.course.past) o (changed o (chain one.course.past))
    pub engine : (conn at : ℕ) → l ≡ line.Turn conn at → at < length (entries_of one.course)

  policy-at : (policy : ℕ) → policy < length s.declared.policies → (p : NamedPolicy) × (slice_get s.declared.policies policy ≡ Some p)
  policy-at policy low = elim ((slice_get_cases s.declared.policies policy).1) [
    | inl found ↦ (found.0, found.2)
    | inr past ↦ let far : length s.declared.policies ≤ policy = past.0 in absurd (omega arith)
  ]

  pub does-line : (l : ScriptLine) → Given l → DoesOn s l one h
  does-line (line.Conn conn words) g = absurd (let never : is_conn (line.Conn conn words) ≡ false = g.uses in cc)
  does-line (line.Store conn place value) g =
      subst (λ c. DoesOn s (line.Store c place value) one h) (sym g.on) (does-store place value g.ranges)
  does-line (line.Race conn load place value) g =
      subst (λ c. DoesOn s (line.Race c load place value) one h) (sym g.on) (does-race load place value g.ranges.1)
  does-line (line.Submit conn method number addr) g =
      subst (λ c. DoesOn s (line.Submit c method number addr) one h) (sym g.on) (does-submit method number addr g.valid g.least g.few)
  does-line (line.Attach conn at name policy) g =
      let p = policy-at policy g.ranges.1 in
      let is : op_in s.declared.policies (line.Attach conn at name policy) ≡ Some (op.Attach at name p.0.name p.0.policy) =
      ap (option_map (λ (q : NamedPolicy). op.Attach at name q.name q.policy)) p.1 in
      does-operate (line.Attach conn at name policy) (op.Attach at name p.0.name p.0.policy) is (g.step (op.Attach at name p.0.name p.0.policy) is)
  does-line (line.Detach conn name) g = does-operate (line.Detach conn name) (op.Detach name) refl (g.step (op.Detach name) refl)
  does-line (line.Upgrade conn name policy) g =
      let p = policy-at policy g.ranges.1 in
      let is : op_in s.declared.policies (line.Upgrade conn name policy) ≡ Some (op.Upgrade name p.0.name p.0.policy) =
      ap (option_map (λ (q : NamedPolicy). op.Upgrade name q.name q.policy)) p.1 in
      does-operate (line.Upgrade conn name policy) (op.Upgrade name p.0.name p.0.policy) is (g.step (op.Upgrade name p.0.name p.0.policy) is)
  does-line (line.Moment conn ms) g = subst (λ c. DoesOn s (line.Moment c ms) one h) (sym g.on) (does-moment ms)
  does-line (line.Turn conn at) g =
      subst (λ c. DoesOn s (line.Turn c at) one h) (sym g.on) (does-turn-by at (g.engine conn at refl) (first_at at one.course.row) refl)
  does-line (line.Send conn) g =
      subst (λ c. DoesOn s (line.Send c) one h) (sym g.on) (does-send-by (first_at (length (entries_of one.course)) one.course.row) refl)
  does-line (line.Drain conn) g = subst (λ c. DoesOn s (line.Drain c) one h) (sym g.on) does-drain
