-- A drain runs until no call can advance. Each turn brings calls nearer to the end of the chain, and a clear removes
-- parts of them. Each of its sends can fail.
use Rattle.std.proofs.Common.{◌≡◌, inl, inr, ℕ, zero, suc, ◌+◌, ◌-◌, ◌<◌, ◌≤◌, ◌==◌, not, [], ◌∷◌, ◌++◌, length, refl}
use Rattle.std.proofs.Common.{sym, ap, ◌∙◌, subst, arith}
use Rattle.std.specs.Prelude.{Option, Some, None}
use Rattle.std.proofs.lemmas.Bool.{cases_lt, eq-eqb}
use Rattle.frame_transport.specs.declared.format.TheConstants.{HEADER_LEN}
use Rattle.engine_core.specs.Moves.{Row, first_at, without_call}
use Rattle.engine_core.specs.declared.outcome.Outcome.{Outcome}
use Rattle.engine_core.specs.declared.outcome.Outcome.TheVariants as outcomes
use Rattle.call_history.specs.Trace.{chain}
use Rattle.call_history.specs.Draining.{HasPartlyDrained, HasDrained, TurnsEnding, IsFinalOutcome, IsPass, HasSentSome, HasTurns, again}
use Rattle.call_history.specs.Draining.{at_rest, begins_again, goes, is_held, is_idle, is_over, next, none, one}
use Rattle.call_history.specs.Draining.{redacts}
use Rattle.call_history.specs.Transitions.{IsTransition, ConnState, IsEntryTurn, IsReady, is_sent, sends, trace_after_turn}
use Rattle.call_history.specs.Frames.{frames}
use Rattle.call_history.specs.Legal.{History}
use Rattle.call_history.specs.Rules.{JudgeContext, payload}
use Rattle.call_history.specs.declared.happening.Happening.TheVariants.{Sent}
use Rattle.replay_run.specs.Follows.{event_on}
use Rattle.replay_laws.proofs.Found.{IsIn, filter-lt, found-at, total}
use Rattle.replay_laws.proofs.Growing.{Grows, grows-more, grows-none, grows-then, one-sent}
use Rattle.replay_laws.proofs.Outcomes.{redaction-clears}
use Rattle.replay_laws.proofs.Turning.{Stands, TurnLaws, Turned, chain-turned, distance, done-nearer, done-parts, entries_of, form-there, has-turn, parts, redacted-parts}

abbrev pub sent_by : JudgeContext → History → ℕ
sent_by u h = length (frames u.table h)

-- a connection reached another state, and nothing was sent
pub record ComesTo (u : JudgeContext) (h : History) (c : ConnState) (h' : History) (c' : ConnState) : Type 0 where
  pub grows : Grows u.conn h c.past h' c'.past
  pub stands : Stands u h' c'
  pub still : sent_by u h' ≡ sent_by u h
  pub same_chain : chain c'.past ≡ chain c.past

comes-none : (u : JudgeContext) (h : History) (c : ConnState) → Stands u h c → ComesTo u h c h c
comes-none u h c stands = record { grows = grows-none u.conn h c.past stands.here; stands = stands; still = refl; same_chain = refl }

comes-then : (u : JudgeContext) (h i j : History) (c d e : ConnState) → ComesTo u h c i d → ComesTo u i d j e → ComesTo u h c j e
comes-then u h i j c d e first second = record {
  grows = grows-then u.conn h i j c.past d.past e.past first.grows second.grows;
  stands = second.stands;
  still = second.still ∙ first.still;
  same_chain = second.same_chain ∙ first.same_chain;
}

turn-comes : (u : JudgeContext) (h : History) (c : ConnState) (position : ℕ) → (t : Turned u h c position)
    → ComesTo u h c t.history (trace_after_turn t.entry t.seq t.outcome c)
turn-comes u h c position t =
    record { grows = t.grows; stands = t.stands; still = t.still; same_chain = chain-turned t.entry t.seq t.outcome c }

-- ---- the turns of one entry

-- how many parts remain after turns that end so
abbrev IsLess : ℕ → ℕ → TurnsEnding → Type 0
IsLess new old at_rest = new ≤ old
IsLess new old again = new < old

record TurnsOn (u : JudgeContext) (position : ℕ) (h : History) (c : ConnState) : Type 0 where
  ending : TurnsEnding
  history : History
  course : ConnState
  turns : HasTurns u position c ending course
  comes : ComesTo u h c history course
  less : IsLess (parts u.conn course) (parts u.conn c) ending

less-le : (a b c : ℕ) (ending : TurnsEnding) → a ≤ b → IsLess c a ending → IsLess c b ending
less-le a b c at_rest le less = omega arith
less-le a b c again le less = omega arith

module _ (laws : TurnLaws) (u : JudgeContext) where
  abbrev TurnsFrom : ℕ → ℕ → Type 0
  TurnsFrom position fuel = (h : History) (c : ConnState) → Stands u h c → position < length (entries_of c)
      → distance (length (entries_of c)) c.row ≤ fuel → TurnsOn u position h c

  -- the entry is done with a call, and continues with the next
  turns-next : (position fuel : ℕ) (h : History) (c : ConnState) (t : Turned u h c position) → IsFinalOutcome t.outcome → position < length (entries_of c)
      → distance (length (entries_of c)) c.row ≤ suc fuel → TurnsFrom position fuel → TurnsOn u position h c
  turns-next position fuel h c t done low few others =
      let mid : ConnState = trace_after_turn t.entry t.seq t.outcome c in
      let same : length (entries_of mid) ≡ length (entries_of c) = ap (λ k. length k.entries) (chain-turned t.entry t.seq t.outcome c) in
      let end : ℕ = length (entries_of c) in
      let nearer : distance end mid.row < distance end c.row = done-nearer end t.entry t.seq position t.outcome c done t.there low in
      let close : distance end mid.row ≤ fuel = omega arith in
      let rest = others t.history mid t.stands (subst (λ n. position < n) (sym same) low) (subst (λ n. distance n mid.row ≤ fuel) (sym same) close) in
      record {
        ending = rest.ending;
        history = rest.history;
        course = rest.course;
        turns = goes c rest.course rest.ending t.seq t.outcome t.entry t.has done rest.turns;
        comes = comes-then u h t.history rest.history c mid rest.course (turn-comes u h c position t) rest.comes;
        less = less-le (parts u.conn mid) (parts u.conn c) (parts u.conn rest.course) rest.ending (done-parts u.conn t.entry t.seq t.outcome c done) rest.less;
      }

  -- an entry that holds a call is done, and one that clears fields starts again
  turn-by : (position fuel : ℕ) (h : History) (c : ConnState) → Stands u h c → (t : Turned u h c position) (outcome : Outcome) → t.outcome ≡ outcome
      → position < length (entries_of c) → distance (length (entries_of c)) c.row ≤ suc fuel → TurnsFrom position fuel → TurnsOn u position h c
  turn-by position fuel h c stands t (outcomes.Passed n) is low few others =
      turns-next position fuel h c t (subst IsFinalOutcome (sym is) tt) low few others
  turn-by position fuel h c stands t (outcomes.Held left cost) is low few others = record {
    ending = at_rest;
    history = h;
    course = c;
    turns = is_held c t.seq left cost t.entry (subst (λ o. IsEntryTurn u c position t.seq o t.entry) is t.has);
    comes = comes-none u h c stands;
    less = omega arith;
  }
  turn-by position fuel h c stands t (outcomes.Refused n why) is low few others =
      turns-next position fuel h c t (subst IsFinalOutcome (sym is) tt) low few others
  turn-by position fuel h c stands t outcomes.Redacted is low few others =
      let has : IsEntryTurn u c position t.seq outcomes.Redacted t.entry = subst (λ o. IsEntryTurn u c position t.seq o t.entry) is t.has in
      let clears = redaction-clears t.entry.policy _ _ has.call _ has.comes in
      record {
        ending = again;
        history = t.history;
        course = trace_after_turn t.entry t.seq outcomes.Redacted c;
        turns = redacts c t.seq t.entry has;
        comes = subst (λ o. ComesTo u h c t.history (trace_after_turn t.entry t.seq o c)) is (turn-comes u h c position t);
        less = redacted-parts laws.smaller u.conn t.entry t.seq position c has.call clears.0 t.there has.is_form
            (t.policy ∙ ap (λ p. Some p) clears.1) clears.2;
      }

  turns-idle : (position : ℕ) (h : History) (c : ConnState) → Stands u h c → first_at position c.row ≡ None → TurnsOn u position h c
  turns-idle position h c stands empty = record {
    ending = at_rest;
    history = h;
    course = c;
    turns = is_idle c empty;
    comes = comes-none u h c stands;
    less = omega arith;
  }

  turns-found : (position fuel : ℕ) (h : History) (c : ConnState) → Stands u h c → (found : Option (ℕ × ℕ)) → first_at position c.row ≡ found
      → position < length (entries_of c) → distance (length (entries_of c)) c.row ≤ suc fuel → TurnsFrom position fuel → TurnsOn u position h c
  turns-found position fuel h c stands None is low few others = turns-idle position h c stands is
  turns-found position fuel h c stands (Some x) is low few others =
      let t = has-turn laws u h c stands position x low is in
      turn-by position fuel h c stands t t.outcome refl low few others

  none-near : (position : ℕ) (h : History) (c : ConnState) → Stands u h c → (found : Option (ℕ × ℕ)) → first_at position c.row ≡ found
      → position < length (entries_of c) → distance (length (entries_of c)) c.row ≤ zero → TurnsOn u position h c
  none-near position h c stands None is low few = turns-idle position h c stands is
  none-near position h c stands (Some x) is low few =
      let t = has-turn laws u h c stands position x low is in
      let near : length (entries_of c) - position ≤ distance (length (entries_of c)) c.row = in-total (length (entries_of c)) (t.seq, position) c.row t.there in
      absurd (omega arith)
    where
      in-total : (end : ℕ) (x : ℕ × ℕ) (row : Row) → IsIn x row → end - x.1 ≤ distance end row
      in-total end x [] there = absurd there
      in-total end x (y ∷ row) (inl here) = let same : end - x.1 ≡ end - y.1 = ap (λ (z : ℕ × ℕ). end - z.1) here in omega arith
      in-total end x (y ∷ row) (inr there) = let rest : end - x.1 ≤ distance end row = in-total end x row there in omega arith

  turns-from : (position fuel : ℕ) → TurnsFrom position fuel
  turns-from position zero h c stands low few = none-near position h c stands (first_at position c.row) refl low few
  turns-from position (suc fuel) h c stands low few =
      turns-found position fuel h c stands (first_at position c.row) refl low few (turns-from position fuel)

  -- ---- the turns of all entries

  record PassesOn (position : ℕ) (h : History) (c : ConnState) : Type 0 where
    history : History
    course : ConnState
    passes : IsPass u position c course
    comes : ComesTo u h c history course

  abbrev PassesBelow : ℕ → Type 0
  PassesBelow weight = (h : History) (c : ConnState) → Stands u h c → parts u.conn c < weight → PassesOn 0 h c

  pass-by : (weight : ℕ) (position : ℕ) (h : History) (c : ConnState) → PassesBelow weight → position < length (entries_of c) → parts u.conn c ≤ weight
      → (first : TurnsOn u position h c) (ending : TurnsEnding) → first.ending ≡ ending
      → ((i : History) (d : ConnState) → Stands u i d → parts u.conn d ≤ weight → length (entries_of d) ≡ length (entries_of c) → PassesOn (position + 1) i d)
      → PassesOn position h c
  pass-by weight position h c below low few first at_rest is others =
      let less : parts u.conn first.course ≤ parts u.conn c = subst (IsLess (parts u.conn first.course) (parts u.conn c)) is first.less in
      let rest = others first.history first.course first.comes.stands (omega arith) (ap (λ k. length k.entries) first.comes.same_chain) in
      record {
        history = rest.history;
        course = rest.course;
        passes = next position c first.course rest.course low (subst (λ e. HasTurns u position c e first.course) is first.turns) rest.passes;
        comes = comes-then u h first.history rest.history c first.course rest.course first.comes rest.comes;
      }
  pass-by weight position h c below low few first again is others =
      let less : parts u.conn first.course < parts u.conn c = subst (IsLess (parts u.conn first.course) (parts u.conn c)) is first.less in
      let rest = below first.history first.course first.comes.stands (omega arith) in
      record {
        history = rest.history;
        course = rest.course;
        passes = begins_again position c first.course rest.course low (subst (λ e. HasTurns u position c e first.course) is first.turns) rest.passes;
        comes = comes-then u h first.history rest.history c first.course rest.course first.comes rest.comes;
      }

  passes-from : (weight : ℕ) → PassesBelow weight → (left position : ℕ) (h : History) (c : ConnState) → Stands u h c → parts u.conn c ≤ weight
      → length (entries_of c) ≡ position + left → PassesOn position h c
  passes-from weight below zero position h c stands few long = record {
    history = h;
    course = c;
    passes = is_over position c (let here : position ≡ length (entries_of c) = omega arith in here);
    comes = comes-none u h c stands;
  }
  passes-from weight below (suc left) position h c stands few long =
      let low : position < length (entries_of c) = omega arith in
      let enough : distance (length (entries_of c)) c.row ≤ distance (length (entries_of c)) c.row = omega arith in
      let first = turns-from position (distance (length (entries_of c)) c.row) h c stands low enough in
      pass-by weight position h c below low few first first.ending refl
      (λ i d there fewer same.
      let longer : length (entries_of d) ≡ position + 1 + left = omega arith in
      passes-from weight below left (position + 1) i d there fewer longer)

  passes-below : (weight : ℕ) → PassesBelow weight
  passes-below zero h c stands low = absurd (omega arith)
  passes-below (suc weight) h c stands low =
      let few : parts u.conn c ≤ weight = omega arith in
      let long : length (entries_of c) ≡ 0 + length (entries_of c) = omega arith in
      passes-from weight (passes-below weight) (length (entries_of c)) 0 h c stands few long

  -- ---- sends

  -- a call is ready after this many sends
  pub record IsReadyAt (old : ConnState) (h : History) (n : ℕ) : Type 0 where
    pub history : History
    pub course : ConnState
    pub sent : HasSentSome u old course
    pub grows : Grows u.conn h old.past history course.past
    pub stands : Stands u history course
    pub seq : ℕ
    pub bytes : ℕ
    pub ready : IsReady u course seq bytes
    pub count : sent_by u history ≡ n

  pub record SendsOn (h : History) (c : ConnState) : Type 0 where
    pub history : History
    pub course : ConnState
    pub sent : HasSentSome u c course
    pub grows : Grows u.conn h c.past history course.past
    pub stands : Stands u history course
    pub same_chain : chain course.past ≡ chain c.past
    pub none_ready : first_at (length (entries_of course)) course.row ≡ None
    pub more : sent_by u h ≤ sent_by u history
    pub tries : (n : ℕ) → sent_by u h ≤ n → n < sent_by u history → IsReadyAt c h n

  -- the first ready call leaves
  pub record Leaves (h : History) (c : ConnState) : Type 0 where
    pub seq : ℕ
    pub bytes : ℕ
    pub ready : IsReady u c seq bytes
    pub history : History
    pub course : ConnState
    pub comes : IsTransition u c (sends seq bytes) course
    pub grows : Grows u.conn h c.past history course.past
    pub stands : Stands u history course
    pub same_chain : chain course.past ≡ chain c.past
    pub fewer : length course.row < length c.row
    pub count : sent_by u history ≡ sent_by u h + 1

  ones : (row : Row) → total (λ call. 1) row ≡ length row
  ones [] = refl
  ones (x ∷ row) = let rest : total (λ call. 1) row ≡ length row = ones row in omega arith

  pub leaves : (h : History) (c : ConnState) → Stands u h c → (x : ℕ × ℕ) → first_at (length (entries_of c)) c.row ≡ Some x → Leaves h c
  leaves h c stands x found =
      let end : ℕ = length (entries_of c) in
      let at = found-at end c.row x found in
      let same : x ≡ (x.0, end) = ap (λ p. (x.0, p)) at.1 in
      let there : IsIn (x.0, end) c.row = subst (λ y. IsIn y c.row) same at.0 in
      let call = form-there laws u h c stands x.0 end there in
      let bytes : ℕ = HEADER_LEN + length (payload u.table call.0) in
      let ready : IsReady u c x.0 bytes = record { first = found ∙ ap (λ y. Some y) same; sent = call.0; is_form = call.1; long = refl } in
      let new : ConnState = record c { past = Sent x.0 bytes ∷ c.past; row = without_call x.0 c.row } in
      let comes : IsTransition u c (sends x.0 bytes) new = is_sent x.0 bytes refl stands.going ready refl in
      let grows = grows-more laws.growth u.conn h h c.past c.past (Sent x.0 bytes) (grows-none u.conn h c.past stands.here) (λ tenant window. inl refl) in
      let fewer : total (λ call. 1) (without_call x.0 c.row) < total (λ call. 1) c.row =
      filter-lt (λ (call : ℕ × ℕ). 1) (λ (call : ℕ × ℕ). not (x.0 == call.0)) c.row (x.0, end) there (ap not (eq-eqb x.0 x.0 refl)) (omega arith) in
      record {
        seq = x.0;
        bytes = bytes;
        ready = ready;
        history = h ++ event_on u.conn (Sent x.0 bytes) ∷ [];
        course = new;
        comes = comes;
        grows = grows;
        stands = record { course = laws.keeps u c new (sends x.0 bytes) stands.course comes; going = stands.going; here = grows.here };
        same_chain = refl;
        fewer = omega (arith, ones (without_call x.0 c.row), ones c.row, fewer);
        count = one-sent laws.growth u.conn u.table h x.0 bytes;
      }

  at-once : (h : History) (c : ConnState) → Stands u h c → (l : Leaves h c) (n : ℕ) → sent_by u h ≡ n → IsReadyAt c h n
  at-once h c stands l n is = record {
    history = h;
    course = c;
    sent = none c;
    grows = grows-none u.conn h c.past stands.here;
    stands = stands;
    seq = l.seq;
    bytes = l.bytes;
    ready = l.ready;
    count = is;
  }

  behind-one : (h : History) (c : ConnState) (l : Leaves h c) (n : ℕ) → IsReadyAt l.course l.history n → IsReadyAt c h n
  behind-one h c l n later = record {
    history = later.history;
    course = later.course;
    sent = one c l.course later.course l.seq l.bytes l.comes later.sent;
    grows = grows-then u.conn h l.history later.history c.past l.course.past later.course.past l.grows later.grows;
    stands = later.stands;
    seq = later.seq;
    bytes = later.bytes;
    ready = later.ready;
    count = later.count;
  }

  sends-idle : (h : History) (c : ConnState) → Stands u h c → first_at (length (entries_of c)) c.row ≡ None → SendsOn h c
  sends-idle h c stands empty = record {
    history = h;
    course = c;
    sent = none c;
    grows = grows-none u.conn h c.past stands.here;
    stands = stands;
    same_chain = refl;
    none_ready = empty;
    more = omega arith;
    tries = λ n from below. absurd (omega arith);
  }

  sends-by : (fuel : ℕ) (h : History) (c : ConnState) → Stands u h c → (found : Option (ℕ × ℕ)) → first_at (length (entries_of c)) c.row ≡ found → length c.row ≤ fuel
      → ((i : History) (d : ConnState) → Stands u i d → length d.row < fuel → SendsOn i d) → SendsOn h c
  sends-by fuel h c stands None is few others = sends-idle h c stands is
  sends-by fuel h c stands (Some x) is few others =
      let l = leaves h c stands x is in
      let fewer : length l.course.row < length c.row = l.fewer in
      let rest = others l.history l.course l.stands (omega arith) in
      record {
        history = rest.history;
        course = rest.course;
        sent = one c l.course rest.course l.seq l.bytes l.comes rest.sent;
        grows = grows-then u.conn h l.history rest.history c.past l.course.past rest.course.past l.grows rest.grows;
        stands = rest.stands;
        same_chain = rest.same_chain ∙ l.same_chain;
        none_ready = rest.none_ready;
        more =
            let once : sent_by u l.history ≡ sent_by u h + 1 = l.count in
            let later : sent_by u l.history ≤ sent_by u rest.history = rest.more in
            omega arith;
        tries = λ n from below. elim (cases_lt (sent_by u h) n) [
          | inl later ↦
              let more : sent_by u l.history ≡ sent_by u h + 1 = l.count in
              behind-one h c l n (rest.tries n (omega arith) below)
          | inr end ↦ at-once h c stands l n (let here : sent_by u h ≡ n = omega arith in here)
        ];
      }

  pub sends-on : (fuel : ℕ) (h : History) (c : ConnState) → Stands u h c → length c.row < fuel → SendsOn h c
  sends-on zero h c stands few = absurd (omega arith)
  sends-on (suc fuel) h c stands few =
      let low : length c.row ≤ fuel = omega arith in
      sends-by fuel h c stands (first_at (length (entries_of c)) c.row) refl low
      (λ i d there fewer. sends-on fuel i d there fewer)

  -- ---- a drain

  -- a call is ready after this many sends of a drain
  pub record DrainTries (old : ConnState) (h : History) (n : ℕ) : Type 0 where
    pub history : History
    pub course : ConnState
    pub begins : HasPartlyDrained u old course
    pub grows : Grows u.conn h old.past history course.past
    pub stands : Stands u history course
    pub seq : ℕ
    pub bytes : ℕ
    pub ready : IsReady u course seq bytes
    pub count : sent_by u history ≡ n

  pub record DrainsOn (h : History) (c : ConnState) : Type 0 where
    pub history : History
    pub course : ConnState
    pub drains : HasDrained u c course
    pub grows : Grows u.conn h c.past history course.past
    pub stands : Stands u history course
    pub same_chain : chain course.past ≡ chain c.past
    pub tries : (n : ℕ) → sent_by u h ≤ n → n < sent_by u history → DrainTries c h n

  drain-tries : (h : History) (c : ConnState) (p : PassesOn 0 h c) (n : ℕ) → IsReadyAt p.course p.history n → DrainTries c h n
  drain-tries h c p n at = record {
    history = at.history;
    course = at.course;
    begins = record { between = p.course; passes = p.passes; sent = at.sent };
    grows = grows-then u.conn h p.history at.history c.past p.course.past at.course.past p.comes.grows at.grows;
    stands = at.stands;
    seq = at.seq;
    bytes = at.bytes;
    ready = at.ready;
    count = at.count;
  }

  pub drains-on : (h : History) (c : ConnState) → Stands u h c → DrainsOn h c
  drains-on h c stands =
      let p = passes-below (suc (parts u.conn c)) h c stands (omega arith) in
      let s = sends-on (suc (length p.course.row)) p.history p.course p.comes.stands (omega arith) in
      record {
        history = s.history;
        course = s.course;
        drains = record { begins = record { between = p.course; passes = p.passes; sent = s.sent }; none_ready = s.none_ready };
        grows = grows-then u.conn h p.history s.history c.past p.course.past s.course.past p.comes.grows s.grows;
        stands = s.stands;
        same_chain = s.same_chain ∙ p.comes.same_chain;
        tries = λ n from below. drain-tries h c p n (s.tries n (subst (λ m. m ≤ n) (sym p.comes.still) from) below);
      }
