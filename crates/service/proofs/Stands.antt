-- Connections that start, one after another.
use Rattle.std.proofs.Common.{◌≡◌, ℕ, ◌+◌, ◌<◌, ◌≤◌, List, [], ◌∷◌, ◌++◌, get_or, length, map, All, Some, None, refl}
use Rattle.std.proofs.Common.{sym, ap, subst, ◌∙◌, arith, length-append, append-nil, append_assoc}
use Rattle.std.specs.Global.{Vec}
use Rattle.std.specs.List.{AllZip}
use Rattle.std.proofs.lemmas.List.{length-map, map-append}
use Rattle.std.proofs.lemmas.List.Elements.{All-map, All-weaker}
use Rattle.std.proofs.lemmas.Option.{same_Some}
use Rattle.mrpc_base.specs.declared.link.Link.{Ghosts as LinkMembers}
use Rattle.tenant_quota.specs.Drawing.{Drawing, IsShareAfter, all_shares, kept_half, new_half}
use Rattle.link_handshake.specs.declared.unbound.Unbound.{Unbound as Cause}
use Rattle.link_queue.specs.declared.writer.QueueWriter.{QueueWriter}
use Rattle.receive_core.specs.ReceiverTraces.{after_piece, after_hello, empty_trace}
use Rattle.run_plan.specs.declared.application.Application.{Application}
use Rattle.run_plan.specs.declared.plan.Plan.{Plan}
use Rattle.service_loop.specs.declared.scheduled_op.ScheduledOp.{ScheduledOp}
use Rattle.service_wiring.specs.Scheduling.{AreOpsOfPlan}
use Rattle.service_wiring.specs.Wired.{ConnectionStart, IsWired}
use Rattle.service_wiring.specs.declared.applications.AppTask.{AppTask}
use Rattle.service_threads.specs.Closings.{AreWired, ServedEndpoint, Opening}
use Rattle.service_threads.specs.Joining.{IsSeatSplit}
use Rattle.service.specs.Ends.{OpenedEnd}
use Rattle.service.specs.Handshakes.{IsHelloOutcome, IsHandshakeEnd, WasHelloReceived}
use Rattle.service.specs.PreparedRun.{HasScheduledOps}
use Rattle.service.specs.Served.{WasRefused}
use Rattle.service.specs.Starting.{AllStarted, AreStartStates, HaveStarted, HaveScheduledOpsAt, IsStartedEnd, IsUnboundEnd, HasStartedNext}
use Rattle.service.proofs.Apps.{app-number}
use Rattle.service.proofs.Zips.{next-of, none-left, zip-at, zip-within}
use Rattle.service.specs.declared.starting.StartState.{StartState}
use Rattle.service.specs.declared.starting.StartState.TheVariants.{Bound, Unbound}
use Rattle.service.specs.declared.handshake.HandshakeEnd.{HandshakeEnd}

-- ---- seats

pub split-push : (whole : List Drawing) (owns : List (List Drawing)) (rest own : List Drawing)
    → IsSeatSplit whole owns rest → own ≡ map new_half rest → IsSeatSplit whole (owns ++ own ∷ []) (map kept_half rest)
split-push whole [] rest own split is = (is ∙ ap (map new_half) split, ap (map kept_half) split)
split-push whole (x ∷ owns) rest own split is = (split.0, split-push (map kept_half whole) owns rest own split.1 is)

pub not-drawn-new : (seats : List Drawing) → All (λ seat. seat.draws ≡ []) (map new_half seats)
not-drawn-new seats = All-map (λ (seat : Drawing). seat.draws ≡ []) new_half seats (λ k d less. refl)

not-drawn-kept : (seats : List Drawing) → All (λ seat. seat.draws ≡ []) seats
    → All (λ seat. seat.draws ≡ []) (map kept_half seats)
not-drawn-kept seats h = All-map (λ (seat : Drawing). seat.draws ≡ []) kept_half seats h

-- ---- what the threads get

pub wired-push : {C R L : Type 0} {g : LinkMembers L} (openings : List (Opening C L)) (items : List (ServedEndpoint C))
    (jobs : List AppTask) (writers : List (QueueWriter R L g)) (o : Opening C L) (item : ServedEndpoint C) (job : AppTask)
    (writer : QueueWriter R L g) → AreWired openings items jobs writers
    → IsWired o.plan o.app o.begun item job writer
    → AreWired (openings ++ o ∷ []) (items ++ item ∷ []) (jobs ++ job ∷ []) (writers ++ writer ∷ [])
wired-push [] [] [] [] o item job writer are here = (here, tt)
wired-push (x ∷ openings) (y ∷ items) (z ∷ jobs) (w ∷ writers) o item job writer are here =
    (are.0, wired-push openings items jobs writers o item job writer are.1 here)
wired-push _ _ _ _ o item job writer are here = absurd are

module _ {C L : Type 0} (of_link : LinkMembers L) (plan : Plan) (clock : C) where
  -- ---- the states of connections

  out-push : (ends : List (OpenedEnd L)) (standings : List (StartState L)) (openings : List (Opening C L)) (e : OpenedEnd L)
      (conn : ℕ) (link : L) (why : Cause) → AreStartStates of_link plan clock ends standings openings
      → IsUnboundEnd of_link plan clock e conn link why
      → AreStartStates of_link plan clock (ends ++ e ∷ []) (standings ++ Unbound conn link why ∷ []) openings
  out-push [] [] openings e conn link why are out = (out, are)
  out-push [] (s ∷ standings) openings e conn link why are out = absurd are
  out-push (x ∷ ends) [] openings e conn link why are out = absurd are
  out-push (x ∷ ends) (Unbound c l w ∷ standings) openings e conn link why are out =
      (are.0, out-push ends standings openings e conn link why are.1 out)
  out-push (x ∷ ends) (Bound c ∷ standings) openings e conn link why are out =
      (are.0, are.1, are.2, are.3, out-push ends standings are.1 e conn link why are.4 out)

  bound-push : (ends : List (OpenedEnd L)) (standings : List (StartState L)) (openings : List (Opening C L)) (e : OpenedEnd L)
      (conn : ℕ) (o : Opening C L) → AreStartStates of_link plan clock ends standings openings
      → IsStartedEnd of_link plan clock e conn o
      → AreStartStates of_link plan clock (ends ++ e ∷ []) (standings ++ Bound conn ∷ []) (openings ++ o ∷ [])
  bound-push [] [] openings e conn o are begun = (o, [], ap (λ os. os ++ o ∷ []) are, begun, refl)
  bound-push [] (s ∷ standings) openings e conn o are begun = absurd are
  bound-push (x ∷ ends) [] openings e conn o are begun = absurd are
  bound-push (x ∷ ends) (Unbound c l w ∷ standings) openings e conn o are begun =
      (are.0, bound-push ends standings openings e conn o are.1 begun)
  bound-push (x ∷ ends) (Bound c ∷ standings) openings e conn o are begun = (
    are.0,
    are.1 ++ o ∷ [],
    ap (λ os. os ++ o ∷ []) are.2,
    are.3,
    bound-push ends standings are.1 e conn o are.4 begun,
  )

  module _ {R : Type 0} (whole : List Drawing) (ends : List (OpenedEnd L)) (standings : List (StartState L))
      (items : List (ServedEndpoint C)) (jobs : List AppTask) (writers : List (QueueWriter R L of_link)) (seats : List Drawing)
      (h : HaveStarted of_link plan clock whole ends standings items jobs writers seats) where
    -- one more that isn't bound
    out-begun : (e : OpenedEnd L) (conn : ℕ) (link : L) (why : Cause) → IsUnboundEnd of_link plan clock e conn link why
        → HaveStarted of_link plan clock whole (ends ++ e ∷ []) (standings ++ Unbound conn link why ∷ []) items jobs
        writers seats
    out-begun e conn link why out =
        let more = length-append ends (e ∷ []) in
        let one = length-append standings (Unbound conn link why ∷ []) in
        record {
          openings = h.openings;
          standing = out-push ends standings h.openings e conn link why h.standing out;
          wired = h.wired;
          split = h.split;
          shares = h.shares;
          tenants = h.tenants;
          not_drawn = h.not_drawn;
          few = omega (arith, h.few, more);
          as_many = omega (arith, h.as_many, more, one);
        }

    pub out-next : (standings' : List (StartState L)) (items' : List (ServedEndpoint C)) (jobs' : List AppTask)
        (writers' : List (QueueWriter R L of_link)) (seats' : List Drawing) (e : OpenedEnd L) (conn : ℕ) (link : L)
        (why : Cause) → IsUnboundEnd of_link plan clock e conn link why → standings' ≡ standings ++ Unbound conn link why ∷ []
        → items' ≡ items → jobs' ≡ jobs → writers' ≡ writers → seats' ≡ seats
        → HaveStarted of_link plan clock whole (ends ++ e ∷ []) standings' items' jobs' writers' seats'
    out-next standings' items' jobs' writers' seats' e conn link why out stands same_items same_jobs same_writers
        same_seats =
        subst (λ xs. HaveStarted of_link plan clock whole (ends ++ e ∷ []) xs items' jobs' writers' seats') (sym stands)
        (subst (λ xs. HaveStarted of_link plan clock whole (ends ++ e ∷ []) (standings ++ Unbound conn link why ∷ []) xs
        jobs' writers' seats') (sym same_items)
        (subst (λ xs. HaveStarted of_link plan clock whole (ends ++ e ∷ []) (standings ++ Unbound conn link why ∷ [])
        items xs writers' seats') (sym same_jobs)
        (subst (λ xs. HaveStarted of_link plan clock whole (ends ++ e ∷ []) (standings ++ Unbound conn link why ∷ [])
        items jobs xs seats') (sym same_writers)
        (subst (λ xs. HaveStarted of_link plan clock whole (ends ++ e ∷ []) (standings ++ Unbound conn link why ∷ [])
        items jobs writers xs) (sym same_seats) (out-begun e conn link why out)))))

    -- one more that is bound
    bound-begun : (e : OpenedEnd L) (app : Application) (first : ConnectionStart C L) (item : ServedEndpoint C) (job : AppTask)
        (writer : QueueWriter R L of_link)
        → IsStartedEnd of_link plan clock e app.conn (record { plan = plan; app = app; begun = first })
        → IsWired plan app first item job writer → first.seats ≡ map new_half seats
        → ((times : ℕ) (some : List Drawing) → All (λ seat. IsShareAfter times seat.share) some
        → All (λ seat. IsShareAfter (times + 1) seat.share) (map kept_half some))
        → HaveStarted of_link plan clock whole (ends ++ e ∷ []) (standings ++ Bound app.conn ∷ []) (items ++ item ∷ [])
        (jobs ++ job ∷ []) (writers ++ writer ∷ []) (map kept_half seats)
    bound-begun e app first item job writer begun wired halves once_more =
        let o : Opening C L = record { plan = plan; app = app; begun = first } in
        let more = length-append ends (e ∷ []) in
        let one = length-append standings (Bound app.conn ∷ []) in
        let items-more : length (items ++ item ∷ []) ≡ length items + 1 = length-append items (item ∷ []) in
        record {
          openings = h.openings ++ o ∷ [];
          standing = bound-push ends standings h.openings e app.conn o h.standing begun;
          wired = wired-push h.openings items jobs writers o item job writer h.wired wired;
          split = subst (λ owns. IsSeatSplit whole owns (map kept_half seats))
              (sym (map-append (λ (x : Opening C L). x.begun.seats) h.openings (o ∷ [])))
              (split-push whole (map (λ (x : Opening C L). x.begun.seats) h.openings) seats first.seats h.split halves);
          shares = subst (λ n. All (λ seat. IsShareAfter n seat.share) (map kept_half seats)) (sym items-more)
              (once_more (length items) seats h.shares);
          tenants = length-map seats kept_half ∙ h.tenants;
          not_drawn = not-drawn-kept seats h.not_drawn;
          few = omega (arith, h.few, more, items-more);
          as_many = omega (arith, h.as_many, more, one);
        }

    pub bound-next : (standings' : List (StartState L)) (items' : List (ServedEndpoint C)) (jobs' : List AppTask)
        (writers' : List (QueueWriter R L of_link)) (seats' : List Drawing) (e : OpenedEnd L) (app : Application)
        (first : ConnectionStart C L)
        → IsStartedEnd of_link plan clock e app.conn (record { plan = plan; app = app; begun = first })
        → HasStartedNext plan app first standings standings' items items' jobs jobs' writers writers' seats seats'
        → first.seats ≡ map new_half seats
        → ((times : ℕ) (some : List Drawing) → All (λ seat. IsShareAfter times seat.share) some
        → All (λ seat. IsShareAfter (times + 1) seat.share) (map kept_half some))
        → HaveStarted of_link plan clock whole (ends ++ e ∷ []) standings' items' jobs' writers' seats'
    bound-next standings' items' jobs' writers' seats' e app first begun took halves once_more =
        subst (λ xs. HaveStarted of_link plan clock whole (ends ++ e ∷ []) xs items' jobs' writers' seats')
        (sym took.stands)
        (subst (λ xs. HaveStarted of_link plan clock whole (ends ++ e ∷ []) (standings ++ Bound app.conn ∷ []) xs jobs'
        writers' seats') (sym took.one_item)
        (subst (λ xs. HaveStarted of_link plan clock whole (ends ++ e ∷ []) (standings ++ Bound app.conn ∷ [])
        (items ++ took.item ∷ []) xs writers' seats') (sym took.one_task)
        (subst (λ xs. HaveStarted of_link plan clock whole (ends ++ e ∷ []) (standings ++ Bound app.conn ∷ [])
        (items ++ took.item ∷ []) (jobs ++ took.job ∷ []) xs seats') (sym took.one_writer)
        (subst (λ xs. HaveStarted of_link plan clock whole (ends ++ e ∷ []) (standings ++ Bound app.conn ∷ [])
        (items ++ took.item ∷ []) (jobs ++ took.job ∷ []) (writers ++ took.writer ∷ []) xs) (sym took.halves)
        (bound-begun e app first took.item took.job took.writer begun took.wired halves once_more)))))

-- ---- operations

-- the operations at the next index are those of the next connection
pub steps-at : {L : Type 0} (plan : Plan) (ends later : List (OpenedEnd L)) (e : OpenedEnd L) (steps : List (Vec ScheduledOp))
    (n : ℕ) (due : Vec ScheduledOp) → HaveScheduledOpsAt plan (ends ++ e ∷ later) steps → n ≡ length ends
    → due ≡ get_or steps n due → HasScheduledOps plan e.conn due.items
steps-at plan ends later e steps n due have at is =
    subst (λ (d : Vec ScheduledOp). HasScheduledOps plan e.conn d.items) (sym (is ∙ ap (λ i. get_or steps i due) at))
    (zip-at (λ (o : OpenedEnd _) (d : Vec ScheduledOp). HasScheduledOps plan o.conn d.items) ends later e steps due have)

pub steps-within : {L : Type 0} (plan : Plan) (ends later : List (OpenedEnd L)) (e : OpenedEnd L)
    (steps : List (Vec ScheduledOp)) (n : ℕ) → HaveScheduledOpsAt plan (ends ++ e ∷ later) steps → n ≡ length ends
    → n < length steps
steps-within plan ends later e steps n have at =
    let less = zip-within (λ (o : OpenedEnd _) (d : Vec ScheduledOp). HasScheduledOps plan o.conn d.items) ends later e steps have in
    omega (arith, less, at)

-- ---- ends after the handshake

module _ {L : Type 0} (of_link : LinkMembers L) (plan : Plan) (e : OpenedEnd L) (g : HandshakeEnd L)
    (h : IsHandshakeEnd of_link plan e g) where
  pub when-heard : g.unbound ≡ None → WasHelloReceived of_link plan g.app.now e.link g.link g.arrivals g.reader
  when-heard is = subst (λ u. IsHelloOutcome of_link plan g.app.now e.link g.link g.arrivals g.reader u) is h.heard

  pub when-refused : (why : Cause) → g.unbound ≡ Some why → WasRefused of_link plan g.app.now e.link g.link why
  when-refused why is = subst (λ u. IsHelloOutcome of_link plan g.app.now e.link g.link g.arrivals g.reader u) is h.heard

  -- the prepared operations are those of its application
  pub its-steps : (steps : List ScheduledOp) → HasScheduledOps plan e.conn steps → AreOpsOfPlan plan g.app.now steps
  its-steps steps has =
      subst (λ (app : Application). AreOpsOfPlan plan app steps)
      (same_Some has.app g.app.now (sym has.its_app ∙ h.its_app)) has.are

  module _ {C : Type 0} (clock : C) where
    pub is-out : (why : Cause) → g.unbound ≡ Some why → IsUnboundEnd of_link plan clock e g.app.now.conn g.link why
    is-out why is = record {
      app = g.app.now;
      its_app = h.its_app;
      number = app-number plan e.conn g.app.now h.its_app;
      is_new = h.is_new;
      same_link = h.same_link;
      refused = when-refused why is;
    }

    -- the initial state of a bound connection
    abbrev pub first-of : (heard : WasHelloReceived of_link plan g.app.now e.link g.link g.arrivals g.reader)
        → List ScheduledOp → List Drawing → ConnectionStart C L
    first-of heard steps seats = record {
      arrivals = g.arrivals;
      life = after_hello (after_piece empty_trace heard.stream heard.fault) heard.hello;
      reader = g.reader;
      seats = seats;
      steps = steps;
      clock = clock;
      link = g.link;
    }

    pub is-begun : (heard : WasHelloReceived of_link plan g.app.now e.link g.link g.arrivals g.reader) (steps : List ScheduledOp)
        → HasScheduledOps plan e.conn steps → (seats : List Drawing) → length seats ≡ length plan.declared.tenants
        → All (λ seat. seat.draws ≡ []) seats
        → IsStartedEnd of_link plan clock e g.app.now.conn
        (record { plan = plan; app = g.app.now; begun = first-of heard steps seats })
    is-begun heard steps has seats tenants none = record {
      app = g.app.now;
      its_app = h.its_app;
      number = app-number plan e.conn g.app.now h.its_app;
      is_new = h.is_new;
      same_link = h.same_link;
      bound = record {
        its_plan = refl;
        its_app = refl;
        its_clock = refl;
        stream = heard.stream;
        fault = heard.fault;
        hello = heard.hello;
        came = heard.came;
        bound = heard.bound;
        life = refl;
        handed = heard.handed;
        failures = heard.failures;
        steps = its-steps steps has;
        table = heard.table;
        policy = heard.policy;
        words = heard.words;
        one_heap = sym heard.one_heap;
        not_loaded = heard.not_loaded;
        seats = tenants;
        not_drawn = none;
      };
    }

-- ---- several ends

-- connections have started at a prefix of the ends, and at the others, after their handshakes, not yet
pub record BegunSome {C R L : Type 0} (of_link : LinkMembers L) (plan : Plan) (clock : C) (ends : List (OpenedEnd L))
    (rest : List (HandshakeEnd L)) (standings : List (StartState L)) (items : List (ServedEndpoint C)) (jobs : List AppTask)
    (writers : List (QueueWriter R L of_link)) (seats : List Drawing) : Type 0 where
  pub past : List (OpenedEnd L)
  pub later : List (OpenedEnd L)
  pub all : ends ≡ past ++ later
  pub greeted_later : AllZip (IsHandshakeEnd of_link plan) later rest
  pub whole : List Drawing
  pub shares : All (λ seat. seat.share ≡ all_shares) whole
  pub begun : HaveStarted of_link plan clock whole past standings items jobs writers seats

-- none has started yet
pub none-begun : {C R L : Type 0} (of_link : LinkMembers L) (plan : Plan) (clock : C) (ends : List (OpenedEnd L))
    (rest : List (HandshakeEnd L)) (standings : List (StartState L)) (items : List (ServedEndpoint C)) (jobs : List AppTask)
    (writers : List (QueueWriter R L of_link)) (seats : List Drawing) → AllZip (IsHandshakeEnd of_link plan) ends rest
    → standings ≡ [] → items ≡ [] → jobs ≡ [] → writers ≡ [] → length seats ≡ length plan.declared.tenants
    → All (λ seat. seat.share ≡ all_shares) seats → All (λ seat. seat.draws ≡ []) seats → IsShareAfter 0 all_shares
    → BegunSome of_link plan clock ends rest standings items jobs writers seats
none-begun {C = C} of_link plan clock ends rest standings items jobs writers seats zip no_standings no_items no_jobs no_writers
    tenants shares none split = record {
      past = [];
      later = ends;
      all = refl;
      greeted_later = zip;
      whole = seats;
      shares = shares;
      begun = record {
        openings = [];
        standing = subst (λ ss. AreStartStates of_link plan clock [] ss []) (sym no_standings) refl;
        wired = subst (λ xs. AreWired {C = C} [] xs jobs writers) (sym no_items)
            (subst (λ xs. AreWired {C = C} [] [] xs writers) (sym no_jobs)
            (subst (λ xs. AreWired {C = C} [] [] [] xs) (sym no_writers) tt));
        split = refl;
        shares = subst (λ xs. All (λ seat. IsShareAfter (length xs) seat.share) seats) (sym no_items)
            (All-weaker (λ (seat : Drawing). seat.share ≡ all_shares) (λ (seat : Drawing). IsShareAfter 0 seat.share)
            (λ seat is. subst (λ n. IsShareAfter 0 n) (sym is) split) seats shares);
        tenants = tenants;
        not_drawn = none;
        few = subst (λ xs. length xs ≤ 0) (sym no_items) (omega arith);
        as_many = ap length no_standings;
      };
    }

-- all have started
pub all-begun : {C R L : Type 0} (of_link : LinkMembers L) (plan : Plan) (clock : C) (ends : List (OpenedEnd L))
    (rest : List (HandshakeEnd L)) (standings : List (StartState L)) (items : List (ServedEndpoint C)) (jobs : List AppTask)
    (writers : List (QueueWriter R L of_link)) (seats : List Drawing) → rest ≡ []
    → BegunSome of_link plan clock ends rest standings items jobs writers seats
    → AllStarted of_link plan clock ends standings items jobs writers seats
all-begun of_link plan clock ends rest standings items jobs writers seats none h =
    let no_later : h.later ≡ [] = none-left (IsHandshakeEnd of_link plan) h.later
    (subst (λ xs. AllZip (IsHandshakeEnd of_link plan) h.later xs) none h.greeted_later) in
    let same : h.past ≡ ends = sym (h.all ∙ ap (λ xs. h.past ++ xs) no_later ∙ append-nil h.past) in
    record {
      whole = h.whole;
      shares = h.shares;
      begun = subst (λ xs. HaveStarted of_link plan clock h.whole xs standings items jobs writers seats) same h.begun;
    }

-- the next end is that of the next handshake
pub record NextEnd {C R L : Type 0} (of_link : LinkMembers L) (plan : Plan) (clock : C) (ends : List (OpenedEnd L))
    (g : HandshakeEnd L) (rest : List (HandshakeEnd L)) (standings : List (StartState L)) (items : List (ServedEndpoint C)) (jobs : List AppTask)
    (writers : List (QueueWriter R L of_link)) (seats : List Drawing) : Type 0 where
  pub past : List (OpenedEnd L)
  pub later : List (OpenedEnd L)
  pub e : OpenedEnd L
  pub all : ends ≡ past ++ e ∷ later
  pub greeted : IsHandshakeEnd of_link plan e g
  pub greeted_later : AllZip (IsHandshakeEnd of_link plan) later rest
  pub whole : List Drawing
  pub shares : All (λ seat. seat.share ≡ all_shares) whole
  pub begun : HaveStarted of_link plan clock whole past standings items jobs writers seats

module _ {C R L : Type 0} (of_link : LinkMembers L) (plan : Plan) (clock : C) (ends : List (OpenedEnd L)) (g : HandshakeEnd L)
    (rest rest' : List (HandshakeEnd L)) (standings : List (StartState L)) (items : List (ServedEndpoint C)) (jobs : List AppTask)
    (writers : List (QueueWriter R L of_link)) (seats : List Drawing) where
  pub some-next : rest ≡ g ∷ rest' → BegunSome of_link plan clock ends rest standings items jobs writers seats
      → NextEnd of_link plan clock ends g rest' standings items jobs writers seats
  some-next is h =
      let next = next-of (IsHandshakeEnd of_link plan) h.later g rest'
      (subst (λ xs. AllZip (IsHandshakeEnd of_link plan) h.later xs) is h.greeted_later) in
      record {
        past = h.past;
        later = next.later;
        e = next.x;
        all = h.all ∙ ap (λ xs. h.past ++ xs) next.are;
        greeted = next.here;
        greeted_later = next.zip;
        whole = h.whole;
        shares = h.shares;
        begun = h.begun;
      }

  pub some-more : (standings' : List (StartState L)) (items' : List (ServedEndpoint C)) (jobs' : List AppTask)
      (writers' : List (QueueWriter R L of_link)) (seats' : List Drawing)
      (n : NextEnd of_link plan clock ends g rest' standings items jobs writers seats)
      → HaveStarted of_link plan clock n.whole (n.past ++ n.e ∷ []) standings' items' jobs' writers' seats'
      → BegunSome of_link plan clock ends rest' standings' items' jobs' writers' seats'
  some-more standings' items' jobs' writers' seats' n more = record {
    past = n.past ++ n.e ∷ [];
    later = n.later;
    all = n.all ∙ sym (append_assoc n.past (n.e ∷ []) n.later);
    greeted_later = n.greeted_later;
    whole = n.whole;
    shares = n.shares;
    begun = more;
  }

  -- the next is one of at most this many
  pub next-few : (most : ℕ) → length ends ≤ most
      → (n : NextEnd of_link plan clock ends g rest' standings items jobs writers seats) → length standings < most
  next-few most few n =
      let long = ap length n.all in
      let split = length-append n.past (n.e ∷ n.later) in
      omega (arith, n.begun.as_many, long, split, few)
