-- A connection that advances, turn by turn.
use Rattle.std.proofs.Common.{◌≡◌, ℕ, ◌≤◌, inl, inr, Bool, true, false, List, [], ◌++◌, Option, Some, None, refl, sym}
use Rattle.std.proofs.Common.{ap, subst, ◌∙◌, arith, append_assoc, append-nil}
use Rattle.std.specs.Io.KnownBytes.{Appends}
use Rattle.mrpc_base.specs.Failures.{HasCause, HasRisen}
use Rattle.mrpc_base.specs.declared.clock.Clock.{Ghosts as ClockMembers}
use Rattle.mrpc_base.specs.declared.link.Link.{Ghosts as LinkMembers}
use Rattle.mrpc_base.specs.declared.tickets.Tickets.{Ghosts as TicketMembers}
use Rattle.call_history.specs.Tickets.{tickets_of_trace}
use Rattle.receive_core.specs.ReceiverTraces.{ReceiverTrace}
use Rattle.conn_core.specs.Connections.{Connection, IsSameConnection as IsSameConn, conn_trace}
use Rattle.conn_core.specs.ConnectionSteps.{HasDrawnInWindow, HasDrawnTickets, HasHandedOver}
use Rattle.service_loop.specs.Delivering.{AreSameDeliveries, HasDeliveredMore, HaveDelivered, HaveAdvanced}
use Rattle.service_loop.specs.Rounds.{HasAdvanced, HasSameIdentity}
use Rattle.service_loop.specs.Serving.{AreSameSubmissions}
use Rattle.service_loop.specs.declared.delivering.Deliveries.{Deliveries}
use Rattle.service_loop.specs.declared.endpoint.Endpoint.{Endpoint}
use Rattle.service_loop.specs.declared.submissions.Submissions.{Submissions}
use Rattle.service_wiring.specs.Pooling.{IsLaterEndpoint}

-- ---- bytes that arrive piece by piece

pub appends-then : (a b c : Option (List ℕ)) (p q : List ℕ) → Appends a b p → Appends b c q → Appends a c (p ++ q)
appends-then None b c p q first second = tt
appends-then (Some xs) None c p q first second = absurd first
appends-then (Some xs) (Some ys) None p q first second = absurd second
appends-then (Some xs) (Some ys) (Some zs) p q first second =
    second ∙ ap (λ ws. ws ++ q) first ∙ append_assoc xs p q

-- ---- frames, tickets and failures, step by step

pub hands-then : (a b c : Connection) (x y z : List (List ℕ)) → HasHandedOver a b x y → HasHandedOver b c y z → HasHandedOver a c x z
hands-then a b c x y z first second = (
  first.0 ++ second.0,
  second.1 ∙ ap (λ fs. fs ++ second.0) first.1 ∙ append_assoc _ first.0 second.0,
  second.2 ∙ ap (λ fs. fs ++ second.0) first.2 ∙ append_assoc x first.0 second.0,
)

draws-one : (t w : ℕ) (a b c : Connection) (x y z : Option (List ℕ)) → HasDrawnInWindow t w a b x y → HasDrawnInWindow t w b c y z
    → HasDrawnInWindow t w a c x z
draws-one t w a b c x y None first second = tt
draws-one t w a b c x None (Some n) first second = absurd second
draws-one t w a b c None (Some m) (Some n) first second = absurd first
draws-one t w a b c (Some e) (Some m) (Some n) first second = (
  first.0 ++ second.0,
  second.1 ∙ ap (λ ts. ts ++ second.0) first.1 ∙ append_assoc (tickets_of_trace t w (conn_trace a)) first.0 second.0,
  second.2 ∙ ap (λ ts. ts ++ second.0) first.2 ∙ append_assoc e first.0 second.0,
)

draws-none : (t w : ℕ) (a b : Connection) (x : Option (List ℕ))
    → tickets_of_trace t w (conn_trace b) ≡ tickets_of_trace t w (conn_trace a) → HasDrawnInWindow t w a b x x
draws-none t w a b None same = tt
draws-none t w a b (Some e) same =
    ([], same ∙ sym (append-nil (tickets_of_trace t w (conn_trace a))), sym (append-nil e))

module _ {Q : Type 0} (Knows : Q → ℕ → Type 0) (drawn_of : Q → ℕ → ℕ → Option (List ℕ)) (Since : Q → Q → Type 0) where
  pub draw-then : (a b c : Connection) (x y z : Q) → HasDrawnTickets Knows drawn_of Since a b x y
      → HasDrawnTickets Knows drawn_of Since b c y z → HasDrawnTickets Knows drawn_of Since a c x z
  draw-then a b c x y z first second = record {
    drawn = λ t w known within. draws-one t w a b c (drawn_of x t w) (drawn_of y t w) (drawn_of z t w)
        (first.drawn t w known within) (second.drawn t w (first.knows t known) within);
    knows = λ t known. second.knows t (first.knows t known);
    since = λ one is. second.since one (first.since one is);
  }

  -- nothing was drawn
  pub draw-none : (a b : Connection) (x : Q)
      → ((t w : ℕ) → tickets_of_trace t w (conn_trace b) ≡ tickets_of_trace t w (conn_trace a))
      → HasDrawnTickets Knows drawn_of Since a b x x
  draw-none a b x same = record {
    drawn = λ t w known within. draws-none t w a b (drawn_of x t w) (same t w);
    knows = λ t known. known;
    since = λ one is. is;
  }

-- whether it ended, from a to b
abbrev pub EndsIn : Bool → Bool → Type 0
EndsIn a b = (a ≡ false) × (b ≡ true)

rose-then : (x y z : ℕ) → HasRisen x y → y ≤ z → HasRisen x z
rose-then x y z (inl less) most = inl (omega (arith, less, most))
rose-then x y z (inr last) most = inr (omega (arith, last, most))

rose-before : (x y z : ℕ) → x ≤ y → HasRisen y z → HasRisen x z
rose-before x y z most (inl less) = inl (omega (arith, less, most))
rose-before x y z most (inr last) = inr last

pub cause-then : (a b c : Bool) (x y z : ℕ) → (a ≡ true → b ≡ true) → (b ≡ true → c ≡ true) → HasCause (EndsIn a b) x y
    → HasCause (EndsIn b c) y z → HasCause (EndsIn a c) x z
cause-then a true c x y z kept stays first second = record {
  rose = λ ends. rose-then x y z (first.rose (ends.0, refl)) second.never_falls;
  stays = λ none. second.stays (λ ends. absurd (let wrong : true ≡ false = ends.0 in cc))
      ∙ first.stays (λ ends. none (ends.0, stays refl));
  never_falls = let one = first.never_falls in let two = second.never_falls in omega (arith, one, two);
}
cause-then true false c x y z kept stays first second =
    absurd (let wrong : false ≡ true = kept refl in cc)
cause-then false false c x y z kept stays first second = record {
  rose = λ ends. rose-before x y z first.never_falls (second.rose (refl, ends.1));
  stays = λ none. second.stays (λ ends. none (refl, ends.1))
      ∙ first.stays (λ ends. absurd (let wrong : false ≡ true = ends.1 in cc));
  never_falls = let one = first.never_falls in let two = second.never_falls in omega (arith, one, two);
}

-- ---- constants

pub same-conn : (a b c : Connection) → IsSameConn a b → IsSameConn b c → IsSameConn a c
same-conn a b c ab bc = record { conn = bc.conn ∙ ab.conn; table = bc.table ∙ ab.table; limit = bc.limit ∙ ab.limit }

pub same-calls : (s : Submissions) → AreSameSubmissions s s
same-calls s = record {
  conn = record { conn = refl; table = refl; limit = refl };
  heap = refl;
  ring = refl;
  ring_heap = refl;
  steps = refl;
}

pub calls-then : (a b c : Submissions) → AreSameSubmissions a b → AreSameSubmissions b c → AreSameSubmissions a c
calls-then a b c ab bc = record {
  conn = same-conn a.conn b.conn c.conn ab.conn bc.conn;
  heap = bc.heap ∙ ab.heap;
  ring = bc.ring ∙ ab.ring;
  ring_heap = bc.ring_heap ∙ ab.ring_heap;
  steps = bc.steps ∙ ab.steps;
}

-- ---- deliveries

-- nothing arrived, and no number came back
pub same-numbers : (life : ReceiverTrace) (numbers back : List ℕ) (d : Deliveries) → HaveDelivered life numbers back d
    → HaveDelivered life (numbers ++ []) (back ++ []) d
same-numbers life numbers back d h = subst (λ xs. HaveDelivered life xs (back ++ []) d) (sym (append-nil numbers))
    (subst (λ xs. HaveDelivered life numbers xs d) (sym (append-nil back)) h)

appends-none : (known : Option (List ℕ)) → Appends known known []
appends-none None = tt
appends-none (Some xs) = sym (append-nil xs)

pub gone-nowhere : (life : ReceiverTrace) (numbers back : List ℕ) (known : Option (List ℕ)) (d : Deliveries)
    → HaveDelivered life numbers back d → HaveAdvanced life numbers back known known d
gone-nowhere life numbers back known d h = record {
  piece = [];
  later = life;
  more = [];
  gained = [];
  came = appends-none known;
  lives = record {
    more = [];
    stream = sym (append-nil life.stream);
    hello = refl;
    fates = sym (append-nil life.fates);
  };
  delivered = same-numbers life numbers back d h;
}

pub same-deliveries : (d : Deliveries) → AreSameDeliveries d d
same-deliveries d = record {
  arrivals = record { table = refl; policy = refl; conn = refl; words = refl; heap = refl };
  notices = record { notices = refl; numbers = refl };
  numbers = refl;
  programmed = refl;
}

pub deliveries-then : (a b c : Deliveries) → AreSameDeliveries a b → AreSameDeliveries b c → AreSameDeliveries a c
deliveries-then a b c ab bc = record {
  arrivals = record {
    table = bc.arrivals.table ∙ ab.arrivals.table;
    policy = bc.arrivals.policy ∙ ab.arrivals.policy;
    conn = bc.arrivals.conn ∙ ab.arrivals.conn;
    words = bc.arrivals.words ∙ ab.arrivals.words;
    heap = bc.arrivals.heap ∙ ab.arrivals.heap;
  };
  notices = record {
    notices = bc.notices.notices ∙ ab.notices.notices;
    numbers = bc.notices.numbers ∙ ab.notices.numbers;
  };
  numbers = bc.numbers ∙ ab.numbers;
  programmed = bc.programmed ∙ ab.programmed;
}

-- the deliveries stay, and the link gave nothing
pub delivers-same : (given given' : Option (List ℕ)) (old new : Deliveries) → given' ≡ given
    → ((life : ReceiverTrace) (numbers back : List ℕ) → HaveDelivered life numbers back old → HaveDelivered life numbers back new)
    → HasDeliveredMore given given' old new
delivers-same given given' old new same stays life numbers back h =
    subst (λ x. HaveAdvanced life numbers back given x new) (sym same)
    (gone-nowhere life numbers back given new (stays life numbers back h))

pub delivers-then : (x y z : Option (List ℕ)) (a b c : Deliveries) → HasDeliveredMore x y a b → HasDeliveredMore y z b c
    → HasDeliveredMore x z a c
delivers-then x y z a b c first second life numbers back h =
    let one = first life numbers back h in
    let two = second one.later (numbers ++ one.more) (back ++ one.gained) one.delivered in
    record {
      piece = one.piece ++ two.piece;
      later = two.later;
      more = one.more ++ two.more;
      gained = one.gained ++ two.gained;
      came = appends-then x y z one.piece two.piece one.came two.came;
      lives = record {
        more = one.lives.more ++ two.lives.more;
        stream = two.lives.stream ∙ ap (λ xs. xs ++ two.piece) one.lives.stream
            ∙ append_assoc life.stream one.piece two.piece;
        hello = two.lives.hello ∙ one.lives.hello;
        fates = two.lives.fates ∙ ap (λ fs. fs ++ two.lives.more) one.lives.fates
            ∙ append_assoc life.fates one.lives.more two.lives.more;
      };
      delivered = subst (λ xs. HaveDelivered two.later xs (back ++ (one.gained ++ two.gained)) c)
          (append_assoc numbers one.more two.more)
          (subst (λ xs. HaveDelivered two.later ((numbers ++ one.more) ++ two.more) xs c)
          (append_assoc back one.gained two.gained) two.delivered);
    }

-- ---- connections

module _ {C Q L : Type 0} (clock : ClockMembers C) (quotas : TicketMembers Q) (link : LinkMembers L) where
  pub same-none : (e : Endpoint C Q L) → HasSameIdentity clock quotas link e e
  same-none e = record {
    submissions = same-calls e.submissions;
    deliveries = same-deliveries e.deliveries;
    clock = refl;
    link = λ first since. since;
    tickets = λ first since. since;
    weight = refl;
  }

  pub same-then : (a b c : Endpoint C Q L) → HasSameIdentity clock quotas link a b → HasSameIdentity clock quotas link b c
      → HasSameIdentity clock quotas link a c
  same-then a b c ab bc = record {
    submissions = calls-then a.submissions b.submissions c.submissions ab.submissions bc.submissions;
    deliveries = deliveries-then a.deliveries b.deliveries c.deliveries ab.deliveries bc.deliveries;
    clock = bc.clock ∙ ab.clock;
    link = λ first since. bc.link first (ab.link first since);
    tickets = λ first since. bc.tickets first (ab.tickets first since);
    weight = bc.weight ∙ ab.weight;
  }

  pub goes-nowhere : (e : Endpoint C Q L) → HasAdvanced clock quotas link e e
  goes-nowhere e = record {
    handed = ([], sym (append-nil _), sym (append-nil (link.handed e.link)));
    draws = draw-none quotas.knows quotas.drawn quotas.since e.submissions.conn e.submissions.conn e.tickets
        (λ t w. refl);
    cause = record {
      rose = λ ends. absurd (let wrong : true ≡ false = sym ends.1 ∙ ends.0 in cc);
      stays = λ none. refl;
      never_falls = omega arith;
    };
    stays_ended = λ is. is;
    delivers = delivers-same (link.given e.link) (link.given e.link) e.deliveries e.deliveries refl
        (λ life numbers back h. h);
  }

  pub goes-then : (a b c : Endpoint C Q L) → HasAdvanced clock quotas link a b → HasAdvanced clock quotas link b c
      → HasAdvanced clock quotas link a c
  goes-then a b c ab bc = record {
    handed = hands-then a.submissions.conn b.submissions.conn c.submissions.conn (link.handed a.link)
        (link.handed b.link) (link.handed c.link) ab.handed bc.handed;
    draws = draw-then quotas.knows quotas.drawn quotas.since a.submissions.conn b.submissions.conn c.submissions.conn
        a.tickets b.tickets c.tickets ab.draws bc.draws;
    cause = cause-then a.submissions.conn.ended b.submissions.conn.ended c.submissions.conn.ended (link.failures a.link)
        (link.failures b.link) (link.failures c.link) ab.stays_ended bc.stays_ended ab.cause bc.cause;
    stays_ended = λ is. bc.stays_ended (ab.stays_ended is);
    delivers = delivers-then (link.given a.link) (link.given b.link) (link.given c.link) a.deliveries b.deliveries
        c.deliveries ab.delivers bc.delivers;
  }

  -- ---- turns

  pub turned-none : (e : Endpoint C Q L) → IsLaterEndpoint clock quotas link e e
  turned-none e = record { same = same-none e; memory = λ is. is; goes_on = λ is. goes-nowhere e }

  pub turned-then : (a b c : Endpoint C Q L) → IsLaterEndpoint clock quotas link a b → IsLaterEndpoint clock quotas link b c
      → IsLaterEndpoint clock quotas link a c
  turned-then a b c ab bc = record {
    same = same-then a b c ab.same bc.same;
    memory = λ is. ab.memory (bc.memory is);
    goes_on = λ is. goes-then a b c (ab.goes_on (bc.memory is)) (bc.goes_on is);
  }
