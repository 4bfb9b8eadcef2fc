-- A connection that advances, step by step.
use Rattle.std.proofs.Common.{◌≡◌, ℕ, true, false, List, [], ◌++◌, Option, refl, sym, ap, subst, ◌∙◌, arith, append_assoc, append-nil}
use Rattle.mrpc_base.specs.declared.clock.Clock.{Ghosts as ClockMembers}
use Rattle.mrpc_base.specs.declared.link.Link.{Ghosts as LinkMembers}
use Rattle.mrpc_base.specs.declared.tickets.Tickets.{Ghosts as TicketMembers}
use Rattle.receive_core.specs.ReceiverTraces.{ReceiverTrace}
use Rattle.service_loop.specs.Delivering.{AreSameDeliveries, HasDeliveredMore, HaveDelivered, HaveAdvanced}
use Rattle.service_loop.specs.Rounds.{HasAdvanced, HasSameIdentity, IsConsistent, weight_of_visits}
use Rattle.service_loop.specs.declared.delivering.Deliveries.{Deliveries}
use Rattle.service_loop.specs.declared.endpoint.Endpoint.{Endpoint}
use Rattle.service_loop.specs.declared.visit_account.VisitAccount.{VisitAccount}
use Rattle.service_loop.proofs.Cases.{appends-then, calls-then, cause-then, draw-none, draw-then, hands-then, same-calls}
use Rattle.service_loop.proofs.Delivered.{gone-nowhere}

-- ---- deliveries

pub same-deliveries : (d : Deliveries) → AreSameDeliveries d d
same-deliveries d = record {
  arrivals = record { table = refl; policy = refl; conn = refl; words = refl; heap = refl };
  notices = record { notices = refl; numbers = refl };
  numbers = refl;
  programmed = refl;
}

pub deliveries-then : (a b c : Deliveries) → AreSameDeliveries a b → AreSameDeliveries b c → AreSameDeliveries a c
deliveries-then a b c ab bc = record {
  arrivals = record {
    table = bc.arrivals.table ∙ ab.arrivals.table;
    policy = bc.arrivals.policy ∙ ab.arrivals.policy;
    conn = bc.arrivals.conn ∙ ab.arrivals.conn;
    words = bc.arrivals.words ∙ ab.arrivals.words;
    heap = bc.arrivals.heap ∙ ab.arrivals.heap;
  };
  notices = record {
    notices = bc.notices.notices ∙ ab.notices.notices;
    numbers = bc.notices.numbers ∙ ab.notices.numbers;
  };
  numbers = bc.numbers ∙ ab.numbers;
  programmed = bc.programmed ∙ ab.programmed;
}

-- the deliveries stay, and the link gave nothing
pub delivers-same : (given given' : Option (List ℕ)) (old new : Deliveries) → given' ≡ given
    → ((life : ReceiverTrace) (numbers back : List ℕ) → HaveDelivered life numbers back old → HaveDelivered life numbers back new)
    → HasDeliveredMore given given' old new
delivers-same given given' old new same stays life numbers back h =
    subst (λ x. HaveAdvanced life numbers back given x new) (sym same)
    (gone-nowhere life numbers back given new (stays life numbers back h))

pub delivers-then : (x y z : Option (List ℕ)) (a b c : Deliveries) → HasDeliveredMore x y a b → HasDeliveredMore y z b c
    → HasDeliveredMore x z a c
delivers-then x y z a b c first second life numbers back h =
    let one = first life numbers back h in
    let two = second one.later (numbers ++ one.more) (back ++ one.gained) one.delivered in
    record {
      piece = one.piece ++ two.piece;
      later = two.later;
      more = one.more ++ two.more;
      gained = one.gained ++ two.gained;
      came = appends-then x y z one.piece two.piece one.came two.came;
      lives = record {
        more = one.lives.more ++ two.lives.more;
        stream = two.lives.stream ∙ ap (λ xs. xs ++ two.piece) one.lives.stream
            ∙ append_assoc life.stream one.piece two.piece;
        hello = two.lives.hello ∙ one.lives.hello;
        fates = two.lives.fates ∙ ap (λ fs. fs ++ two.lives.more) one.lives.fates
            ∙ append_assoc life.fates one.lives.more two.lives.more;
      };
      delivered = subst (λ xs. HaveDelivered two.later xs (back ++ (one.gained ++ two.gained)) c)
          (append_assoc numbers one.more two.more)
          (subst (λ xs. HaveDelivered two.later ((numbers ++ one.more) ++ two.more) xs c)
          (append_assoc back one.gained two.gained) two.delivered);
    }

-- ---- connections

module _ {C Q L : Type 0} (clock : ClockMembers C) (quotas : TicketMembers Q) (link : LinkMembers L) where
  pub same-none : (e : Endpoint C Q L) → HasSameIdentity clock quotas link e e
  same-none e = record {
    submissions = same-calls e.submissions;
    deliveries = same-deliveries e.deliveries;
    clock = refl;
    link = λ first since. since;
    tickets = λ first since. since;
    weight = refl;
  }

  pub same-then : (a b c : Endpoint C Q L) → HasSameIdentity clock quotas link a b → HasSameIdentity clock quotas link b c
      → HasSameIdentity clock quotas link a c
  same-then a b c ab bc = record {
    submissions = calls-then a.submissions b.submissions c.submissions ab.submissions bc.submissions;
    deliveries = deliveries-then a.deliveries b.deliveries c.deliveries ab.deliveries bc.deliveries;
    clock = bc.clock ∙ ab.clock;
    link = λ first since. bc.link first (ab.link first since);
    tickets = λ first since. bc.tickets first (ab.tickets first since);
    weight = bc.weight ∙ ab.weight;
  }

  pub goes-nowhere : (e : Endpoint C Q L) → HasAdvanced clock quotas link e e
  goes-nowhere e = record {
    handed = ([], sym (append-nil _), sym (append-nil (link.handed e.link)));
    draws = draw-none quotas.knows quotas.drawn quotas.since e.submissions.conn e.submissions.conn e.tickets
        (λ t w. refl);
    cause = record {
      rose = λ ends. absurd (let wrong : true ≡ false = sym ends.1 ∙ ends.0 in cc);
      stays = λ none. refl;
      never_falls = omega arith;
    };
    stays_ended = λ is. is;
    delivers = delivers-same (link.given e.link) (link.given e.link) e.deliveries e.deliveries refl
        (λ life numbers back h. h);
  }

  pub goes-then : (a b c : Endpoint C Q L) → HasAdvanced clock quotas link a b → HasAdvanced clock quotas link b c
      → HasAdvanced clock quotas link a c
  goes-then a b c ab bc = record {
    handed = hands-then a.submissions.conn b.submissions.conn c.submissions.conn (link.handed a.link)
        (link.handed b.link) (link.handed c.link) ab.handed bc.handed;
    draws = draw-then quotas.knows quotas.drawn quotas.since a.submissions.conn b.submissions.conn c.submissions.conn
        a.tickets b.tickets c.tickets ab.draws bc.draws;
    cause = cause-then a.submissions.conn.ended b.submissions.conn.ended c.submissions.conn.ended (link.failures a.link)
        (link.failures b.link) (link.failures c.link) ab.stays_ended bc.stays_ended ab.cause bc.cause;
    stays_ended = λ is. bc.stays_ended (ab.stays_ended is);
    delivers = delivers-then (link.given a.link) (link.given b.link) (link.given c.link) a.deliveries b.deliveries
        c.deliveries ab.delivers bc.delivers;
  }

  -- the kept rounds and the account aren't part of the invariant
  pub whole-kept : (e : Endpoint C Q L) (kept : ℕ) (share : Option VisitAccount) → IsConsistent clock quotas link e
      → IsConsistent clock quotas link (record e { kept = kept; share = share })
  whole-kept e kept share h = record {
    served = h.served;
    known = h.known;
    moments = h.moments;
    least = h.least;
    delivering = h.delivering;
    ended = h.ended;
    failed = h.failed;
    finished = h.finished;
    room = h.room;
    most = h.most;
  }

  pub goes-kept : (a b : Endpoint C Q L) (kept : ℕ) (share : Option VisitAccount) → HasAdvanced clock quotas link a b
      → HasAdvanced clock quotas link a (record b { kept = kept; share = share })
  goes-kept a b kept share h = record {
    handed = h.handed;
    draws = h.draws;
    cause = h.cause;
    stays_ended = h.stays_ended;
    delivers = h.delivers;
  }

  pub same-kept : (a b : Endpoint C Q L) (kept : ℕ) (share : Option VisitAccount)
      → weight_of_visits share ≡ weight_of_visits b.share → HasSameIdentity clock quotas link a b
      → HasSameIdentity clock quotas link a (record b { kept = kept; share = share })
  same-kept a b kept share weight h = record {
    submissions = h.submissions;
    deliveries = h.deliveries;
    clock = h.clock;
    link = h.link;
    tickets = h.tickets;
    weight = weight ∙ h.weight;
  }
