use Rattle.std.proofs.Common.{◌≡◌, sym, ◌∙◌, refl, subst, true, false}
use Rattle.std.specs.Prelude.{IsTrue}
use Rattle.service_loop.proofs.Onward.{delivers-same, same-deliveries}
use Rattle.service_loop.proofs.Whole.{whole-again}
use Rattle.service_loop.proofs.endpoint.Endpoint.submit.Goals as goal

pub returns-then-ended-clause-whole : goal.returns-then-ended-clause-whole
returns-then-ended-clause-whole g c =
    let h = c.requires in
    let no = c.in_ok-busy.ensures in
    whole-again g.C.Clock g.Q.Tickets g.L.Link c.args.self.now _ h (record {
      served = c.round.ensures.served no;
      steps = c.round.ensures.same.steps;
      knows = c.round.ensures.knows;
      same_clock = refl;
      moments = c.round.ensures.moments no;
      least = c.round.ensures.least no;
      delivering = let w = h.delivering in (w.0, w.1, w.2, c.stop.ensures.delivered w.0 w.1 w.2 w.3);
      ended = λ is. c.stop.ensures.over;
      failed = λ is. c.ended.ensures.0 c.if-ended.true;
      finished = λ is. subst IsTrue (sym c.round.ensures.link_ended) (h.finished (c.stop.ensures.ended is));
      buffer = refl;
    })

pub returns-then-ended-clause-goes_on : goal.returns-then-ended-clause-goes_on
returns-then-ended-clause-goes_on g c =
    let no = c.in_ok-busy.ensures in
    record {
      handed = c.round.ensures.handed no;
      draws = c.round.ensures.draws no;
      cause = c.round.ensures.cause no;
      stays_ended = c.round.ensures.stays_ended no;
      delivers = delivers-same (g.L.Link.given c.args.self.now.link) (g.L.Link.given c.round.new.link)
          c.args.self.now.deliveries c.stop.new.self c.round.ensures.given c.stop.ensures.delivered;
    }

pub returns-clause-whole : goal.returns-clause-whole
returns-clause-whole g c =
    let h = c.requires in
    let no = c.in_ok-busy.ensures in
    whole-again g.C.Clock g.Q.Tickets g.L.Link c.args.self.now _ h (record {
      served = c.round.ensures.served no;
      steps = c.round.ensures.same.steps;
      knows = c.round.ensures.knows;
      same_clock = refl;
      moments = c.round.ensures.moments no;
      least = c.round.ensures.least no;
      delivering = h.delivering;
      ended = λ is. absurd (let wrong : true ≡ false = sym (c.ended.ensures.1 is) ∙ c.if-ended.false in cc);
      failed = λ is. c.round.ensures.stays_ended no (h.failed is);
      finished = λ is. subst IsTrue (sym c.round.ensures.link_ended) (h.finished is);
      buffer = refl;
    })

pub returns-clause-goes_on : goal.returns-clause-goes_on
returns-clause-goes_on g c =
    let no = c.in_ok-busy.ensures in
    record {
      handed = c.round.ensures.handed no;
      draws = c.round.ensures.draws no;
      cause = c.round.ensures.cause no;
      stays_ended = c.round.ensures.stays_ended no;
      delivers = delivers-same (g.L.Link.given c.args.self.now.link) (g.L.Link.given c.round.new.link)
          c.args.self.now.deliveries c.args.self.now.deliveries c.round.ensures.given (λ life numbers back d. d);
    }

pub returns-in_err-busy-clause-same : goal.returns-in_err-busy-clause-same
returns-in_err-busy-clause-same g c = record {
  submissions = c.round.ensures.same;
  deliveries = same-deliveries c.args.self.now.deliveries;
  clock = refl;
  link = c.round.ensures.same_link;
  tickets = c.round.ensures.same_quotas;
  weight = refl;
}

pub returns-then-ended-clause-same : goal.returns-then-ended-clause-same
returns-then-ended-clause-same g c = record {
  submissions = c.round.ensures.same;
  deliveries = c.stop.ensures.same;
  clock = refl;
  link = c.round.ensures.same_link;
  tickets = c.round.ensures.same_quotas;
  weight = refl;
}

pub returns-clause-same : goal.returns-clause-same
returns-clause-same g c = record {
  submissions = c.round.ensures.same;
  deliveries = same-deliveries c.args.self.now.deliveries;
  clock = refl;
  link = c.round.ensures.same_link;
  tickets = c.round.ensures.same_quotas;
  weight = refl;
}

pub returns-then-ended-clause-one : goal.returns-then-ended-clause-one
returns-then-ended-clause-one g c = c.round.ensures.one c.in_ok-busy.ensures

pub returns-clause-one : goal.returns-clause-one
returns-clause-one g c = c.round.ensures.one c.in_ok-busy.ensures
