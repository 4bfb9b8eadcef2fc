use Rattle.std.proofs.Common.{◌++◌, arith, sym, refl, subst, inl, inr}
use Rattle.std.specs.Prelude.{All, ◌≤◌}
use Rattle.service_loop.proofs.Cases.{lent-back, same-calls}
use Rattle.service_loop.proofs.Whole.{failed-ended, goes-delivered, whole-again}
use Rattle.service_loop.proofs.endpoint.Endpoint.deliver.Goals as goal

pub returns-then-has_failed-clause-goes_on : goal.returns-then-has_failed-clause-goes_on
returns-then-has_failed-clause-goes_on g c =
    goes-delivered g.C.Clock g.Q.Tickets g.L.Link c.args.self.now _ c.requires (record {
      frames = c.fail.ensures.frames;
      drawn = c.fail.ensures.tickets;
      ends = inr (c.fail.ensures.ended, (c.has_failed.ensures.failed c.if-has_failed.true));
      on = c.in_ok-delivered.ensures.on;
      cause = c.in_ok-delivered.ensures.cause;
      over = c.in_ok-delivered.ensures.over;
      stream = c.in_ok-delivered.ensures.stream;
      handed = c.round.ensures.handed;
      tickets = refl;
    })

pub returns-clause-goes_on : goal.returns-clause-goes_on
returns-clause-goes_on g c =
    goes-delivered g.C.Clock g.Q.Tickets g.L.Link c.args.self.now _ c.requires (record {
      frames = refl;
      drawn = λ tenant window. refl;
      ends = inl (refl, (c.has_failed.ensures.works c.if-has_failed.false));
      on = c.in_ok-delivered.ensures.on;
      cause = c.in_ok-delivered.ensures.cause;
      over = c.in_ok-delivered.ensures.over;
      stream = c.in_ok-delivered.ensures.stream;
      handed = c.round.ensures.handed;
      tickets = refl;
    })

pub returns-then-has_failed-clause-whole : goal.returns-then-has_failed-clause-whole
returns-then-has_failed-clause-whole g c =
    let h = c.requires in
    let w = h.delivering in
    let on = c.in_ok-delivered.ensures.on w.0 w.1 w.2 w.3 in
    whole-again g.C.Clock g.Q.Tickets g.L.Link c.args.self.now _ h (record {
      served = c.fail.ensures.served;
      steps = c.fail.ensures.same.steps;
      knows = λ tenant known. known;
      same_clock = refl;
      moments = subst (All (g.C.Clock.gives c.args.self.now.clock.now)) (sym c.fail.ensures.moments);
      least = subst (All (λ ms. g.C.Clock.least c.args.self.now.clock.now ≤ ms)) (sym c.fail.ensures.at_calls);
      delivering = (on.later, w.1 ++ on.more, w.2 ++ on.gained, on.delivered);
      ended = λ is. inl (failed-ended c.round.new.self.arrivals.stream (c.has_failed.ensures.failed c.if-has_failed.true));
      failed = λ is. c.fail.ensures.ended;
      finished = c.in_ok-delivered.ensures.ends h.finished;
      buffer = lent-back c.args.self.now.buffer.len c.round.new.buffer c.as_mut_slice.result.now
          c.args.self.now.buffer.items c.round.ensures.buffer c.as_mut_slice.ensures.value
          (let ok = c.args.self.now.buffer.ok in omega (arith, ok));
    })

pub returns-clause-whole : goal.returns-clause-whole
returns-clause-whole g c =
    let h = c.requires in
    let w = h.delivering in
    let on = c.in_ok-delivered.ensures.on w.0 w.1 w.2 w.3 in
    whole-again g.C.Clock g.Q.Tickets g.L.Link c.args.self.now _ h (record {
      served = h.served;
      steps = refl;
      knows = λ tenant known. known;
      same_clock = refl;
      moments = λ all. all;
      least = λ all. all;
      delivering = (on.later, w.1 ++ on.more, w.2 ++ on.gained, on.delivered);
      ended = λ is. c.in_ok-delivered.ensures.over (h.ended is);
      failed = λ is. absurd (c.has_failed.ensures.works c.if-has_failed.false is);
      finished = c.in_ok-delivered.ensures.ends h.finished;
      buffer = lent-back c.args.self.now.buffer.len c.round.new.buffer c.as_mut_slice.result.now
          c.args.self.now.buffer.items c.round.ensures.buffer c.as_mut_slice.ensures.value
          (let ok = c.args.self.now.buffer.ok in omega (arith, ok));
    })

pub returns-then-has_failed-clause-same : goal.returns-then-has_failed-clause-same
returns-then-has_failed-clause-same g c = record {
  submissions = c.fail.ensures.same;
  deliveries = c.round.ensures.same;
  clock = refl;
  link = c.round.ensures.same_link;
  tickets = λ first since. since;
  weight = refl;
}

pub returns-clause-same : goal.returns-clause-same
returns-clause-same g c = record {
  submissions = same-calls c.args.self.now.submissions;
  deliveries = c.round.ensures.same;
  clock = refl;
  link = c.round.ensures.same_link;
  tickets = λ first since. since;
  weight = refl;
}

pub returns-in_err-delivered-clause-same : goal.returns-in_err-delivered-clause-same
returns-in_err-delivered-clause-same g c = record {
  submissions = same-calls c.args.self.now.submissions;
  deliveries = c.round.ensures.same;
  clock = refl;
  link = c.round.ensures.same_link;
  tickets = λ first since. since;
  weight = refl;
}
