use Rattle.std.proofs.Common.{sym, refl, subst}
use Rattle.std.specs.Prelude.{All, ◌≤◌}
use Rattle.service_loop.proofs.Whole.{whole-again}
use Rattle.service_loop.proofs.endpoint.Endpoint.fail.Goals as goal

pub returns-clause-whole : goal.returns-clause-whole
returns-clause-whole g c =
    let h = c.requires in
    whole-again g.C.Clock g.Q.Tickets g.L.Link c.args.self.now _ h (record {
      served = c.fail.ensures.served;
      steps = c.fail.ensures.same.steps;
      knows = λ tenant known. known;
      same_clock = refl;
      moments = subst (All (g.C.Clock.gives c.args.self.now.clock.now)) (sym c.fail.ensures.moments);
      least = subst (All (λ ms. g.C.Clock.least c.args.self.now.clock.now ≤ ms)) (sym c.fail.ensures.at_calls);
      delivering = let w = h.delivering in (w.0, w.1, w.2, c.stop.ensures.delivered w.0 w.1 w.2 w.3);
      ended = λ is. c.stop.ensures.over;
      failed = λ is. c.fail.ensures.ended;
      finished = λ is. h.finished (c.stop.ensures.ended is);
      buffer = refl;
    })

pub returns-clause-same : goal.returns-clause-same
returns-clause-same g c = record {
  submissions = c.fail.ensures.same;
  deliveries = c.stop.ensures.same;
  clock = refl;
  link = λ first since. since;
  tickets = λ first since. since;
  weight = refl;
}
