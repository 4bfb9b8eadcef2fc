use Rattle.std.proofs.Common.{arith, refl, ◌∙◌}
use Rattle.service_loop.proofs.Onward.{goes-nowhere, goes-then, same-none, same-then}
use Rattle.service_loop.proofs.Visits.{busy-has, busy-not, not-memory}
use Rattle.service_loop.proofs.endpoint.Endpoint.make_rounds.Goals as goal

pub rounds-init : goal.rounds-init
rounds-init g c = record {
  whole = c.requires.whole;
  memory = c.requires.memory;
  goes_on = goes-nowhere g.C.Clock g.Q.Tickets g.L.Link c.args.self.now;
  same = same-none g.C.Clock g.Q.Tickets g.L.Link c.args.self.now;
  share = refl;
  accepted = omega arith;
  within = omega arith;
}

pub rounds-preserved : goal.rounds-preserved
rounds-preserved g c =
    let busy = busy-not c.advance.result c.in-Busy.is in record {
      whole = c.advance.ensures.whole busy;
      memory = busy-has c.advance.new.self.memory c.advance.result c.advance.ensures.memory c.in-Busy.is;
      goes_on = goes-then g.C.Clock g.Q.Tickets g.L.Link c.args.self.now c.rounds.self c.advance.new.self
          c.rounds.invariant.goes_on (c.advance.ensures.goes_on busy);
      same = same-then g.C.Clock g.Q.Tickets g.L.Link c.args.self.now c.rounds.self c.advance.new.self
          c.rounds.invariant.same c.advance.ensures.same;
      share = c.advance.ensures.share ∙ c.rounds.invariant.share;
      accepted = let one = c.advance.ensures.one busy in
          let before = c.rounds.invariant.accepted in omega (arith, one, before);
      within = omega arith;
    }

pub returns-in_default : goal.returns-in_default
returns-in_default g c = record {
  whole = λ has. c.advance.ensures.whole
      (not-memory c.advance.new.self.memory c.advance.result c.advance.ensures.memory has);
  goes_on = λ has. goes-then g.C.Clock g.Q.Tickets g.L.Link c.args.self.now c.rounds.self c.advance.new.self
      c.rounds.invariant.goes_on (c.advance.ensures.goes_on
      (not-memory c.advance.new.self.memory c.advance.result c.advance.ensures.memory has));
  same = same-then g.C.Clock g.Q.Tickets g.L.Link c.args.self.now c.rounds.self c.advance.new.self
      c.rounds.invariant.same c.advance.ensures.same;
  memory = c.advance.ensures.memory;
  over = c.advance.ensures.over;
  share = c.advance.ensures.share ∙ c.rounds.invariant.share;
  accepted = λ has. let one = c.advance.ensures.one
      (not-memory c.advance.new.self.memory c.advance.result c.advance.ensures.memory has) in
      let before = c.rounds.invariant.accepted in omega (arith, one, before);
  fits = record { within = omega arith; whole = c.ending_after.ensures };
}
