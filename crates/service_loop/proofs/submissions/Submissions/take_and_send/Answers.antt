use Rattle.std.proofs.Common.{◌≡◌, ◌≤◌, ◌+◌, ℕ, arith}
use Rattle.service_loop.proofs.Rounds.{calls-through, moments-through}
use Rattle.service_loop.proofs.submissions.Submissions.take_and_send.Goals as goal

pub returns-clause-moments : goal.returns-clause-moments
returns-clause-moments g c =
    λ all. moments-through (g.C.Clock.gives c.args.clock.now) c.now.result c.args.self.now.conn
    c.apply_due.new.self.conn
    c.set_timestamp.new.self.conn c.take_call.new.self.conn c.advance.new.self.conn (record {
      steps = (c.in_ok-apply_due.ensures.only.beside.moments, c.in_ok-apply_due.ensures.only.at_calls);
      shows = c.in_ok-set_timestamp.ensures.shown;
      beside = c.in_ok-next.ensures.beside;
      takes = c.in_ok-next.ensures.now;
      drains = c.in_ok-advance.ensures.drained;
    }) c.now.ensures.gives all

pub returns-clause-least : goal.returns-clause-least
returns-clause-least g c =
    λ all. calls-through (g.C.Clock.least c.args.clock.now) c.now.result c.args.self.now.conn c.apply_due.new.self.conn
    c.set_timestamp.new.self.conn c.take_call.new.self.conn c.advance.new.self.conn (record {
      steps = (c.in_ok-apply_due.ensures.only.beside.moments, c.in_ok-apply_due.ensures.only.at_calls);
      shows = c.in_ok-set_timestamp.ensures.shown;
      beside = c.in_ok-next.ensures.beside;
      takes = c.in_ok-next.ensures.now;
      drains = c.in_ok-advance.ensures.drained;
    }) c.now.ensures.least all

one-through : (before stepped shown took after : ℕ) → stepped ≡ before → shown ≡ stepped → took ≤ shown + 1
    → after ≡ took → after ≤ before + 1
one-through before stepped shown took after steps shows one on = omega (arith, steps, shows, one, on)

pub returns-clause-one : goal.returns-clause-one
returns-clause-one g c =
    one-through _ _ _ _ _ c.in_ok-apply_due.ensures.only.accepted c.set_timestamp.ensures.accepted c.in_ok-next.ensures.one
    c.in_ok-advance.ensures.accepted
