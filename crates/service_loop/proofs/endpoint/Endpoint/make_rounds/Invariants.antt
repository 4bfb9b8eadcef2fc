use Rattle.std.proofs.Common.{◌≡◌, ◌+◌, ◌-◌, ◌≤◌, false}
use Rattle.service_loop.specs.Rounds.{HasAdvanced, HasSameIdentity, IsConsistent}
use Rattle.service_loop.proofs.endpoint.Endpoint.make_rounds.Given as goal

abbrev pub invariant-rounds : goal.invariant-rounds
invariant-rounds g l = record {
  whole : IsConsistent g.C.Clock g.Q.Tickets g.L.Link l.self;
  memory : l.self.memory ≡ false;
  goes_on : HasAdvanced g.C.Clock g.Q.Tickets g.L.Link l.fn.self l.self;
  same : HasSameIdentity g.C.Clock g.Q.Tickets g.L.Link l.fn.self l.self;
  share : l.self.share ≡ l.fn.self.share;
  accepted : l.self.submissions.accepted ≤ l.fn.self.submissions.accepted + l.given;
  within : l.given ≤ l.grant;
}

abbrev pub decreases-rounds : goal.decreases-rounds
decreases-rounds g l = l.grant - l.given
