use Rattle.std.proofs.Common.{◌≡◌, false}
use Rattle.service_loop.specs.Rounds.{IsConsistent}
use Rattle.tests_runs.proofs.rounds.make_rounds.Given as goal

abbrev pub invariant-rounds : goal.invariant-rounds
invariant-rounds g l = record {
  whole : IsConsistent g.C.Clock g.Q.Tickets g.L.Link l.endpoint;
  memory : l.endpoint.memory ≡ false;
}
