use Rattle.service_wiring.proofs.Onward.{turned-none, turned-then}
use Rattle.service_wiring.proofs.laws.since_is_transitive.Goals as goal

pub returns-clause-itself : goal.returns-clause-itself
returns-clause-itself g c = turned-none g.C.Clock g.Q.Tickets g.L.Link

pub returns-clause-later : goal.returns-clause-later
returns-clause-later g c = turned-then g.C.Clock g.Q.Tickets g.L.Link
