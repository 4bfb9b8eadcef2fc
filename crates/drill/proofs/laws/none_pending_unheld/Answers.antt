use Rattle.drill.proofs.Holding.{served-none}
use Rattle.drill.proofs.Told.{run-leaves-none}
use Rattle.drill.proofs.laws.none_pending_unheld.Goals as goal

pub returns-clause-connection : goal.returns-clause-connection
returns-clause-connection g c = served-none

pub returns-clause-run : goal.returns-clause-run
returns-clause-run g c = run-leaves-none g.C.Clock g.L.Link
