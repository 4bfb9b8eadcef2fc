use Rattle.std.proofs.Common.{[], refl}
use Rattle.receive_core.specs.ReceiverTraces.{empty_trace}
use Rattle.tests_runs.proofs.rounds.deliveries.Goals as goal

pub returns-clause-delivering : goal.returns-clause-delivering
returns-clause-delivering g c =
    (empty_trace, [], [], c.new.ensures.delivered empty_trace c.new_arrivals-arrivals.ensures.lived refl)
