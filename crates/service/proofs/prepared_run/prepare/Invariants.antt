use Rattle.std.proofs.Common.{take}
use Rattle.std.specs.List.{AllZip}
use Rattle.run_plan.specs.Links.{all_ends}
use Rattle.service.specs.PreparedRun.{HasScheduledOps}
use Rattle.service.proofs.prepared_run.prepare.Given as goal

abbrev pub invariant-pairs : goal.invariant-pairs
invariant-pairs l =
    AllZip (λ conn steps. HasScheduledOps l.plan conn steps.items) (all_ends (take l.pair-index l.links)) l.steps.items
