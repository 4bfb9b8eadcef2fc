use Rattle.std.proofs.Common.{drop}
use Rattle.service_wiring.specs.Listing.{AreListed, remaining_counts, remaining_lines}
use Rattle.service_wiring.proofs.scheduling.scheduled_ops.Given as goal

abbrev pub invariant-steps : goal.invariant-steps
invariant-steps l =
    AreListed l.plan l.app l.steps.items (remaining_lines (drop l.step-index l.later)) (remaining_counts (drop l.step-index l.later))
