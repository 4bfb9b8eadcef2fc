use Rattle.std.proofs.Common.{◌≤◌, ◌-◌, ◌++◌, length, drop}
use Rattle.run_plan.specs.Chains.{attach_lines, steps_on}
use Rattle.service_wiring.specs.Listing.{AreListed, remaining_counts, remaining_lines}
use Rattle.service_wiring.specs.Scheduling.{zero_each}
use Rattle.service_wiring.proofs.scheduling.attachments.Given as goal

abbrev pub invariant-places : goal.invariant-places
invariant-places l =
    AreListed l.plan l.app l.steps.items
    (attach_lines l.plan.declared.policies l.at (drop l.at l.app.chain) ++ remaining_lines (steps_on l.plan.operators l.app.conn))
    (zero_each (drop l.at l.app.chain) ++ remaining_counts (steps_on l.plan.operators l.app.conn))
    × (l.at ≤ length l.app.chain)

abbrev pub decreases-places : goal.decreases-places
decreases-places l = length l.app.chain - l.at
