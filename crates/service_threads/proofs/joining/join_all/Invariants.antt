use Rattle.std.proofs.Common.{◌≡◌, length}
use Rattle.std.specs.Prelude.{All}
use Rattle.tenant_quota.specs.Drawing.{quotas_of}
use Rattle.service_threads.specs.Joining.{all_joined}
use Rattle.service_threads.proofs.joining.join_all.Given as goal

abbrev pub invariant-loop-own : goal.invariant-loop-own
invariant-loop-own l =
    (all_joined l.seats l.others.items ≡ all_joined l.fn.seats l.fn.others.items)
    × (quotas_of l.seats ≡ quotas_of l.fn.seats)
    × All (λ own. quotas_of own ≡ quotas_of l.fn.seats) l.others.items

abbrev pub decreases-loop-own : goal.decreases-loop-own
decreases-loop-own l = length l.others.items
