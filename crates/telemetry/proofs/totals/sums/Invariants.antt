use Rattle.std.proofs.Common.{◌≡◌}
use Rattle.telemetry.specs.Counts.{plus}
use Rattle.telemetry.specs.Totals.{sums_of}
use Rattle.telemetry.proofs.Adding.{sum_counts}
use Rattle.telemetry.proofs.totals.sums.Given as goal

abbrev pub invariant-loop-more : goal.invariant-loop-more
invariant-loop-more l = plus l.sums (sum_counts l.more-iterator) ≡ sums_of l.counts.entries
