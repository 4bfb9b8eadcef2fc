use Rattle.telemetry.proofs.Merging.{IsMerging}
use Rattle.telemetry.proofs.totals.merged.Given as goal

abbrev pub invariant-loop-method : goal.invariant-loop-method
invariant-loop-method l = IsMerging l.counts.entries l.others.entries l.merged.entries l.method-iterator
