-- The source stays.
use Rattle.std.proofs.Common.{◌≡◌}
use Rattle.mrpc.proofs.kept.KeptSource.keep.Given as goal

abbrev pub invariant-loop-chunk : goal.invariant-loop-chunk
invariant-loop-chunk g l = l.self.source ≡ l.fn.self.source
