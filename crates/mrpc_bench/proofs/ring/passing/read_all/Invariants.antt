use Rattle.std.proofs.Common.{◌≡◌}
use Rattle.mrpc_bench.proofs.ring.passing.read_all.Given as goal

abbrev pub invariant-loop : goal.invariant-loop
invariant-loop g l = (l.reader.heap ≡ l.initial.reader.heap) × (l.receiver.heap ≡ l.initial.receiver.heap)
