use Rattle.std.proofs.Common.{◌≡◌}
use Rattle.mrpc_bench.proofs.ring.passing.send.Given as goal

abbrev pub invariant-loop : goal.invariant-loop
invariant-loop g l = (l.sender ≡ l.initial.sender) × (l.descriptor ≡ l.initial.descriptor)
