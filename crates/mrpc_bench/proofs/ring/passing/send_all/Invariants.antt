use Rattle.std.proofs.Common.{◌≡◌, ◌+◌, length}
use Rattle.mrpc_bench.proofs.ring.passing.send_all.Given as goal

abbrev pub invariant-loop-number : goal.invariant-loop-number
invariant-loop-number g l =
    (l.writer.heap ≡ l.initial.writer.heap) × (l.sender.heap ≡ l.initial.sender.heap)
    × (length l.writer.stores + 1 ≡ l.number) × (length l.sender.sent + 1 ≡ l.number)
