use Rattle.std.proofs.Common.{◌≡◌}
use Rattle.app_stub.proofs.waiting.send.Given as goal

abbrev pub invariant-loop : goal.invariant-loop
invariant-loop g l =
    (l.sender.sent ≡ l.initial.sender.sent) × (l.sender.ring ≡ l.initial.sender.ring)
    × (l.sender.heap ≡ l.initial.sender.heap) × (l.descriptor ≡ l.initial.descriptor)
