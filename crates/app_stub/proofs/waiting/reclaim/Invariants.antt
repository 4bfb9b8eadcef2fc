use Rattle.std.proofs.Common.{◌≡◌}
use Rattle.app_stub.proofs.waiting.reclaim.Given as goal

abbrev pub invariant-loop : goal.invariant-loop
invariant-loop g l =
    (l.reclaims.sent ≡ l.initial.reclaims.sent) × (l.reclaims.ring ≡ l.initial.reclaims.ring)
