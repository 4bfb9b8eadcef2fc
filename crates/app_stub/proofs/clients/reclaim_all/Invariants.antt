use Rattle.std.proofs.Common.{◌≡◌, ◌≤◌, ◌++◌, length}
use Rattle.app_stub.specs.Pairing.{IsPaired}
use Rattle.app_stub.proofs.clients.reclaim_all.Given as goal

abbrev pub invariant-loop : goal.invariant-loop
invariant-loop g l =
    (l.delivery.notices.ring ≡ l.initial.delivery.notices.ring)
    × (l.delivery.notices.heap ≡ l.initial.delivery.notices.heap)
    × (l.delivery.blocks.ring ≡ l.initial.delivery.blocks.ring)
    × (l.reclaims.ring ≡ l.initial.reclaims.ring)
    × IsPaired l.delivery.notices.taken l.delivery.blocks
    × (length l.delivery.notices.taken ≤ 4294967294)
    × (l.reclaims.sent ≡ l.initial.reclaims.sent ++ l.delivery.blocks.taken)
