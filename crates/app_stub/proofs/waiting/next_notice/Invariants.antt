use Rattle.std.proofs.Common.{◌≡◌}
use Rattle.app_stub.proofs.waiting.next_notice.Given as goal

abbrev pub invariant-loop : goal.invariant-loop
invariant-loop g l =
    (l.notices.taken ≡ l.initial.notices.taken) × (l.notices.ring ≡ l.initial.notices.ring)
    × (l.notices.heap ≡ l.initial.notices.heap)
