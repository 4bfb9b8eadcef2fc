use Rattle.std.proofs.Common.{◌≡◌}
use Rattle.bench_apps.proofs.plain_service.give.Given as goal

abbrev pub invariant-loop : goal.invariant-loop
invariant-loop g l =
    (l.notice ≡ l.initial.notice) × (l.side.notices.sent ≡ l.initial.side.notices.sent)
    × (l.side.notices.heap ≡ l.initial.side.notices.heap)
