use Rattle.std.proofs.Common.{◌≡◌, length}
use Rattle.bench_apps.proofs.plain_service.send_reply_notices.Given as goal

abbrev pub invariant-loop : goal.invariant-loop
invariant-loop g l =
    (l.client.notices.heap ≡ l.initial.client.notices.heap) × (l.writer ≡ l.initial.writer)
    × (length l.client.notices.sent ≡ l.counter)
