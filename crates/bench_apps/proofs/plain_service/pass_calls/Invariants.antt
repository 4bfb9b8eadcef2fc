use Rattle.std.proofs.Common.{◌≡◌, length}
use Rattle.bench_apps.proofs.plain_service.pass_calls.Given as goal

abbrev pub invariant-loop : goal.invariant-loop
invariant-loop g l =
    (l.calls.heap ≡ l.initial.calls.heap) × (l.echo.notices.heap ≡ l.initial.echo.notices.heap)
    × (length l.calls.taken ≡ l.number) × (length l.echo.notices.sent ≡ l.number)
