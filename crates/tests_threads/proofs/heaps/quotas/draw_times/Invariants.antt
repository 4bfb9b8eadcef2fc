use Rattle.std.proofs.Common.{◌≡◌}
use Rattle.tests_threads.proofs.heaps.quotas.draw_times.Given as goal

abbrev pub invariant-loop : goal.invariant-loop
invariant-loop l = l.seat.quota ≡ l.initial.seat.quota
