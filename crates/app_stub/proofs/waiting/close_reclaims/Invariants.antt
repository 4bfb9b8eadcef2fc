use Rattle.std.proofs.Common.{◌≡◌}
use Rattle.app_stub.proofs.waiting.close_reclaims.Given as goal

abbrev pub invariant-loop : goal.invariant-loop
invariant-loop g l = l.reclaims ≡ l.initial.reclaims
