-- there are tickets of the tenants so far
use Rattle.std.proofs.Common.{◌<◌, ℕ, get_or}
use Rattle.engine_core.specs.Engines.{EngineParts}
use Rattle.engine_core.specs.Policies.{KnowsTenantOf}
use Rattle.tests_calls.proofs.connection.knows_tenants.Given as goal

abbrev pub invariant-loop-at : goal.invariant-loop-at
invariant-loop-at l = (k : ℕ) (e : EngineParts) → k < l.at
    → KnowsTenantOf (λ t. t < l.tickets.tenants) (get_or l.chain.engines k e).entry.policy
