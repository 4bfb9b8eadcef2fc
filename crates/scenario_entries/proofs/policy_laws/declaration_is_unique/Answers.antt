use Rattle.scenario_entries.proofs.OnePolicy.{same_policies}
use Rattle.scenario_entries.proofs.policy_laws.declaration_is_unique.Goals as goal

pub returns : goal.returns
returns c = λ T tenants entries policies others one other.
    same_policies c.policy_is_unique.ensures c.policy_is_unique-2.ensures T tenants entries policies others one other
