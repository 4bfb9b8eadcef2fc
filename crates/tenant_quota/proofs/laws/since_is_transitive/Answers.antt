use Rattle.tenant_quota.proofs.Joining.{are_themselves, are_later_still}
use Rattle.tenant_quota.proofs.laws.since_is_transitive.Goals as goal

pub returns-clause-themselves : goal.returns-clause-themselves
returns-clause-themselves c = are_themselves

pub returns-clause-later : goal.returns-clause-later
returns-clause-later c = are_later_still
