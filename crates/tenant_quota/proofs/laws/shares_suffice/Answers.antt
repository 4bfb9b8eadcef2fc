use Rattle.tenant_quota.proofs.Shares.{once_more, enough}
use Rattle.tenant_quota.proofs.Together.{all_once_more, all_enough}
use Rattle.tenant_quota.proofs.laws.shares_suffice.Goals as goal

pub returns-clause-once_more : goal.returns-clause-once_more
returns-clause-once_more c = once_more

pub returns-clause-enough : goal.returns-clause-enough
returns-clause-enough c = enough

pub returns-clause-seats_once_more : goal.returns-clause-seats_once_more
returns-clause-seats_once_more c = all_once_more

pub returns-clause-seats_enough : goal.returns-clause-seats_enough
returns-clause-seats_enough c = all_enough
