use Rattle.tenant_quota.proofs.Together.{halves_together, drawn_together, kept_quotas, new_quotas, both_quotas, both_shares, later_quotas, later_shares, all_whole}
use Rattle.tenant_quota.proofs.laws.join_undoes_split.Goals as goal

pub returns-clause-halves : goal.returns-clause-halves
returns-clause-halves c = halves_together

pub returns-clause-drawn : goal.returns-clause-drawn
returns-clause-drawn c = drawn_together

pub returns-clause-kept_quotas : goal.returns-clause-kept_quotas
returns-clause-kept_quotas c = kept_quotas

pub returns-clause-new_quotas : goal.returns-clause-new_quotas
returns-clause-new_quotas c = new_quotas

pub returns-clause-quotas : goal.returns-clause-quotas
returns-clause-quotas c = both_quotas

pub returns-clause-shares : goal.returns-clause-shares
returns-clause-shares c = both_shares

pub returns-clause-later_quotas : goal.returns-clause-later_quotas
returns-clause-later_quotas c = later_quotas

pub returns-clause-later_shares : goal.returns-clause-later_shares
returns-clause-later_shares c = later_shares

pub returns-clause-all_shares : goal.returns-clause-all_shares
returns-clause-all_shares c = all_whole
