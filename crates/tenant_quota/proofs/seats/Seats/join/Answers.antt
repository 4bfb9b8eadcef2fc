use Rattle.tenant_quota.proofs.Together.{of_quotas}
use Rattle.tenant_quota.proofs.seats.Seats.join.Goals as goal

pub join_fewer-requires : goal.join_fewer-requires
join_fewer-requires c = of_quotas c.args.self.now c.args.other c.requires
