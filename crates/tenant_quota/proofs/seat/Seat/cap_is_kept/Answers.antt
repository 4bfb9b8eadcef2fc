use Rattle.tenant_quota.proofs.Cap.{cap_kept}
use Rattle.tenant_quota.proofs.seat.Seat.cap_is_kept.Goals as goal

pub returns : goal.returns
returns c = λ all few. cap_kept c.args.cap _ (c.tickets_are_distinct.ensures all c.args.window c.requires few)
