use Rattle.std.proofs.Common.{◌≡◌, [], All, length}
use Rattle.tenant_quota.specs.Drawing.{Drawing, all_shares}
use Rattle.service.proofs.quotas.all_seats.Given as goal

abbrev pub invariant-tenants : goal.invariant-tenants
invariant-tenants l =
    (length l.seats ≡ l._tenant-index)
    × All (λ (seat : Drawing). seat.share ≡ all_shares) l.seats
    × All (λ (seat : Drawing). seat.draws ≡ []) l.seats
