use Rattle.std.proofs.Common.{◌≡◌, All, take}
use Rattle.mrpc_base.specs.declared.tickets.TheConstants.{WINDOWS}
use Rattle.tenant_quota.specs.Drawing.{AreAllDrawn, all_shares}
use Rattle.tenant_quota.proofs.seats.Seats.tickets_are_distinct.Given as goal

abbrev pub invariant-loop-seat : goal.invariant-loop-seat
invariant-loop-seat l = All (λ seat. seat.share ≡ all_shares → AreAllDrawn WINDOWS seat.draws) (take l.seat-index l.seat-items)
