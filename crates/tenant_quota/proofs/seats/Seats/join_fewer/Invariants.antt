use Rattle.std.proofs.Common.{◌≡◌, All, length}
use Rattle.mrpc_base.specs.declared.tickets.TheConstants.{WINDOWS}
use Rattle.tenant_quota.specs.Drawing.{all_after_join}
use Rattle.tenant_quota.specs.Splitting.{AreOfQuotas}
use Rattle.tenant_quota.proofs.seats.Seats.join_fewer.Given as goal

abbrev pub invariant-loop-seat : goal.invariant-loop-seat
invariant-loop-seat l = record {
  joined : all_after_join l.self-inside.seats.items l.other-inside.seats.items ≡ all_after_join l.fn.self l.fn.other;
  left : AreOfQuotas l.self-inside.seats.items l.other-inside.seats.items;
  windows : All (λ d. d.quota.words ≡ WINDOWS) l.self-inside.seats.items;
}

abbrev pub decreases-loop-seat : goal.decreases-loop-seat
decreases-loop-seat l = length l.other-inside.seats.items
