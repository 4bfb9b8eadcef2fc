use Rattle.std.proofs.Common.{◌≡◌, List, length, sym, ◌∙◌, subst}
use Rattle.mrpc_base.specs.declared.tickets.TheConstants.{WINDOWS}
use Rattle.tenant_quota.specs.Drawing.{Drawing, all_after_join}
use Rattle.tenant_quota.specs.Splitting.{AreOfQuotas}
use Rattle.tenant_quota.proofs.Splitting.{all_back, quotas_fit, all_kept, all_halves, front_stays, halves_are}
use Rattle.tenant_quota.proofs.seats.Seats.split.Goals as goal

pub invariant_of-halves : goal.invariant_of-halves
invariant_of-halves c = rw c.split_each-split.ensures.split.given (halves_are (λ seat. seat.quota.words ≡ WINDOWS) (λ s words. words) _ c.self.inside.seats.items c.self.invariant)

pub invariant_of-self : goal.invariant_of-self
invariant_of-self c = rw c.split_each-split.ensures.split.kept (front_stays (λ seat. seat.quota.words ≡ WINDOWS) (λ s words. words) _ c.self.inside.seats.items c.self.invariant)

pub invariant_of-self-in-Err : goal.invariant_of-self-in-Err
invariant_of-self-in-Err c = rw c.split_each-split.ensures.split.kept (front_stays (λ seat. seat.quota.words ≡ WINDOWS) (λ s words. words) _ c.self.inside.seats.items c.self.invariant)

pub invariant_of-halves-in-Err : goal.invariant_of-halves-in-Err
invariant_of-halves-in-Err c = rw c.split_each-split.ensures.split.given (halves_are (λ seat. seat.quota.words ≡ WINDOWS) (λ s words. words) _ c.self.inside.seats.items c.self.invariant)

pub join_fewer-requires : goal.join_fewer-requires
join_fewer-requires c =
    let split = c.split_each-split.ensures.split in
    subst (λ (x : List Drawing × List Drawing). AreOfQuotas x.0 x.1) (λ i. (sym split.kept i, sym split.given i))
    (quotas_fit (length c.split_each-split.new.halves.items) c.self.inside.seats.items)

pub returns-in-Ok-clause-halves : goal.returns-in-Ok-clause-halves
returns-in-Ok-clause-halves c = rw (← c.self.view_is) (c.split_each-split.ensures.split.given ∙ all_halves _ c.self.inside.seats.items c.in-Ok.ensures.all)

pub returns-in-Ok-clause-kept : goal.returns-in-Ok-clause-kept
returns-in-Ok-clause-kept c = rw (← c.self.view_is) (c.split_each-split.ensures.split.kept ∙ all_kept _ c.self.inside.seats.items c.in-Ok.ensures.all)

pub returns-in-Err-clause-same : goal.returns-in-Err-clause-same
returns-in-Err-clause-same c =
    let split = c.split_each-split.ensures.split in
    c.join_fewer.ensures ∙ (λ i. all_after_join (split.kept i) (split.given i)) ∙ all_back (length c.split_each-split.new.halves.items) c.self.inside.seats.items ∙ c.self.view_is
