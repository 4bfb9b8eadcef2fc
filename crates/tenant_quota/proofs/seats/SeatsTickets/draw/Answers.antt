use Rattle.std.proofs.Common.{◌<◌, [], ◌∷◌, length}
use Rattle.tenant_quota.specs.Drawing.{IsLater}
use Rattle.tenant_quota.proofs.Joining.{one_is_later, are_later_still}
use Rattle.tenant_quota.proofs.Tenants.{tenant_more, tenant_others}
use Rattle.tenant_quota.proofs.seats.SeatsTickets.draw.Goals as goal

pub returns-clause-drawn : goal.returns-clause-drawn
returns-clause-drawn c =
    let inside : c.args.tenant < length c.self.inside.seats.items = rw (← c.self.view_is) at c.requires.known in
    rw (← c.self.view_is) (tenant_more c.args.window _ _ c.draw.new.self c.draw.ensures.drawn c.self.inside.seats.items c.args.tenant inside c.index_mut.ensures.value)

pub returns-clause-others : goal.returns-clause-others
returns-clause-others c = λ t w there windows apart.
    rw (← c.self.view_is) (tenant_others c.args.window _ _ c.draw.new.self c.draw.ensures.drawn c.self.inside.seats.items c.args.tenant c.index_mut.ensures.value t w apart)

pub returns-clause-same_quotas : goal.returns-clause-same_quotas
returns-clause-same_quotas c = λ first was.
    let one : IsLater _ c.draw.new.self = record { quota = c.draw.ensures.quota; share = c.draw.ensures.share; draws = ((c.args.window, c.draw.result) ∷ [], c.draw.ensures.drawn) } in
    are_later_still first c.args.self.now _ was (rw (← c.self.view_is) (one_is_later c.self.inside.seats.items c.args.tenant _ c.draw.new.self c.index_mut.ensures.value one))
