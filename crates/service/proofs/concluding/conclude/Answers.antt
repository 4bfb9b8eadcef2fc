use Rattle.std.proofs.Common.{◌≡◌, ◌<◌, ◌∙◌, ℕ, All, List, [], Some, ap, length, map, subst, sym}
use Rattle.std.specs.List.{AllZip}
use Rattle.tenant_quota.specs.Drawing.{AreLater, Drawing, tickets_of_tenant, quotas_of, shares_of}
use Rattle.service.specs.Concluding.{WasServedAt}
use Rattle.service.specs.Served.{all_tickets}
use Rattle.service.proofs.Told.{drawn-none, each-told, have-seats, later-quotas, later-seats, once-told, seats-of-all, split-quotas, tickets-of-all, tickets_met, were-served}
use Rattle.service.proofs.concluding.conclude.Goals as goal

pub join_all-requires : goal.join_all-requires
join_all-requires g c =
    let run = c.requires.run.1 in
    let law = c.join_undoes_split.ensures in
    let owns : List (List Drawing) = map (λ o. o.begun.seats) run.openings in
    let split = split-quotas law.kept_quotas law.new_quotas run.whole owns c.args.seats run.split in
    let others = seats-of-all g.C.Clock g.L.Link c.args.common.now.plan.now c.args.common.now.clock.now
    c.requires.run.0 c.args.standings.items c.args.met.items run.openings c.outcomes.new.others.items run.standing
    run.served c.in_ok-conns.ensures.seats in
    subst (λ xs. All (λ own. quotas_of own ≡ quotas_of c.args.seats) xs) (sym others)
    (later-quotas (quotas_of c.args.seats) law.later_quotas owns (map (λ m. m.seats) c.args.met.items)
    (later-seats g.C.Clock g.L.Link c.args.common.now.plan.now c.args.common.now.clock.now run.openings
    c.args.met.items run.served)
    (subst (λ q. All (λ (own : List Drawing). quotas_of own ≡ q) owns) (sym split.0) split.1))

pub returns-clause-served : goal.returns-clause-served
returns-clause-served g c = λ ends run.
    subst (λ xs. AllZip (WasServedAt g.C.Clock g.L.Link c.args.common.now.plan.now c.args.common.now.clock.now) ends xs)
    (sym c.in_ok-conns.ensures.conns)
    (were-served g.C.Clock g.L.Link c.args.common.now.plan.now c.args.common.now.clock.now ends c.args.standings.items
    c.args.met.items run.openings run.standing run.served)

pub returns-clause-tickets : goal.returns-clause-tickets
returns-clause-tickets g c = λ tenant window less within few.
    let run = c.requires.run.1 in
    let plan = c.args.common.now.plan.now in
    let clock = c.args.common.now.clock.now in
    let met = c.args.met.items in
    let told : List (List ℕ) = map (tickets_met tenant window) met in
    let others = seats-of-all g.C.Clock g.L.Link plan clock c.requires.run.0 c.args.standings.items met run.openings
    c.outcomes.new.others.items run.standing run.served c.in_ok-conns.ensures.seats in
    let here : tenant < length c.args.seats = subst (λ n. tenant < n) (sym run.tenants) less in
    let each = each-told g.C.Clock g.L.Link plan clock tenant window less within run.openings met
    (have-seats g.C.Clock g.L.Link plan clock c.requires.run.0 c.args.standings.items run.openings run.standing) run.served in
    let zip = later-seats g.C.Clock g.L.Link plan clock run.openings met run.served in
    let joined = c.join_all.ensures.joined in
    once-told c.join_all.new.seats tenant window told _ c.tickets_are_distinct.ensures
    (c.join_undoes_split.ensures.all_shares run.whole c.join_all.new.seats
    (ap shares_of joined
    ∙ c.seats_join_again.ensures.shares run.whole c.args.seats _ c.outcomes.new.others.items run.split
    (subst (λ xs. AllZip AreLater (map (λ o. o.begun.seats) run.openings) xs) (sym others) zip))
    run.shares)
    (ap (λ seats. tickets_of_tenant seats tenant window) joined
    ∙ c.seats_join_again.ensures.drawn tenant window c.args.seats [] c.outcomes.new.others.items told
    (drawn-none c.args.seats tenant window here run.not_drawn)
    (subst (λ xs. AllZip (λ own tickets. tickets_of_tenant own tenant window ≡ Some tickets) xs told) (sym others) each))
    (ap (λ conns. all_tickets tenant window conns) c.in_ok-conns.ensures.conns
    ∙ tickets-of-all g.C.Clock g.L.Link plan clock tenant window c.requires.run.0 c.args.standings.items met
    run.openings run.standing run.served)
    within few
