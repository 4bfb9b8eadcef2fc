use Rattle.std.proofs.Common.{◌≡◌, ◌-◌, ℕ, Option, ap, refl, subst, sym, ◌∙◌}
use Rattle.std.specs.Prelude.{IfSome}
use Rattle.qos_order.specs.Account.{Visit, kept_rounds}
use Rattle.service_loop.specs.Rounds.{weight_of_visits}
use Rattle.service_loop.specs.Within.{CanCount, IsVisitCounted}
use Rattle.service_loop.specs.declared.visit_account.VisitAccount.{VisitAccount}
use Rattle.service_loop.proofs.Onward.{goes-kept, same-kept, whole-kept}
use Rattle.service_loop.proofs.Shares.{can-count, counted-so, grants-later, kept-so, shares-again, weight-stays}
use Rattle.service_loop.proofs.endpoint.Endpoint.visit.Goals as goal

pub returns-then-self-clause-order : goal.returns-then-self-clause-order
returns-then-self-clause-order g c = c.requires.order

pub returns-then-self-clause-kept : goal.returns-then-self-clause-kept
returns-then-self-clause-kept g c = λ below. refl

pub make_rounds-visited-requires-clause-whole : goal.make_rounds-visited-requires-clause-whole
make_rounds-visited-requires-clause-whole g c κs within = (c.requires.endpoint c.if-self.false).0

pub count-share-requires-clause-share : goal.count-share-requires-clause-share
count-share-requires-clause-share g c =
    let old = c.args.self.now in
    let visited = c.make_rounds-visited.result in
    let visit : Visit = record { given = visited.given; ending = visited.ending } in
    subst (λ (share : Option VisitAccount). IfSome share (CanCount visit)) (sym c.make_rounds-visited.ensures.share)
    (can-count old.kept old.submissions.accepted old.share (g.O.ReadyOrder.grant_of c.args.order.now)
    old.submissions.conn.conn c.grant-grant.result visit
    (c.grant-grant.ensures
    ∙ ap (λ (conn : ℕ). g.O.ReadyOrder.grant_of c.args.order.now conn old.kept) c.number.ensures)
    (c.requires.endpoint c.if-self.false).1 c.requires.order c.make_rounds-visited.ensures.fits)

pub returns-clause-endpoint : goal.returns-clause-endpoint
returns-clause-endpoint g c has =
    let old = c.args.self.now in
    let new = c.make_rounds-visited.new.self in
    let visited = c.make_rounds-visited.result in
    let visit : Visit = record { given = visited.given; ending = visited.ending } in
    let left : ℕ = c.grant-grant.result - visited.given in (
      whole-kept g.C.Clock g.Q.Tickets g.L.Link new c.count-share.result.1 c.count-share.result.0
          (c.make_rounds-visited.ensures.whole has),
      shares-again old.kept c.count-share.result.1 old.submissions.accepted new.submissions.accepted left old.share
          c.count-share.result.0 visit (c.requires.endpoint c.if-self.false).1 (c.make_rounds-visited.ensures.accepted has)
          (subst (λ (share : Option VisitAccount). IsVisitCounted visit left share c.count-share.result.0 c.count-share.result.1)
          c.make_rounds-visited.ensures.share c.count-share.ensures),
    )

pub returns-clause-order : goal.returns-clause-order
returns-clause-order g c =
    let new = c.make_rounds-visited.new.self in
    let visited = c.make_rounds-visited.result in
    let visit : Visit = record { given = visited.given; ending = visited.ending } in
    grants-later (g.O.ReadyOrder.grant_of c.args.order.now) c.args.self.now
    (record new { kept = c.count-share.result.1; share = c.count-share.result.0 })
    (weight-stays new.share c.count-share.result.0 (c.grant-grant.result - visited.given) c.count-share.result.1 visit
    c.count-share.ensures ∙ ap weight_of_visits c.make_rounds-visited.ensures.share)
    c.make_rounds-visited.ensures.same.submissions.conn.conn c.requires.order

pub returns-clause-goes_on : goal.returns-clause-goes_on
returns-clause-goes_on g c has =
    goes-kept g.C.Clock g.Q.Tickets g.L.Link c.args.self.now c.make_rounds-visited.new.self c.count-share.result.1
    c.count-share.result.0 (c.make_rounds-visited.ensures.goes_on has)

pub returns-clause-same : goal.returns-clause-same
returns-clause-same g c =
    let new = c.make_rounds-visited.new.self in
    let visited = c.make_rounds-visited.result in
    let visit : Visit = record { given = visited.given; ending = visited.ending } in
    same-kept g.C.Clock g.Q.Tickets g.L.Link c.args.self.now new c.count-share.result.1 c.count-share.result.0
    (weight-stays new.share c.count-share.result.0 (c.grant-grant.result - visited.given) c.count-share.result.1 visit
    c.count-share.ensures) c.make_rounds-visited.ensures.same

pub returns-clause-kept : goal.returns-clause-kept
returns-clause-kept g c = λ below.
    let old = c.args.self.now in
    let visited = c.make_rounds-visited.result in
    let visit : Visit = record { given = visited.given; ending = visited.ending } in
    let granted : c.grant-grant.result ≡ g.O.ReadyOrder.grant_of c.args.order.now old.submissions.conn.conn old.kept =
    c.grant-grant.ensures
    ∙ ap (λ (conn : ℕ). g.O.ReadyOrder.grant_of c.args.order.now conn old.kept) c.number.ensures in
    kept-so old.kept old.submissions.accepted old.share c.count-share.result.0
    (g.O.ReadyOrder.grant_of c.args.order.now) old.submissions.conn.conn c.grant-grant.result c.count-share.result.1 visit
    granted (c.requires.endpoint c.if-self.false).1 c.requires.order
    (subst (λ (share : Option VisitAccount). IsVisitCounted visit (c.grant-grant.result - visited.given) share c.count-share.result.0
    c.count-share.result.1) c.make_rounds-visited.ensures.share c.count-share.ensures) below
    ∙ ap (λ (grant : ℕ). kept_rounds visited.ending (grant - visited.given)) granted

pub returns-clause-counted : goal.returns-clause-counted
returns-clause-counted g c has =
    let visited = c.make_rounds-visited.result in
    let visit : Visit = record { given = visited.given; ending = visited.ending } in
    let left : ℕ = c.grant-grant.result - visited.given in
    counted-so c.args.self.now.share c.count-share.result.0 left c.count-share.result.1 visit
    (subst (λ (share : Option VisitAccount). IsVisitCounted visit left share c.count-share.result.0 c.count-share.result.1)
    c.make_rounds-visited.ensures.share c.count-share.ensures)
