use Rattle.std.proofs.Common.{◌-◌, Option, None, Some, refl, subst, sym}
use Rattle.std.specs.Prelude.{IfSome}
use Rattle.qos_order.specs.Account.{Visit}
use Rattle.service_loop.specs.Within.{CanCount, IsVisitCounted}
use Rattle.service_loop.specs.declared.visit_account.VisitAccount.{VisitAccount}
use Rattle.service_loop.proofs.endpoint.count.Goals as goal

pub counted-counted-requires : goal.counted-counted-requires
counted-counted-requires c =
    let visit : Visit = record { given = c.args.visit.given; ending = c.args.visit.ending } in
    subst (λ (share : Option VisitAccount). IfSome share (CanCount visit)) c.in-Some.is c.requires.share

pub returns-in-Some : goal.returns-in-Some
returns-in-Some c =
    let visit : Visit = record { given = c.args.visit.given; ending = c.args.visit.ending } in
    subst (λ (share : Option VisitAccount). IsVisitCounted visit (c.args.grant - c.args.visit.given) share
    (Some c.counted-counted.result) c.counted-counted.result.account.kept) (sym c.in-Some.is)
    (c.counted-counted.ensures, refl)

pub returns-in-None : goal.returns-in-None
returns-in-None c =
    let visit : Visit = record { given = c.args.visit.given; ending = c.args.visit.ending } in
    subst (λ (share : Option VisitAccount). IsVisitCounted visit (c.args.grant - c.args.visit.given) share None c.unused_of.result)
    (sym c.in-None.is) c.unused_of.ensures
