use Rattle.std.proofs.Common.{ℕ, List, [], sym, subst, inl, inr}
use Rattle.audit_check.specs.Checking.{AreLegalPrefixes, StandsLine}
use Rattle.audit_check.specs.States.{IsListing}
use Rattle.audit_check.proofs.Known.{each_known}
use Rattle.audit_check.proofs.Stages.{legal_now}
use Rattle.audit_check.proofs.stage.first_listing.Goals as goal

pub returns-in-None : goal.returns-in-None
returns-in-None c T limit h told now line =
    let own = c.args.connections.limit in
    let each = each_known T h c.args.connections c.in_ok-checkers.checkers c.in_ok-checkers.ensures now.knows in
    let settled = c.in-None.ensures.settled T own h each in
    let A : ℕ → Type 0 = λ limit. AreLegalPrefixes T limit h in
    let R : ℕ → Type 0 = λ limit. IsListing T limit h [] c.new.result in
    let L : List StandsLine → Type 0 = λ told. IsListing T limit h told c.new.result in (
      legal_now T limit h now.prefixes settled,
      subst L (sym now.untold) (subst R now.same_limit (c.new.ensures T own h each (subst A (sym now.same_limit) now.prefixes) settled)),
    )

pub returns-in-Some : goal.returns-in-Some
returns-in-Some c T limit h told now line =
    let each = each_known T h c.args.connections c.in_ok-checkers.checkers c.in_ok-checkers.ensures now.knows in
    inr (inl (record { prefixes = now.prefixes; first = c.in-Some.ensures.open T c.args.connections.limit h each; counted = line now.untold }))
