use Rattle.std.proofs.Common.{sym, subst, IsTrue, ◌↔◌, Bool}
use Rattle.audit_check.specs.Checking.{AreAllListed}
use Rattle.audit_check.proofs.Rows.{none_by, whole_iff}
use Rattle.audit_check.proofs.listing.PendingListing.has_listed_all.Goals as goal

pub returns : goal.returns
returns c T limit h told row =
    let iff = whole_iff T limit h told c.at_next_unlisted.result.current c.at_next_unlisted.result.rest (c.at_next_unlisted.ensures.same T limit h told row) (c.at_next_unlisted.ensures.left T limit h told row) in
    let P : Bool → Type 0 = λ b. IsTrue b ↔ AreAllListed T limit h told in
    subst P (sym (none_by c.is_none.result c.at_next_unlisted.result.current (sym c.is_none.ensures))) iff
