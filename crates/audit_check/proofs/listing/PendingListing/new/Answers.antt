use Rattle.audit_check.proofs.Rows.{row_first}
use Rattle.audit_check.proofs.listing.PendingListing.new.Goals as goal

pub returns : goal.returns
returns c T limit h known prefixes settled =
    row_first c.listing_can_start.ensures T limit h settled c.args.checkers
    c.pop-current.result c.pop-current.new.rest c.pop-current.ensures.popped c.pop-current.ensures.rise known
    prefixes
