use Rattle.std.specs.BTreeMap.{btree_map_len}
use Rattle.audit_check.proofs.Rows.{current_of, shorter_on, step_on}
use Rattle.audit_check.proofs.listing.PendingListing.at_next_unlisted.Goals as goal

pub loop-rest-smaller : goal.loop-rest-smaller
loop-rest-smaller c =
    shorter_on (btree_map_len c.loop-rest.rest) (btree_map_len c.pop-current.new.rest) c.loop-rest.current c.pop-current.result
    (c.is_all_listed.ensures.some c.loop-rest-test.true) c.pop-current.ensures.len

pub loop-rest-preserved : goal.loop-rest-preserved
loop-rest-preserved c T limit h told row =
    let now = c.loop-rest.invariant T limit h told row in
    let is = (c.is_all_listed.ensures.told T limit h told (current_of T limit h told c.loop-rest.current c.loop-rest.rest now.knows)).0 c.loop-rest-test.true in
    step_on T limit h told c.loop-rest.current c.loop-rest.rest c.pop-current.result c.pop-current.new.rest now is c.pop-current.ensures.popped

pub returns-clause-left : goal.returns-clause-left
returns-clause-left c T limit h told row is =
    let now = c.loop-rest.invariant T limit h told row in
    let yes = (c.is_all_listed.ensures.told T limit h told (current_of T limit h told c.loop-rest.current c.loop-rest.rest now.knows)).1 is in
    let no = c.loop-rest-test.false in cc
