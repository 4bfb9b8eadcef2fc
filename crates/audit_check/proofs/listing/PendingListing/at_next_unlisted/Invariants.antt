use Rattle.std.proofs.Common.{ℕ, ◌+◌, List, is_some, if◌then◌else◌}
use Rattle.std.specs.BTreeMap.{btree_map_len}
use Rattle.mrpc_table.specs.declared.table.Table.{Table}
use Rattle.call_history.specs.Legal.{History}
use Rattle.audit_check.specs.Checking.{StandsLine}
use Rattle.audit_check.specs.States.{IsListing, IsListingOf}
use Rattle.audit_check.proofs.listing.PendingListing.at_next_unlisted.Given as goal

abbrev pub invariant-loop-rest : goal.invariant-loop-rest
invariant-loop-rest l =
    (T : Table) (limit : ℕ) (h : History) (told : List StandsLine) → IsListing T limit h told l.fn.self → IsListingOf T limit h told l.current l.rest

abbrev pub decreases-loop-rest : goal.decreases-loop-rest
decreases-loop-rest l = btree_map_len l.rest + (if is_some l.current then 1 else 0)
