use Rattle.std.proofs.Common.{◌≡◌, ◌++◌, List, length}
use Rattle.std.specs.List.{AllZip}
use Rattle.std.specs.Vec.Iter.{into_iter_items}
use Rattle.tenant_quota.specs.contracts.seats.SeatsTickets.TheImpl as the_seats
use Rattle.link_queue.specs.contracts.queue_link.QueueLinkLink.TheImpl as the_link
use Rattle.service_threads.specs.Closings.{ServedEndpoint}
use Rattle.service_threads.specs.Parts.{WasClosed}
use Rattle.service_threads.proofs.workers.close_all.Given as goal

abbrev pub invariant-loop-item : goal.invariant-loop-item
invariant-loop-item g l = (past : List (ServedEndpoint g.row.C.Denot)) × (l.fn.over.items ≡ past ++ into_iter_items l.rest)
    × AllZip (WasClosed g.C.Clock the_seats.ghosts (the_link.ghosts g.row.R g.R.Wait g.R.Wait-dict)) past l.all.items

abbrev pub decreases-loop-item : goal.decreases-loop-item
decreases-loop-item g l = length (into_iter_items l.rest)
