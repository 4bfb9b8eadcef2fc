use Rattle.std.proofs.Common.{List, length}
use Rattle.std.specs.Vec.Iter.{into_iter_items}
use Rattle.tenant_quota.specs.contracts.seats.SeatsTickets.TheImpl as the_seats
use Rattle.link_queue.specs.contracts.queue_link.QueueLinkLink.TheImpl as the_link
use Rattle.service_threads.specs.Closings.{AreLeft, Opening}
use Rattle.service_threads.specs.Served.{HasServed}
use Rattle.service_threads.proofs.Each.{MeetSome}
use Rattle.service_threads.proofs.reconciling.reconcile_each.Given as goal

abbrev pub invariant-loop-one : goal.invariant-loop-one
invariant-loop-one g l = (openings : List (Opening g.row.C.Denot g.row.L.Denot))
    → AreLeft g.C.Clock the_seats.ghosts (the_link.ghosts g.row.R g.R.Wait g.R.Wait-dict) {g = g.L.Link} openings
    l.fn.closed.items l.fn.ends.items l.fn.writers.items
    → MeetSome (λ rest. AreLeft g.C.Clock the_seats.ghosts (the_link.ghosts g.row.R g.R.Wait g.R.Wait-dict)
    {g = g.L.Link} rest (into_iter_items l.rest) (into_iter_items l.ends) (into_iter_items l.writers))
    (λ o met. HasServed g.C.Clock g.L.Link o met.bound met.seats met.link) openings l.all.items

abbrev pub decreases-loop-one : goal.decreases-loop-one
decreases-loop-one g l = length (into_iter_items l.rest)
