use Rattle.tenant_quota.specs.contracts.seats.SeatsTickets.TheImpl as the_seats
use Rattle.link_queue.specs.contracts.queue_link.QueueLinkLink.TheImpl as the_link
use Rattle.service_threads.proofs.Wirings.{all-left, jobs-of}
use Rattle.service_threads.proofs.running.run_wired.Goals as goal

pub run_threads-requires-clause-jobs : goal.run_threads-requires-clause-jobs
run_threads-requires-clause-jobs g c κs within = jobs-of c.requires.wired.0 c.args.items.items c.args.jobs.items
    c.args.writers.items c.requires.wired.1

pub reconcile_each-requires-clause-left : goal.reconcile_each-requires-clause-left
reconcile_each-requires-clause-left g c κs within =
    let left = c.in_ok-left.left in (
      c.requires.wired.0,
      all-left g.C.Clock the_seats.ghosts (the_link.ghosts g.row.R g.R.Wait g.R.Wait-dict) c.requires.wired.0
          c.args.items.items c.args.jobs.items c.args.writers.items left.closed.items left.ends.items left.writers.items
          c.requires.wired.1 c.in_ok-left.ensures.closed c.in_ok-left.ensures.ends c.in_ok-left.ensures.writers,
    )

pub returns : goal.returns
returns g c = λ openings wired.
    let left = c.in_ok-left.left in
    c.reconcile_each.ensures.served openings
    (all-left g.C.Clock the_seats.ghosts (the_link.ghosts g.row.R g.R.Wait g.R.Wait-dict) openings c.args.items.items
    c.args.jobs.items c.args.writers.items left.closed.items left.ends.items left.writers.items wired
    c.in_ok-left.ensures.closed c.in_ok-left.ensures.ends c.in_ok-left.ensures.writers)
