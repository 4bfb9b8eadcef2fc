use Rattle.run_driver.specs.Running.{conns_by_number}
use Rattle.drill.proofs.Counted.{connection-adds-up, run-adds-up}
use Rattle.drill.proofs.Told.{of-connections}
use Rattle.drill.proofs.laws.each_call_is_counted_once.Goals as goal

pub returns-clause-connection : goal.returns-clause-connection
returns-clause-connection g c conn is =
    connection-adds-up conn is c.pending_after_event.ensures.taken c.pending_after_event.ensures.sent
    c.pending_after_event.ensures.refused

pub returns-clause-run : goal.returns-clause-run
returns-clause-run g c plan conns told shows =
    run-adds-up told c.pending_after_event.ensures.taken c.pending_after_event.ensures.sent
    c.pending_after_event.ensures.refused (of-connections plan (conns_by_number conns) told shows)
