use Rattle.service_loop.proofs.delivering.Deliveries.send_notices.Goals as goal

pub returns-clause-delivered : goal.returns-clause-delivered
returns-clause-delivered g c life numbers back h =
    c.close-closed.ensures.delivered life numbers back (c.send_pending_notices-given.ensures.delivered life numbers back h)
