use Rattle.service_threads.proofs.workers.visit_and_close.Goals as goal

pub returns : goal.returns
returns g c = c.close_all.ensures c.args.items.items c.in_ok-over.ensures.turned
