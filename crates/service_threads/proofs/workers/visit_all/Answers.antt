use Rattle.service_wiring.specs.Pooling.{IsLaterEndpoint}
use Rattle.worker_pool.specs.Later.{IsLater}
use Rattle.service_threads.proofs.Zips.{zip-map}
use mir.Syntax.{named}
use denote.Exit.{no}
use denote.Param.Send.{arg_send, param_send}
use Rattle.service_threads.proofs.Sending.{turned-send}
use Rattle.service_threads.proofs.workers.visit_all.Goals as goal

pub run-requires-send-T : goal.run-requires-send-T
run-requires-send-T g c κs within = param_send 1 _ (arg_send _ no _
    (turned-send (record { mir = named 7; lft = κs.1.1.1.1.1.1.1.0 }) _ _ _ _ _ _ _ _ _ _
    c.type_bounds.sync-R c.type_bounds.sync-C c.type_bounds.send-Q c.type_bounds.send-L c.type_bounds.sync-G
    c.type_bounds.sync-O))

pub returns-clause-turned : goal.returns-clause-turned
returns-clause-turned g c = zip-map (IsLater (IsLaterEndpoint g.C.Clock g.Q.Tickets g.L.Link))
    (IsLaterEndpoint g.C.Clock g.Q.Tickets g.L.Link) c.args.items.items c.in_ok-ran.ran.items.items
    (λ item last later. later item (c.since_is_transitive.ensures.itself item)) c.in_ok-ran.ensures.each

pub returns-clause-done : goal.returns-clause-done
returns-clause-done g c = c.in_ok-ran.ensures.over c.if-ran.false
