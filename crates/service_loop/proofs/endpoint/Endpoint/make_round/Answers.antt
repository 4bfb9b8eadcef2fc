use Rattle.service_loop.proofs.Onward.{goes-then, same-then}
use Rattle.service_loop.proofs.endpoint.Endpoint.make_round.Goals as goal

pub returns-clause-goes_on : goal.returns-clause-goes_on
returns-clause-goes_on g c =
    goes-then g.C.Clock g.Q.Tickets g.L.Link c.args.self.now c.submit.new.self c.deliver.new.self
    c.in_ok-submitted.ensures.goes_on c.in_ok-delivered.ensures.goes_on

pub returns-clause-same : goal.returns-clause-same
returns-clause-same g c =
    same-then g.C.Clock g.Q.Tickets g.L.Link c.args.self.now c.submit.new.self c.deliver.new.self c.submit.ensures.same
    c.deliver.ensures.same

pub returns-in_err-delivered-clause-same : goal.returns-in_err-delivered-clause-same
returns-in_err-delivered-clause-same g c =
    same-then g.C.Clock g.Q.Tickets g.L.Link c.args.self.now c.submit.new.self c.deliver.new.self c.submit.ensures.same
    c.deliver.ensures.same
