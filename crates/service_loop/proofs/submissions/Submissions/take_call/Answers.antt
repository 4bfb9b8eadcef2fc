use Rattle.conn_core.specs.Connections.{conn_trace}
use Rattle.std.specs.Prelude.{take}
use Rattle.service_loop.proofs.Going.{serves-closing}
use Rattle.service_loop.proofs.Taking.{came-closed}
use Rattle.service_loop.proofs.submissions.Submissions.take_call.Goals as goal

pub returns-in-Closed-clause-serving : goal.returns-in-Closed-clause-serving
returns-in-Closed-clause-serving g c =
    serves-closing c.args.self.now.conn c.args.self.now.reader c.args.self.now.calls c.take.new.self
    c.args.self.now.steps.now c.args.self.now.applied c.args.self.now.accepted c.in-Closed.ensures.kept
    c.take.ensures.heap
    (came-closed c.args.self.now.calls.closed c.take.new.self.closed (conn_trace c.args.self.now.conn)
    (take c.args.self.now.applied c.args.self.now.steps.now) c.requires.open
    (c.take.ensures.closed.0 c.in-Closed.is) c.requires.serving.came)
    c.requires.serving
