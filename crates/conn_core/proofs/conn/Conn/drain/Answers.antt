use Rattle.conn_core.specs.Connections.{conn_state}
use Rattle.conn_core.proofs.TurnByTurn.{same-trans}
use Rattle.conn_core.proofs.Whole.{begins, drains, draws-later, fails-in-drain, hands-from, settled}
use Rattle.conn_core.proofs.conn.Conn.drain.Goals as goal

pub returns-clause-done : goal.returns-clause-done
returns-clause-done g c =
    λ is. drains c.args.self.now c.pass_all.new.conn c.send_all-drained.new.conn c.pass_all.ensures.went.same
    c.pass_all.ensures.passes
    (c.send_all-drained.ensures.done is) c.is_connection-3.ensures (c.send_all-drained.ensures.none_ready is)

pub returns-clause-settled : goal.returns-clause-settled
returns-clause-settled g c =
    λ is. settled c.drains_settle.ensures.settled c.args.self.now c.send_all-drained.new.conn c.is_connection.ensures
    (same-trans c.args.self.now c.pass_all.new.conn c.send_all-drained.new.conn c.pass_all.ensures.went.same
    c.send_all-drained.ensures.same)
    (drains c.args.self.now c.pass_all.new.conn c.send_all-drained.new.conn c.pass_all.ensures.went.same
    c.pass_all.ensures.passes
    (c.send_all-drained.ensures.done is) c.is_connection-3.ensures (c.send_all-drained.ensures.none_ready is))

pub returns-clause-failed : goal.returns-clause-failed
returns-clause-failed g c =
    λ is. fails-in-drain g.L.Link.refused g.L.Link.handed g.L.Link.failures g.L.Link.since c.args.self.now
    c.pass_all.new.conn c.send_all-drained.new.conn c.args.link.now c.send_all-drained.new.link
    c.pass_all.ensures.went.same c.pass_all.ensures.passes (c.send_all-drained.ensures.failed is)

pub returns-clause-memory : goal.returns-clause-memory
returns-clause-memory g c =
    λ is. begins c.args.self.now c.pass_all.new.conn (conn_state c.send_all-drained.new.conn) c.pass_all.ensures.went.same
    c.pass_all.ensures.passes
    (c.send_all-drained.ensures.memory is)

pub returns-clause-same : goal.returns-clause-same
returns-clause-same g c =
    same-trans c.args.self.now c.pass_all.new.conn c.send_all-drained.new.conn c.pass_all.ensures.went.same
    c.send_all-drained.ensures.same

pub returns-clause-draws : goal.returns-clause-draws
returns-clause-draws g c =
    draws-later g.Q.Tickets.knows g.Q.Tickets.drawn g.Q.Tickets.since c.args.self.now c.pass_all.new.conn
    c.send_all-drained.new.conn c.args.tickets.now
    c.pass_all.new.tickets c.pass_all.ensures.went.draws c.send_all-drained.ensures.tickets

pub returns-clause-handed : goal.returns-clause-handed
returns-clause-handed g c =
    hands-from c.args.self.now c.pass_all.new.conn c.send_all-drained.new.conn (g.L.Link.handed c.args.link.now)
    (g.L.Link.handed c.send_all-drained.new.link)
    c.pass_all.ensures.went.same_frames c.send_all-drained.ensures.handed
