use Rattle.service_wiring.proofs.pooled_connection.PooledConnection+R+C+Seats+QueueLink+R+G+O.close.Goals as goal

pub returns-clause-endpoint : goal.returns-clause-endpoint
returns-clause-endpoint g c = rw (← c.self.view_is) c.self.invariant.0
