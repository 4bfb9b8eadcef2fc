use Rattle.conn_core.specs.Connections.{conn_state, judge_context}
use Rattle.conn_core.specs.Invariant.{HasAdvancedByTurns}
use Rattle.conn_core.proofs.TurnByTurn.{Follows}
use Rattle.conn_core.proofs.Passing.{waiting}
use Rattle.conn_core.proofs.draining.turns_at.Given as goal

abbrev pub invariant-turns : goal.invariant-turns
invariant-turns g l = Follows (judge_context l.fn.conn) l.at (conn_state l.fn.conn) (conn_state l.conn)
    × HasAdvancedByTurns g.Q.Tickets.knows g.Q.Tickets.drawn g.Q.Tickets.since l.fn.conn l.conn l.fn.tickets l.tickets

abbrev pub decreases-turns : goal.decreases-turns
decreases-turns g l = waiting l.at l.conn.chain.row
