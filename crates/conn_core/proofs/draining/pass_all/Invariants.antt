use Rattle.std.proofs.Common.{◌+◌, ◌-◌, ◌*◌, ◌≤◌, length}
use Rattle.call_history.specs.Draining.{IsPass}
use Rattle.call_history.specs.Transitions.{ConnState}
use Rattle.conn_core.specs.Connections.{conn_state, judge_context}
use Rattle.conn_core.specs.Invariant.{HasAdvancedByTurns}
use Rattle.conn_core.specs.ConnectionSteps.{conn_parts}
use Rattle.conn_core.proofs.draining.pass_all.Given as goal

abbrev pub invariant-engines : goal.invariant-engines
invariant-engines g l =
    ((new : ConnState) → IsPass (judge_context l.fn.conn) l.at (conn_state l.conn) new
    → IsPass (judge_context l.fn.conn) 0 (conn_state l.fn.conn) new)
    × HasAdvancedByTurns g.Q.Tickets.knows g.Q.Tickets.drawn g.Q.Tickets.since l.fn.conn l.conn l.fn.tickets l.tickets
    × (l.at ≤ length l.fn.conn.chain.engines)

abbrev pub decreases-engines : goal.decreases-engines
decreases-engines g l = conn_parts l.conn * 9 + (length l.fn.conn.chain.engines - l.at)
