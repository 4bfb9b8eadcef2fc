use Rattle.std.proofs.Common.{◌≡◌, ℕ, length}
use Rattle.call_history.specs.Tickets.{tickets_of_trace}
use Rattle.conn_core.specs.Connections.{IsSameConnection, conn_trace, conn_state, judge_context}
use Rattle.conn_core.specs.ConnectionSteps.{HasHandedOver}
use Rattle.conn_core.proofs.SentAll.{SendsBehind}
use Rattle.conn_core.proofs.draining.send_all.Given as goal

abbrev pub invariant-calls : goal.invariant-calls
invariant-calls g l = SendsBehind (judge_context l.fn.conn) (conn_state l.fn.conn) (conn_state l.conn)
    × IsSameConnection l.fn.conn l.conn
    × ((tenant window : ℕ) → tickets_of_trace tenant window (conn_trace l.conn)
    ≡ tickets_of_trace tenant window (conn_trace l.fn.conn))
    × HasHandedOver l.fn.conn l.conn (g.L.Link.handed l.fn.link) (g.L.Link.handed l.link)
    × (g.L.Link.given l.link ≡ g.L.Link.given l.fn.link)
    × (g.L.Link.ended l.link ≡ g.L.Link.ended l.fn.link)
    × ((first : g.row.L.Denot) → g.L.Link.since first l.fn.link → g.L.Link.since first l.link)
    × (g.L.Link.failures l.link ≡ g.L.Link.failures l.fn.link)

abbrev pub decreases-calls : goal.decreases-calls
decreases-calls g l = length l.conn.chain.row
