-- The parts of a connection after its link was closed (this project's own).
use Rattle.std.specs.Prelude.{◌≡◌, ◌↔◌, ◌<◌, List, true}
use Rattle.tenant_quota.specs.Drawing.{Drawing}
use Rattle.link_queue.specs.Queueing.{QueueLinkState}
use Rattle.link_queue.specs.declared.orders.Health.TheVariants.{Failed}
use Rattle.service_loop.specs.declared.endpoint.Endpoint.{Endpoint}
use Rattle.service_wiring.specs.declared.closed_connection.ClosedConnection.{ClosedConnection}

-- The parts are those of the connection. Its link left the frames sent, the bytes received, and whether these had
-- ended. It also left whether it knew of a failure, as it does if it counted one of its own.
pub record IsLeftOf {C : Type 0} (e : Endpoint C (List Drawing) QueueLinkState) (left : ClosedConnection) : Type 0 where
  pub submissions : left.submissions ≡ e.submissions
  pub deliveries : left.deliveries ≡ e.deliveries
  pub seats : left.seats ≡ e.tickets
  pub share : left.share ≡ e.share
  pub memory : left.memory ≡ e.memory
  pub handed : left.passed.handed ≡ e.link.handed
  pub given : left.passed.given ≡ e.link.given
  pub ended : left.passed.ended ≡ e.link.ended
  pub failed : (left.passed.failed ≡ true) ↔ (e.link.health ≡ Failed)
  pub counted : 0 < e.link.failures → left.passed.failed ≡ true
  pub forward : left.passed.forward ≡ e.link.forward
  pub backward : left.passed.backward ≡ e.link.backward
