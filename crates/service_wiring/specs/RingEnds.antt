-- The code's own: the ends of the rings between an application and the service, as opened.
use Rattle.std.specs.Prelude.{◌≡◌, ℕ, [], false}
use Rattle.app_stub.specs.Ports.{IsNew}
use Rattle.run_plan.specs.declared.application.Application.{Application}
use Rattle.shared_heap.specs.Fresh.{HeapId, Reading}
use Rattle.service_wiring.specs.declared.ring_ends.AppRingEnds.{AppRingEnds}
use Rattle.service_wiring.specs.declared.opened_port.OpenedPort.{OpenedPort}

-- Nothing was sent or taken. Calls belong to the heap that the application writes, and notices to the one that it
-- reads.
pub record AreRingEnds (cap : ℕ) (sent received : HeapId) (ends : AppRingEnds) : Type 0 where
  pub calls_ring : ends.calls.ring ≡ ends.sender.ring
  pub calls_heap : ends.calls.heap ≡ sent
  pub sender_heap : ends.sender.heap ≡ sent
  pub capacity : ends.sender.capacity ≡ cap
  pub none_sent : ends.sender.sent ≡ []
  pub none_taken : ends.calls.taken ≡ []
  pub calls_open : ends.calls.closed ≡ false
  pub notices_ring : ends.noticed.ring ≡ ends.rings.notices.ring
  pub notices_heap : ends.rings.notices.heap ≡ received
  pub noticed_heap : ends.noticed.heap ≡ received
  pub none_told : ends.rings.notices.sent ≡ []
  pub none_noticed : ends.noticed.taken ≡ []
  pub numbers_ring : ends.numbered.ring ≡ ends.rings.blocks.ring
  pub none_numbered : ends.rings.blocks.sent ≡ []
  pub no_blocks : ends.numbered.taken ≡ []
  pub reclaims_ring : ends.rings.reclaims.ring ≡ ends.reclaims.ring
  pub none_given : ends.reclaims.sent ≡ []
  pub none_back : ends.rings.reclaims.taken ≡ []
  pub reclaims_open : ends.rings.reclaims.closed ≡ false

-- The port of an application as opened, with a new heap and new rings. The application reads what `reader` does.
pub record IsOpenedPort (app : Application) (reader : Reading) (p : OpenedPort) : Type 0 where
  pub words : p.port.writer.heap.words ≡ app.heap
  pub capacity : p.port.capacity ≡ app.ring
  pub its_reader : p.port.reader ≡ reader
  pub new : reader.loads ≡ [] → IsNew p.port
  pub one_heap : p.own_reader.heap ≡ p.port.writer.heap
  pub loads : p.own_reader.loads ≡ []
  pub ends : AreRingEnds app.ring p.own_reader.heap reader.heap (record {
    sender = p.port.sender;
    noticed = p.port.notices;
    numbered = p.port.blocks;
    reclaims = p.port.reclaims;
    calls = p.calls;
    rings = p.rings;
  })
