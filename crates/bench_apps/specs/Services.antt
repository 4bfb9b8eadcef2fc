-- The code's own: new heaps and rings, and a service that has done nothing.
use Rattle.std.specs.Prelude.{◌≡◌, []}
use Rattle.shared_heap.specs.Fresh.{HeapId}
use Rattle.bench_apps.specs.declared.plain_service.Service.{Service}
use Rattle.bench_apps.specs.declared.plain_service.AppSide.{AppSide}
use Rattle.bench_apps.specs.declared.wiring.HeapEnds.{HeapEnds}
use Rattle.bench_apps.specs.declared.wiring.RingEnds.{RingEnds}
use Rattle.bench_apps.specs.declared.wiring.AppRings.{AppRings}
use Rattle.bench_apps.specs.declared.wiring.TheConstants.{CAPACITY, WORDS}

-- both ends are of one heap
pub record IsNewHeap (heap : HeapEnds) : Type 0 where
  pub words : heap.writer.heap.words ≡ WORDS
  pub reader_heap : heap.reader.heap ≡ heap.writer.heap
  pub stored : heap.writer.stores ≡ []
  pub loaded : heap.reader.loads ≡ []

-- both ends are for notes of one heap
pub record IsNewRing (ring : RingEnds) : Type 0 where
  pub heap : ring.receiver.heap ≡ ring.sender.heap
  pub capacity : ring.sender.capacity ≡ CAPACITY
  pub sent : ring.sender.sent ≡ []
  pub taken : ring.receiver.taken ≡ []

-- nothing was sent through the rings of an application
pub record AreNewRings (rings : AppRings) : Type 0 where
  pub calls : IsNewRing rings.calls
  pub notices : IsNewRing rings.notices
  pub blocks : rings.numbers.blocks.taken ≡ []
  pub reclaims : rings.numbers.reclaims.sent ≡ []

-- its side of an application, whose calls and notices are of these heaps
pub record IsUnusedSide (called told : HeapId) (side : AppSide) : Type 0 where
  pub calls_heap : side.taking.calls.heap ≡ called
  pub notices_heap : side.notices.heap ≡ told
  pub taken : side.taking.calls.taken ≡ []
  pub noticed : side.notices.sent ≡ []

-- the echo's notices are of the heap of the client's calls, and the client's of the service's own heap
pub record IsUnused (service : Service) : Type 0 where
  pub calls_heap : service.client.taking.calls.heap ≡ service.echo.notices.heap
  pub told_heap : service.client.notices.heap ≡ service.writer.heap
  pub taken : service.client.taking.calls.taken ≡ []
  pub noticed : service.echo.notices.sent ≡ []
  pub told : service.client.notices.sent ≡ []
