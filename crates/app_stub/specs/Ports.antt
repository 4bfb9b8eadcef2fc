-- The port of an application, and its state after the application ended.
use Rattle.std.specs.Prelude.{◌≡◌, ℕ, List, [], IsTrue, map, true}
use Rattle.descriptor_ring.specs.Rings.{RingId}
use Rattle.app_stub.specs.declared.port.AppEnd.{AppEnd}
use Rattle.app_stub.specs.declared.port.AppPort.{AppPort}
use Rattle.app_stub.specs.declared.port.AppSent.{AppSent}
use Rattle.app_program.specs.Programs.{Submission}
use Rattle.app_stub.specs.Serving.{submission_of}

-- an unused port: its rings belong to its heaps
pub record IsNew {F : Type 0} (port : AppPort F) : Type 0 where
  pub calls : port.sender.heap ≡ port.writer.heap
  pub capacity : port.capacity ≡ port.sender.capacity
  pub notices : port.notices.heap ≡ port.reader.heap
  pub stored : port.writer.stores ≡ []
  pub loaded : port.reader.loads ≡ []
  pub sent : port.sender.sent ≡ []
  pub taken : port.notices.taken ≡ []
  pub numbers : port.blocks.taken ≡ []
  pub reclaimed : port.reclaims.sent ≡ []

-- the end of an application belongs to the port's heaps and rings, and its note is the writer's last
pub record IsOfPort {F : Type 0} (port : AppPort F) (end : AppEnd) : Type 0 where
  pub heap : end.note.heap ≡ port.writer.heap
  pub last : end.note.last ≡ true
  pub reader : end.reader.heap ≡ port.reader.heap
  pub notices : end.notices.ring ≡ port.notices.ring
  pub notices_heap : end.notices.heap ≡ port.notices.heap
  pub blocks : end.blocks.ring ≡ port.blocks.ring

-- the final state of two senders: these calls and these blocks are all that were sent
pub record HasSent (ring numbers : RingId) (submissions : List Submission) (blocks : List ℕ) (sent : AppSent)
    : Type 0 where
  pub calls_ring : sent.calls.ring ≡ ring
  pub calls : map submission_of sent.calls.items ≡ submissions
  pub reclaims_ring : sent.reclaims.ring ≡ numbers
  pub reclaims : sent.reclaims.items ≡ blocks

-- the application took all notices and all block numbers, up to the closing of their rings
pub record HasTakenUpToClose (end : AppEnd) : Type 0 where
  pub notices : IsTrue end.notices.closed
  pub blocks : IsTrue end.blocks.closed
