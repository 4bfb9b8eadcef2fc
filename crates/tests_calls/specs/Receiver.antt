-- The code's own: the invariant of a receiver with its heap.
use Rattle.std.specs.Prelude.{◌≡◌, ℕ, ◌+◌, ◌*◌, ◌≤◌}
use Rattle.mrpc_base.specs.Heap.{Heap}
use Rattle.mrpc_table.specs.Valid.{IsValid}
use Rattle.mrpc_table.specs.declared.table.Table.{Table}
use Rattle.frame_transport.specs.Feed.{total_fed}
use Rattle.receive_core.specs.Turns.{ReceiverState, IsReady}

-- the heap is the receiver's, which read under this table, and each call added at most one block and at most
-- 1000 bytes
pub record IsReceiving (T : Table) (heap : Heap) (inbound : ReceiverState) (calls : ℕ) : Type 0 where
  pub valid : IsValid T
  pub ready : IsReady T inbound
  pub size : heap.size ≡ inbound.heap.words
  pub blocks : inbound.heap.next ≤ calls + 1
  pub bytes : total_fed inbound.fed ≤ 1000 * calls
