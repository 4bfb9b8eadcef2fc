-- A writer as clauses see it, while it runs and after it ended.
use Rattle.std.specs.Prelude.{◌≡◌, ℕ, List}
use Rattle.atomic_table.specs.Seated.{TableId}
use Rattle.mrpc_base.specs.declared.link.Link.{Ghosts}
use Rattle.spsc_queue.specs.Ends.{consumer_queue, producer_queue}
use Rattle.link_queue.specs.declared.writer.QueueWriter.{QueueWriter}
use Rattle.link_queue.specs.declared.writer_end.WriterEnd.{WriterEnd}
use Rattle.link_queue.specs.declared.orders.Health.TheVariants.{Failed, Memory}
use Rattle.link_queue.specs.Inners.{forwarded}

-- the inner link as the writer got it
abbrev pub writer_start : {R L : Type 0} {g : Ghosts L} → QueueWriter R L g → L
writer_start w = w.inner.link.start

-- the queue to the writer, and the queue back
abbrev pub writer_forward : {R L : Type 0} {g : Ghosts L} → QueueWriter R L g → TableId
writer_forward w = consumer_queue w.orders

abbrev pub writer_backward : {R L : Type 0} {g : Ghosts L} → QueueWriter R L g → TableId
writer_backward w = producer_queue w.out

module _ {L : Type 0} {g : Ghosts L} where
  -- the inner link as the writer got it, and as it is when the writer ends
  abbrev pub inner_start_of : WriterEnd L g → L
  inner_start_of w = w.inner.link.start

  abbrev pub inner_link_of : WriterEnd L g → L
  inner_link_of w = w.inner.link.now

  -- the frames that the inner link sent since, and the bytes that it received since
  abbrev pub sent_since : WriterEnd L g → List (List ℕ)
  sent_since w = forwarded w.inner

  abbrev pub received_since : WriterEnd L g → List ℕ
  received_since w = w.inner.came.bytes

  abbrev pub end_forward : WriterEnd L g → TableId
  end_forward w = consumer_queue w.orders

  abbrev pub end_backward : WriterEnd L g → TableId
  end_backward w = producer_queue w.out

  -- the inner link failed
  abbrev pub HasInnerFailed : WriterEnd L g → Type 0
  HasInnerFailed w = w.inner.health ≡ Failed

  -- the writer was out of memory
  abbrev pub WasOutOfMemory : WriterEnd L g → Type 0
  WasOutOfMemory w = w.inner.health ≡ Memory
