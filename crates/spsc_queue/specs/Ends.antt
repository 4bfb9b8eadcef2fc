-- The two ends of a single-producer single-consumer queue, as clauses see them.
use Rattle.std.specs.Prelude.{◌≡◌, ℕ, List}
use Rattle.std.specs.Arc.{arc_value}
use Rattle.atomic_table.specs.Seated.{TableId}
use Rattle.crossbeam_queue.specs.Passes.{view, ruled_capacity}
use Rattle.spsc_queue.specs.declared.producer.Producer.{Producer}
use Rattle.spsc_queue.specs.declared.consumer.Consumer.{Consumer}

module _ {T : Type 0} where
  -- all items that were pushed, in order
  abbrev pub pushed_of : Producer T → List T
  pushed_of p = (view p.pass).put

  -- how many slots are known to be free, until the next push
  abbrev pub free_of : Producer T → ℕ
  free_of p = p.free

  -- all items that were popped, in order
  abbrev pub popped_of : Consumer T → List T
  popped_of c = (view c.pass).taken

  -- the items that the consumer knows to be pushed: all that were when the two ends were last reconciled
  abbrev pub known_pushed_of : Consumer T → List T
  known_pushed_of c = (view c.pass).told

  -- the most items that the queue holds
  abbrev pub capacity_of : Producer T → ℕ
  capacity_of p = ruled_capacity (arc_value p.queue)

  -- the queue's identity
  abbrev pub producer_queue : Producer T → TableId
  producer_queue p = p.pass.table_id

  abbrev pub consumer_queue : Consumer T → TableId
  consumer_queue c = c.pass.table_id

  -- the two ends of one queue
  abbrev pub AreEnds : Producer T → Consumer T → Type 0
  AreEnds p c = producer_queue p ≡ consumer_queue c
