-- A link whose frames a writer forwards, and the same link after it was closed.
use Rattle.std.specs.Prelude.{ℕ, Bool, List}
use Rattle.atomic_table.specs.Seated.{TableId}
use Rattle.link_queue.specs.declared.orders.Health.{Health}

pub record QueueLinkState : Type 0 where
  -- the frames that were pushed into the queue, in order, and whether the sending side was shut down
  pub handed : List (List ℕ)
  pub finished : Bool
  -- the delivered bytes, and whether a receive returned the end of the stream
  pub given : List ℕ
  pub ended : Bool
  -- the bytes that it knows the writer returned
  pub told : List ℕ
  -- what it knows of the inner link
  pub health : Health
  -- the most frames in the queue
  pub most : ℕ
  -- how many sends and receives failed; saturates at 2^64 - 1
  pub failures : ℕ
  -- the queue to the writer, and the queue back
  pub forward : TableId
  pub backward : TableId

pub record ClosedLinkState : Type 0 where
  -- the frames that were pushed, the delivered bytes, and whether a receive returned the end of the stream
  pub handed : List (List ℕ)
  pub given : List ℕ
  pub ended : Bool
  -- whether it knew that the inner link failed
  pub failed : Bool
  pub forward : TableId
  pub backward : TableId
