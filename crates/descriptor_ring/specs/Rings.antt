-- The ends of rings as contracts see them, and the items of a ring of descriptors.
use Rattle.std.specs.Prelude.{◌≡◌, ℕ, ◌≤◌, ◌++◌, Bool, List, length}
use mathlib.Core.List.{IsPrefix}
use Rattle.atomic_table.specs.Seated.{TableId}
use Rattle.shared_heap.specs.Fresh.{HeapId}
use Rattle.descriptor_ring.specs.declared.descriptor.Descriptor.{Descriptor}

-- the identity of a ring
abbrev pub RingId : Type 0
RingId = TableId

-- a descriptor of a ring for a heap: its note is of that heap, and knows as many stores as the descriptor states
pub record IsDescriptorOf (heap : HeapId) (d : Descriptor) : Type 0 where
  pub kind : (1 ≤ d.kind) × (d.kind ≤ 2)
  pub heap_of : d.note.heap ≡ heap
  pub stores : d.stores ≡ length d.note.stores

-- the sending end of a ring of descriptors
pub record Sending : Type 0 where
  pub ring : RingId
  pub heap : HeapId
  pub capacity : ℕ
  -- the descriptors that were sent, in order
  pub sent : List Descriptor
  -- those that it has observed as taken
  pub told : List Descriptor

-- the receiving end of a ring of descriptors
pub record Receiving : Type 0 where
  pub ring : RingId
  pub heap : HeapId
  -- the descriptors that were taken, in order
  pub taken : List Descriptor
  -- whether the closing sentinel was taken
  pub closed : Bool
  -- the descriptors that it has observed as sent
  pub told : List Descriptor
  -- whether it has observed the closing sentinel after them
  pub observed_closed : Bool

-- the remains of a sender that has closed
pub record AllSent : Type 0 where
  pub ring : RingId
  pub items : List Descriptor

-- the progress of a ring: the items that were sent and taken, as the end that reports it knew them
pub record RingProgress (T : Type 0) : Type 0 where
  pub ring : RingId
  pub sent : List T
  pub taken : List T

-- The items that a ring held at a call of its sender: `count` of them, the last ones that were sent. Those before
-- them had been taken; they include all that the sender has observed as taken.
pub record HasHeldLast {T : Type 0} (sent told : List T) (count : ℕ) : Type 0 where
  pub taken : List T
  pub waiting : List T
  pub in_order : sent ≡ taken ++ waiting
  pub observed : IsPrefix told taken
  pub counted : length waiting ≡ count

-- like `Sending`, for a ring of numbers
pub record NumberSending : Type 0 where
  pub ring : RingId
  pub capacity : ℕ
  pub sent : List ℕ
  pub told : List ℕ

pub record NumberReceiving : Type 0 where
  pub ring : RingId
  pub taken : List ℕ
  pub closed : Bool
  pub told : List ℕ
  pub observed_closed : Bool

pub record AllNumbersSent : Type 0 where
  pub ring : RingId
  pub items : List ℕ
