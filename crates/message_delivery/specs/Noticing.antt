-- The notices of an application, and the blocks that it reclaims (this project's own).
use Rattle.std.specs.Prelude.{◌≡◌, ◌≢◌, ◌⊎◌, ◌<◌, ◌≤◌, ℕ, ◌++◌, List, [], All, length, map, Option, Some, None, option_to_list, IfSome, IsPermutation, ◌∷◌}
use Rattle.std.specs.List.{AllZip}
use Rattle.shared_heap.specs.Fresh.{HeapId}
use Rattle.receive_heap.specs.Layout.{IsWithout}
use Rattle.receive_heap.specs.declared.extents.Block.{Block}
use Rattle.descriptor_ring.specs.Rings.{RingId, Sending, AllSent, NumberSending, AllNumbersSent}
use Rattle.descriptor_ring.specs.declared.descriptor.Descriptor.{Descriptor}
use Rattle.message_delivery.specs.declared.arrivals.PlacedMessage.{PlacedMessage}
use Rattle.message_delivery.specs.declared.notices.Notices.{Notices}
use Rattle.message_delivery.specs.declared.reclaims.Reclaims.{Reclaims}

-- a notice is of a message
pub record IsNoticeOf (message : PlacedMessage) (notice : Descriptor) : Type 0 where
  pub kind : notice.kind ≡ message.kind
  pub method : notice.method ≡ message.method
  pub number : notice.number ≡ message.number
  pub addr : notice.addr ≡ message.addr

-- all that was sent on a ring, while it is open and after it was closed
abbrev pub sent_on : Option Sending → Option AllSent → List Descriptor
sent_on (Some ring) left = ring.sent
sent_on None (Some left) = left.items
sent_on None None = []

abbrev pub numbers_on : Option NumberSending → Option AllNumbersSent → List ℕ
numbers_on (Some ring) left = ring.sent
numbers_on None (Some left) = left.items
numbers_on None None = []

-- the identity of the ring
abbrev pub ring_of : Option Sending → Option AllSent → Option RingId
ring_of (Some ring) left = Some ring.ring
ring_of None (Some left) = Some left.ring
ring_of None None = None

abbrev pub number_ring_of : Option NumberSending → Option AllNumbersSent → Option RingId
number_ring_of (Some ring) left = Some ring.ring
number_ring_of None (Some left) = Some left.ring
number_ring_of None None = None

-- the rings are the same, open or closed
pub record AreSameRings (old new : Notices) : Type 0 where
  pub notices : ring_of new.notices new.noticed ≡ ring_of old.notices old.noticed
  pub numbers : number_ring_of new.blocks new.numbered ≡ number_ring_of old.blocks old.numbered

-- a ring that was open stays open
pub record AreStillOpen (old new : Notices) : Type 0 where
  pub notices : new.notices ≡ None → old.notices ≡ None
  pub numbers : new.blocks ≡ None → old.blocks ≡ None

abbrev pub notices_of : Notices → List Descriptor
notices_of n = sent_on n.notices n.noticed

abbrev pub sent_numbers : Notices → List ℕ
sent_numbers n = numbers_on n.blocks n.numbered

-- a message is a request or a reply
abbrev pub IsRequestOrReply : PlacedMessage → Type 0
IsRequestOrReply d = (1 ≤ d.kind) × (d.kind ≤ 2)

-- The messages that were placed, in order and each once: notices were sent for a prefix of them, and the others
-- are pending. The numbers of their blocks are sent after the notices, and one may be owed. The notices belong
-- to the heap of the messages.
pub record AreNoticesOf (heap : HeapId) (placed : List PlacedMessage) (n : Notices) : Type 0 where
  pub past : List PlacedMessage
  pub all : placed ≡ past ++ n.waiting.items
  pub told : AllZip IsNoticeOf past (notices_of n)
  pub numbers : map (λ (d : PlacedMessage). d.block) past ≡ sent_numbers n ++ option_to_list n.owed
  pub given : n.given ≡ length (sent_numbers n)
  pub messages : All IsRequestOrReply placed
  pub few : length placed < 4294967294
  pub of_heap : IfSome n.notices (λ ring. ring.heap ≡ heap)

-- they are the notices of some messages
abbrev pub AreNotices : HeapId → Notices → Type 0
AreNotices heap n = (placed : List PlacedMessage) × AreNoticesOf heap placed n

-- These numbers were judged, in order, and one more may be postponed.
pub record IsCounting (numbers : List ℕ) (r : Reclaims) : Type 0 where
  pub taken : r.numbers.taken ≡ numbers ++ option_to_list r.kept
  pub count : r.judged ≡ length numbers
  pub closed : r.closed ≡ r.numbers.closed

-- The numbers that were judged are those recorded as not held, and those whose blocks were reclaimed.
pub record IsReclaiming (numbers back : List ℕ) (r : Reclaims) : Type 0 where
  pub counting : IsCounting numbers r
  pub split : IsPermutation numbers (r.not_held.items ++ back)

-- Numbers are judged one by one against the held blocks. Each either removes its block and is one of `back`, or
-- no held block has it and it is one of `refused`.
abbrev pub AreJudged : (numbers back refused : List ℕ) → (old new : List Block) → Type 0
AreJudged [] back refused old new = (back ≡ []) × (refused ≡ []) × (new ≡ old)
AreJudged (number ∷ more) back refused old new =
    ((between : List Block) × (others : List ℕ) × (back ≡ number ∷ others) × IsWithout number old between
    × AreJudged more others refused between new)
    ⊎ ((others : List ℕ) × (refused ≡ number ∷ others) × All (λ (held : Block). held.number ≢ number) old
    × AreJudged more back others old new)

-- held blocks are removed one by one, by their numbers in this order
abbrev pub IsWithoutEach : List ℕ → List Block → List Block → Type 0
IsWithoutEach [] old new = new ≡ old
IsWithoutEach (number ∷ more) old new = (between : List Block) × IsWithout number old between
    × IsWithoutEach more between new
