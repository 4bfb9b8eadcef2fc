-- What one connection's application was delivered, and gave back (this project's own).
use Rattle.std.specs.Prelude.{◌≡◌, ◌≢◌, ◌≤◌, ◌<◌, ◌^◌, ◌⊎◌, ℕ, List, [], ◌∷◌, ◌++◌, map, length, Option, None, IsPermutation}
use Rattle.std.specs.List.{flat_map}
use Rattle.std.specs.Io.KnownBytes.{Appends}
use Rattle.receive_core.specs.ReceiverTraces.{Fated, ReceiverTrace, was_dropped, was_placed}
use Rattle.receive_heap.specs.declared.extents.Block.{Block}
use Rattle.message_delivery.specs.Arriving.{IsComplete, IsArrivalTrace}
use Rattle.message_delivery.specs.Arriving.{HaveSameIdentity as AreSameArrivals}
use Rattle.message_delivery.specs.Noticing.{AreSameRings, IsReclaiming, AreNoticesOf}
use Rattle.message_delivery.specs.declared.arrivals.Arrivals.{Arrivals}
use Rattle.message_delivery.specs.declared.arrivals.PlacedMessage.{PlacedMessage}
use Rattle.message_delivery.specs.declared.arrivals.StreamState.TheVariants.{Open}
use Rattle.message_delivery.specs.declared.limits.TheConstants.{MAX_ARRIVALS}
use Rattle.message_delivery.specs.declared.notices.Notices.{Notices}
use Rattle.service_loop.specs.declared.delivering.Deliveries.{Deliveries}

-- the message of a frame that was placed, as its notice has it
abbrev pub placed_message_of : Fated → List PlacedMessage
placed_message_of (was_dropped f policy why) = []
placed_message_of (was_placed f policy t block placed) =
    record { kind = f.kind; method = f.method; number = f.number; addr = block.at; block = block.number } ∷ []

abbrev pub placed_messages_of : List Fated → List PlacedMessage
placed_messages_of fates = flat_map placed_message_of fates

-- the numbers of blocks
abbrev pub held_numbers : List Block → List ℕ
held_numbers blocks = map (λ (b : Block). b.number) blocks

-- the numbers of the blocks of messages
abbrev pub message_blocks : List PlacedMessage → List ℕ
message_blocks messages = map (λ (d : PlacedMessage). d.block) messages

-- nothing more is received: the stream ended, is malformed or failed, or `MAX_ARRIVALS` frames were handled
abbrev pub IsCountedAsEnded : Arrivals → Type 0
IsCountedAsEnded a = (a.stream ≢ Open) ⊎ (MAX_ARRIVALS ≤ length a.lines.items)

-- a ring of notices was closed
abbrev pub IsClosing : Notices → Type 0
IsClosing n = (n.notices ≡ None) ⊎ (n.blocks ≡ None)

-- each message was sent as a notice, with its number, and nothing more follows
pub record HaveEnded (d : Deliveries) : Type 0 where
  pub all : IsComplete d.arrivals
  pub waiting : d.notices.waiting.items ≡ []
  pub owed : d.notices.owed ≡ None

-- The deliveries so far. The lines are the fates of frames, in order. Each placed message was sent as a notice, or
-- its notice is pending. Each of their blocks is held or came back, among the numbers that were judged. The rings of
-- notices are closed only once all notices were sent and nothing more follows.
pub record HaveDelivered (life : ReceiverTrace) (numbers back : List ℕ) (d : Deliveries) : Type 0 where
  pub lived : IsArrivalTrace life d.arrivals
  pub told : AreNoticesOf d.arrivals.writer.heap (placed_messages_of life.fates) d.notices
  pub returned : IsReclaiming numbers back d.reclaims
  pub held : IsPermutation (message_blocks (placed_messages_of life.fates))
      (held_numbers d.arrivals.inbound.heap.held ++ back)
  pub programmed : d.reclaims.programmed < 2 ^ 63
  pub closed : IsClosing d.notices → HaveEnded d

-- deliveries with some such trace
abbrev pub AreDelivering : Deliveries → Type 0
AreDelivering d = (life : ReceiverTrace) × (numbers : List ℕ) × (back : List ℕ) × HaveDelivered life numbers back d

-- what all deliveries preserve
pub record AreSameDeliveries (old new : Deliveries) : Type 0 where
  pub arrivals : AreSameArrivals old.arrivals new.arrivals
  pub notices : AreSameRings old.notices new.notices
  pub numbers : new.reclaims.numbers.ring ≡ old.reclaims.numbers.ring
  pub programmed : new.reclaims.programmed ≡ old.reclaims.programmed

-- a later trace: a piece of the stream arrived, and more frames were handled
pub record IsLaterTrace (piece : List ℕ) (life later : ReceiverTrace) : Type 0 where
  pub more : List Fated
  pub stream : later.stream ≡ life.stream ++ piece
  pub hello : later.hello ≡ life.hello
  pub fates : later.fates ≡ life.fates ++ more

-- later deliveries, given the bytes received before and after: what arrived is what the link gave
pub record HaveAdvanced (life : ReceiverTrace) (numbers back : List ℕ) (given given' : Option (List ℕ))
    (new : Deliveries)
    : Type 0 where
  pub piece : List ℕ
  pub later : ReceiverTrace
  pub more : List ℕ
  pub gained : List ℕ
  pub came : Appends given given' piece
  pub lives : IsLaterTrace piece life later
  pub delivered : HaveDelivered later (numbers ++ more) (back ++ gained) new

abbrev pub HasDeliveredMore : Option (List ℕ) → Option (List ℕ) → Deliveries → Deliveries → Type 0
HasDeliveredMore given given' old new = (life : ReceiverTrace) (numbers back : List ℕ)
    → HaveDelivered life numbers back old
    → HaveAdvanced life numbers back given given' new
