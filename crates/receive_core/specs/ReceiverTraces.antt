-- The trace of a receiver: what was fed to it, and the fates of the frames.
use Rattle.std.specs.Prelude.{◌≡◌, ℕ, ◌+◌, ◌*◌, ◌-◌, ◌<◌, ◌≤◌, List, [], ◌∷◌, ◌++◌, length, map, All, Option, Some, None}
use Rattle.std.specs.List.{flat_map}
use Rattle.mrpc_table.specs.Node.{Node}
use Rattle.mrpc_table.specs.Normal.{IsNormal}
use Rattle.mrpc_table.specs.declared.table.Table.{Table}
use Rattle.graph_form.specs.declared.placed.Placed.{Placed as PlacedWords}
use Rattle.graph_place.specs.Stored.{IsPlacedIn}
use Rattle.frame_transport.specs.Feed.{total_fed}
use Rattle.frame_transport.specs.Frames.{IsSplitOf, HasHeaderFault, IsPartial, concat_frames}
use Rattle.frame_transport.specs.declared.format.Frame.{Frame}
use Rattle.frame_transport.specs.declared.format.TheConstants.{HEADER_LEN, MAX_PAYLOAD}
use Rattle.frame_transport.specs.declared.fault.FeedFault.{FeedFault}
use Rattle.policy_access.specs.Verdict.{AccessPolicy}
use Rattle.receive_heap.specs.Layout.{IsPartitioned}
use Rattle.receive_heap.specs.declared.extents.Block.{Block}
use Rattle.receive_core.specs.Fates.{drops, arrives, IsFate, message_of_frame}
use Rattle.receive_core.specs.Order.{HasTaken}
use Rattle.receive_core.specs.Turns.{ReceiverState, IsReady}
use Rattle.receive_core.specs.declared.arrival.Arrival.{Arrival}
use Rattle.receive_core.specs.declared.arrival.Arrival.TheVariants.{None as NoFrame, Arrived, Dropped, Waiting}
use Rattle.receive_core.specs.declared.arrival.DropCause.{DropCause}

-- A frame with its fate and the policy under which it was judged. It was dropped for a cause, or its message was
-- placed in a block of the heap.
pub data Fated : Type 0 where
  was_dropped : Frame → Option AccessPolicy → DropCause → Fated
  was_placed : Frame → Option AccessPolicy → Node → Block → PlacedWords → Fated

abbrev pub frame_of_fate : Fated → Frame
frame_of_fate (was_dropped f policy why) = f
frame_of_fate (was_placed f policy t block placed) = f

-- the words that were stored for it
abbrev pub stores_of_fate : Fated → List (ℕ × ℕ)
stores_of_fate (was_dropped f policy why) = []
stores_of_fate (was_placed f policy t block placed) = placed.words

-- a frame arrived, and its message is in its block
pub record HasArrived (T : Table) (policy : Option AccessPolicy) (conn words : ℕ) (f : Frame) (t : Node)
    (block : Block) (placed : PlacedWords) : Type 0 where
  pub fate : IsFate T policy conn words f (arrives t)
  pub normal : IsNormal T (message_of_frame T f) t
  pub stands : IsPlacedIn T words (message_of_frame T f) t block.at block.words placed
  pub inside : block.words ≤ words - 1

-- the frame has this fate on a connection and a heap of `words` words
abbrev pub HasItsFate : Table → ℕ → ℕ → Fated → Type 0
HasItsFate T conn words (was_dropped f policy why) = IsFate T policy conn words f (drops why)
HasItsFate T conn words (was_placed f policy t block placed) = HasArrived T policy conn words f t block placed

-- a stream from an offset on has these whole frames, and after them this first fault, or none so far
pub record HasFrames (place : ℕ) (stream : List ℕ) (frames : List Frame) (fault : Option FeedFault) : Type 0 where
  pub rest : List ℕ
  pub splits : IsSplitOf place stream frames rest
  pub first : HasHeaderFault (place + length (concat_frames frames)) rest fault

-- the trace of a receiver
pub record ReceiverTrace : Type 0 where
  -- the bytes that were fed, and their first fault, or none so far
  pub stream : List ℕ
  pub fault : Option FeedFault
  -- the hello before all other frames, if it was taken as such
  pub hello : Option Frame
  -- the frames after it that had their fates, in order
  pub fates : List Fated

abbrev pub hello_in : Option Frame → List Frame
hello_in None = []
hello_in (Some f) = f ∷ []

-- the frames that were taken from the stream, in order
abbrev pub taken_frames : ReceiverTrace → List Frame
taken_frames life = hello_in life.hello ++ map frame_of_fate life.fates

-- The receiver has this trace. The taken frames, followed by those that wait, are the whole frames of its
-- stream, in order and each once. The bytes after the taken frames are kept, up to the first fault or further.
-- Each frame after the hello has its fate. Held blocks and holes partition the places of the heap from 1 on, and
-- at most one block was allocated for each fate.
pub record IsTraceOf (T : Table) (life : ReceiverTrace) (r : ReceiverState) : Type 0 where
  pub waiting : List Frame
  pub all : HasFrames 0 life.stream (taken_frames life ++ waiting) life.fault
  pub kept : HasFrames r.fed.place r.fed.bytes waiting life.fault
  pub taken : HasTaken life.stream (taken_frames life) r.fed
  pub counted : total_fed r.fed ≡ length life.stream
  pub bytes : All (λ byte. byte < 256) life.stream
  pub ready : IsReady T r
  pub fates : All (HasItsFate T r.conn r.heap.words) life.fates
  pub sound : IsPartitioned r.heap
  pub blocks : r.heap.next ≤ length life.fates + 1

-- the trace before anything arrived
abbrev pub empty_trace : ReceiverTrace
empty_trace = record { stream = []; fault = None; hello = None; fates = [] }

-- a piece was fed, and this is the first fault of the stream, or none so far
abbrev pub after_piece : ReceiverTrace → List ℕ → Option FeedFault → ReceiverTrace
after_piece life piece fault = record {
  stream = life.stream ++ piece;
  fault = fault;
  hello = life.hello;
  fates = life.fates;
}

-- the first frame of all was taken as the hello
abbrev pub after_hello : ReceiverTrace → Frame → ReceiverTrace
after_hello life f = record { stream = life.stream; fault = life.fault; hello = Some f; fates = life.fates }

-- more frames had their fates
abbrev pub after_fates : ReceiverTrace → List Fated → ReceiverTrace
after_fates life more =
    record { stream = life.stream; fault = life.fault; hello = life.hello; fates = life.fates ++ more }

-- the result of a turn has the kind, method and number of this frame
abbrev pub HasHeaderFields : Frame → ℕ → ℕ → ℕ → Type 0
HasHeaderFields f kind method number = (f.kind ≡ kind) × (f.method ≡ method) × (f.number ≡ number)

-- the frames that had their fates in a turn under a policy: the one of its result, or none
abbrev pub IsAnswerFor : Option AccessPolicy → Arrival → List Fated → Type 0
IsAnswerFor policy NoFrame more = more ≡ []
IsAnswerFor policy (Waiting need largest) more = more ≡ []
IsAnswerFor policy (Dropped kind method number why) more = (f : Frame) × HasHeaderFields f kind method number
    × (more ≡ was_dropped f policy why ∷ [])
IsAnswerFor policy (Arrived kind method number block tree) more = (f : Frame) × HasHeaderFields f kind method number
    × (placed : PlacedWords) × (more ≡ was_placed f policy tree block placed ∷ [])

-- if no whole frame waits, each whole frame of the stream was taken
abbrev pub IsEachFrameTaken : Type 0
IsEachFrameTaken = (T : Table) (life : ReceiverTrace) (r : ReceiverState) → IsTraceOf T life r → IsPartial r.fed.bytes
    → HasFrames 0 life.stream (taken_frames life) life.fault

-- and without a fault so far, the stream is shorter than a hello, the frames with fates and one more, each of
-- the maximum size
abbrev pub IsStreamShort : Type 0
IsStreamShort = (T : Table) (life : ReceiverTrace) (r : ReceiverState) → IsTraceOf T life r → IsPartial r.fed.bytes
    → life.fault ≡ None → length life.stream < (length life.fates + 2) * (HEADER_LEN + MAX_PAYLOAD)

-- For each fate, at most the words of the heap without word 0 were stored.
abbrev pub AreStoresBounded : Type 0
AreStoresBounded = (T : Table) (life : ReceiverTrace) (r : ReceiverState) → IsTraceOf T life r
    → length (flat_map stores_of_fate life.fates) ≤ length life.fates * (r.heap.words - 1)
