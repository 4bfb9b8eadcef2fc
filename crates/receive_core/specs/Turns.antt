-- The state of a connection's receiver, and what a turn does to it.
use Rattle.std.specs.Prelude.{◌≡◌, ℕ, ◌+◌, ◌<◌, List, [], ◌∷◌, ◌++◌, All, Option, IfSome}
use Rattle.mrpc_table.specs.Node.{Node}
use Rattle.mrpc_table.specs.Normal.{IsNormal}
use Rattle.mrpc_table.specs.declared.table.Table.{Table}
use Rattle.graph_form.specs.declared.placed.Placed.{Placed as PlacedWords}
use Rattle.graph_place.specs.Stored.{IsPlacedIn}
use Rattle.receive_core.specs.Decoding.{IsDecodedCall}
use Rattle.frame_transport.specs.Feed.{FeedState, IsNextFrame}
use Rattle.frame_transport.specs.Frames.{IsFrame, IsPartial, IsSplitOf, bytes_of_frame}
use Rattle.frame_transport.specs.declared.format.Frame.{Frame}
use Rattle.policy_access.specs.Verdict.{AccessPolicy}
use Rattle.receive_heap.specs.Layout.{Layout, IsFirstFit, IsLargest}
use Rattle.receive_heap.specs.declared.extents.Block.{Block}
use Rattle.receive_core.specs.Fates.{drops, arrives, IsFate, message_of_frame, block_words}
use Rattle.receive_core.specs.declared.arrival.Arrival.{Arrival}
use Rattle.receive_core.specs.declared.arrival.Arrival.TheVariants.{None as NoFrame, Arrived, Dropped, Waiting}
use Rattle.receive_core.specs.declared.arrival.DropCause.{DropCause}
use Rattle.receive_core.specs.declared.decoded.DecodedCall.{DecodedCall}

-- A receiver: its connection, the fed bytes that are in no taken frame, and the held blocks and holes of its heap. It
-- also has the call of the first frame if that was decoded already.
pub record ReceiverState : Type 0 where
  pub conn : ℕ
  pub fed : FeedState
  pub heap : Layout
  pub opened : Option DecodedCall

-- the first whole frame of the fed bytes
pub record IsFirstFrame (fed : FeedState) (f : Frame) : Type 0 where
  pub rest : List ℕ
  pub frame : IsFrame f
  pub bytes : fed.bytes ≡ bytes_of_frame f ++ rest
  pub place : f.place ≡ fed.place

-- the fed bytes are whole frames and a remainder
abbrev pub IsSplit : FeedState → Type 0
IsSplit fed = (frames : List Frame) × (rest : List ℕ) × IsSplitOf fed.place fed.bytes frames rest

-- the call that was decoded already is that of the first frame, under this table
abbrev pub IsReady : Table → ReceiverState → Type 0
IsReady T r = IfSome r.opened (λ o. (f : Frame) × IsFirstFrame r.fed f × IsDecodedCall T r.conn f o)

-- The first frame is dropped for the cause of its fate.
pub record IsFirstDropped (T : Table) (policy : Option AccessPolicy) (old new : ReceiverState) (kind method number : ℕ)
    (why : DropCause) : Type 0 where
  pub frame : Frame
  pub taken : IsNextFrame old.fed frame new.fed
  pub says : (frame.kind ≡ kind) × (frame.method ≡ method) × (frame.number ≡ number)
  pub fate : IsFate T policy old.conn old.heap.words frame (drops why)
  pub heap : new.heap ≡ old.heap

-- The first frame waits: its fate is to arrive, but no hole has the words of its block, so it stays first.
pub record IsFirstWaiting (T : Table) (policy : Option AccessPolicy) (old new : ReceiverState) (need largest : ℕ)
    : Type 0 where
  pub frame : Frame
  pub first : IsFirstFrame old.fed frame
  pub tree : Node
  pub fate : IsFate T policy old.conn old.heap.words frame (arrives tree)
  pub words : need ≡ block_words T (message_of_frame T frame) tree
  pub no_hole : All (λ hole. hole.words < need) old.heap.holes
  pub hole : IsLargest old.heap.holes largest
  pub stays : new.fed ≡ old.fed
  pub heap : new.heap ≡ old.heap

-- A message was placed: its block is the start of the first hole that fits, the message is in it, and its words
-- were stored.
pub record IsMessagePlaced (T : Table) (msg : ℕ) (tree : Node) (old new : Layout) (stores after : List (ℕ × ℕ))
    (block : Block) : Type 0 where
  pub words : block.words ≡ block_words T msg tree
  pub number : block.number ≡ old.next
  pub front : IsFirstFit old.holes block.words block.at
  pub held : new.held ≡ old.held ++ block ∷ []
  pub next : new.next ≡ old.next + 1
  pub size : new.words ≡ old.words
  pub placed : PlacedWords
  pub stands : IsPlacedIn T old.words msg tree block.at block.words placed
  pub stored : after ≡ stores ++ placed.words

-- The first frame arrives, and its message was placed.
pub record IsFirstPlaced (T : Table) (policy : Option AccessPolicy) (old new : ReceiverState) (stores after : List (ℕ
    × ℕ))
    (kind method number : ℕ) (block : Block) (tree : Node) : Type 0 where
  pub frame : Frame
  pub taken : IsNextFrame old.fed frame new.fed
  pub says : (frame.kind ≡ kind) × (frame.method ≡ method) × (frame.number ≡ number)
  pub fate : IsFate T policy old.conn old.heap.words frame (arrives tree)
  pub normal : IsNormal T (message_of_frame T frame) tree
  pub placed : IsMessagePlaced T (message_of_frame T frame) tree old.heap new.heap stores after block

-- the result of a turn, and what it does to the receiver and to the stores of its heap
abbrev pub IsTurnOf : Table → Option AccessPolicy → ReceiverState → ReceiverState → List (ℕ × ℕ) → List (ℕ × ℕ)
    → Arrival → Type 0
IsTurnOf T policy old new stores after NoFrame = IsPartial old.fed.bytes × (new ≡ old) × (after ≡ stores)
IsTurnOf T policy old new stores after (Dropped kind method number why) =
    IsFirstDropped T policy old new kind method number why × (after ≡ stores)
IsTurnOf T policy old new stores after (Waiting need largest) = IsFirstWaiting T policy old new need largest
    × (after ≡ stores)
IsTurnOf T policy old new stores after (Arrived kind method number block tree) =
    IsFirstPlaced T policy old new stores after kind method number block tree

-- the code's own: the call of the first frame was placed
abbrev pub IsCallPlaced : Table → ReceiverState → ReceiverState → Frame → DecodedCall → List (ℕ × ℕ) → List (ℕ × ℕ)
    → Arrival → Type 0
IsCallPlaced T old new f o stores after (Arrived kind method number block tree) = IsNextFrame old.fed f new.fed
    × ((f.kind ≡ kind) × (f.method ≡ method) × (f.number ≡ number)) × (tree ≡ o.call.tree)
    × IsMessagePlaced T (message_of_frame T f) tree old.heap new.heap stores after block
IsCallPlaced T old new f o stores after _ = ⊥

-- nothing has changed, except perhaps the decoded call of the first frame
pub record HasStayed (old new : ReceiverState) : Type 0 where
  pub conn : new.conn ≡ old.conn
  pub fed : new.fed ≡ old.fed
  pub heap : new.heap ≡ old.heap
