-- What arrived on a connection, by its receiver and its lines (this project's own).
use Rattle.std.specs.Prelude.{◌≡◌, ◌≢◌, ◌≤◌, ◌⊎◌, List, [], ◌∷◌, ◌++◌, All, length, Option, None, IsSome, ⊤}
use Rattle.std.specs.List.{AllZip, flat_map}
use Rattle.std.specs.Option.{option_copied}
use Rattle.mrpc_table.specs.Node.{Node}
use Rattle.mrpc_table.specs.Valid.{IsValid}
use Rattle.mrpc_table.specs.declared.limits.TheConstants.{MAX_HEAP}
use Rattle.graph_form.specs.declared.placed.Placed.{Placed as PlacedWords}
use Rattle.frame_transport.specs.Frames.{IsPartial}
use Rattle.frame_transport.specs.declared.format.Frame.{Frame}
use Rattle.policy_access.specs.Verdict.{AccessPolicy}
use Rattle.receive_heap.specs.declared.extents.Block.{Block}
use Rattle.receive_core.specs.ReceiverTraces.{Fated, ReceiverTrace, IsTraceOf, stores_of_fate, was_dropped, was_placed}
use Rattle.receive_core.specs.declared.arrival.DropCause.{DropCause}
use Rattle.message_delivery.specs.declared.arrivals.ArrivalLine.{ArrivalLine}
use Rattle.message_delivery.specs.declared.arrivals.ArrivalLine.TheVariants.{Arrived, Dropped}
use Rattle.message_delivery.specs.declared.arrivals.Arrivals.{Arrivals}
use Rattle.message_delivery.specs.declared.arrivals.StreamState.TheVariants.{Cut, Failed, Open}
use Rattle.message_delivery.specs.declared.arrivals.DeliveryOutcome.{DeliveryOutcome}
use Rattle.message_delivery.specs.declared.arrivals.DeliveryOutcome.TheVariants.{Nothing, Delivered, Dropped as Refused}
use Rattle.message_delivery.specs.declared.arrivals.PlacedMessage.{PlacedMessage as Message}
use Rattle.message_delivery.specs.declared.limits.TheConstants.{MAX_ARRIVALS}

-- a line is the fate of a frame
abbrev pub IsFateLine : Fated → ArrivalLine → Type 0
IsFateLine (was_dropped f policy why) (Dropped kind method number cause) =
    (f.kind ≡ kind) × (f.method ≡ method) × (f.number ≡ number) × (cause ≡ why)
IsFateLine (was_placed f policy t block placed) (Arrived kind method number tree) =
    (f.kind ≡ kind) × (f.method ≡ method) × (f.number ≡ number) × (tree ≡ t)
IsFateLine _ _ = ⊥

-- the policy under which a frame was judged
abbrev pub policy_of_fate : Fated → Option AccessPolicy
policy_of_fate (was_dropped f policy why) = policy
policy_of_fate (was_placed f policy t block placed) = policy

-- The arrivals have this trace. Each line is the fate of a frame, in order and once, under the connection's
-- policy. The stores to the heap are those that placed the messages. The stream is `Cut` exactly if it has a
-- frame fault.
pub record IsArrivalTrace (life : ReceiverTrace) (a : Arrivals) : Type 0 where
  pub valid : IsValid a.table.now
  pub lives : IsTraceOf a.table.now life a.inbound
  pub told : AllZip IsFateLine life.fates a.lines.items
  pub judged : All (λ fated. policy_of_fate fated ≡ option_copied a.policy) life.fates
  pub stored : a.writer.stores ≡ flat_map stores_of_fate life.fates
  pub words : a.writer.heap.words ≡ a.inbound.heap.words
  pub most : a.inbound.heap.words ≤ MAX_HEAP
  pub uncut : a.stream ≢ Cut → life.fault ≡ None
  pub cut : a.stream ≡ Cut → IsSome life.fault
  pub first : a.fault ≡ life.fault
  pub few : length a.lines.items ≤ MAX_ARRIVALS

-- the arrivals have some trace
abbrev pub HasTrace : Arrivals → Type 0
HasTrace a = (life : ReceiverTrace) × IsArrivalTrace life a

-- No further frame can be handled: the link failed, `MAX_ARRIVALS` frames were handled, or nothing more is
-- received and no whole frame waits.
abbrev pub IsComplete : Arrivals → Type 0
IsComplete a = (a.stream ≡ Failed) ⊎ ((MAX_ARRIVALS ≤ length a.lines.items)
    ⊎ ((a.stream ≢ Open) × IsPartial a.inbound.fed.bytes))

-- the constant parts of a connection's arrivals
pub record HaveSameIdentity (old new : Arrivals) : Type 0 where
  pub table : new.table.now ≡ old.table.now
  pub policy : new.policy ≡ old.policy
  pub conn : new.inbound.conn ≡ old.inbound.conn
  pub words : new.inbound.heap.words ≡ old.inbound.heap.words
  pub heap : new.writer.heap ≡ old.writer.heap

-- the frames that had their fates in a turn, by its outcome: one message was placed, one frame was dropped, or
-- nothing
abbrev pub AreFatesOf : DeliveryOutcome → List Fated → Type 0
AreFatesOf Nothing more = more ≡ []
AreFatesOf Refused more =
    (f : Frame) × (policy : Option AccessPolicy) × (why : DropCause) × (more ≡ was_dropped f policy why ∷ [])
AreFatesOf (Delivered d) more = (f : Frame) × (policy : Option AccessPolicy) × (t : Node) × (block : Block)
    × (placed : PlacedWords) × (more ≡ was_placed f policy t block placed ∷ []) × (f.kind ≡ d.kind)
    × (f.method ≡ d.method) × (f.number ≡ d.number) × (d.addr ≡ block.at) × (d.block ≡ block.number)

-- the held blocks after a turn: the block of the message that it placed is appended to the others
abbrev pub HasHeld : DeliveryOutcome → List Block → List Block → Type 0
HasHeld Nothing old new = new ≡ old
HasHeld Refused old new = new ≡ old
HasHeld (Delivered d) old new =
    (block : Block) × (block.number ≡ d.block) × (block.at ≡ d.addr) × (new ≡ old ++ block ∷ [])

-- P holds of the message that a turn placed, if it placed one
abbrev pub IfDelivered : DeliveryOutcome → (Message → Type 0) → Type 0
IfDelivered Nothing P = ⊤
IfDelivered Refused P = ⊤
IfDelivered (Delivered d) P = P d
