-- The code's own: the state of an echo between two notices, and what a notice makes of its parts.
use Rattle.std.specs.Prelude.{◌≡◌, ℕ, ◌*◌, ◌≤◌, List, [], ◌∷◌, ◌++◌, length, map, Option, None, true, false, MatchOption}
use Rattle.mrpc_table.specs.Calls.{message_of}
use Rattle.mrpc_table.specs.Node.{Node}
use Rattle.mrpc_table.specs.declared.call.CallKind.TheVariants.{Reply}
use Rattle.mrpc_table.specs.declared.limits.TheConstants.{MAX_HEAP, MIN_HEAP}
use Rattle.mrpc_table.specs.declared.table.Table.{Table}
use Rattle.graph_form.specs.declared.placed.Placed.{Placed}
use Rattle.graph_place.specs.Size.{tree_words}
use Rattle.graph_place.specs.Stored.{IsPlacedIn}
use Rattle.shared_heap.specs.Fresh.{CallLoads, AreFresh, Reading, word_of_load}
use Rattle.descriptor_ring.specs.Rings.{Sending}
use Rattle.descriptor_ring.specs.declared.descriptor.Descriptor.{Descriptor}
use Rattle.descriptor_ring.specs.declared.limits.TheConstants.{MAX_CAPACITY}
use Rattle.app_stub.specs.declared.receivers.AppReceivers.{AppReceivers}
use Rattle.app_stub.specs.declared.echoes.EchoState.{EchoState}
use Rattle.app_stub.specs.declared.senders.AppSenders.{AppSenders}
use Rattle.app_stub.specs.Echoing.{Echo, RequestCopy, IsCopyOf, IsReplied, is_copied, slice_at}
use Rattle.app_program.specs.Programs.{Submission}

abbrev pub echo_of : Table → EchoState → Echo
echo_of T desk = record { table = T; heap = desk.writer.heap.words; receive = desk.reader.heap.words; ring = desk.ring }

-- a desk, together with the sender of its replies
pub record IsEchoState (desk : EchoState) (sender : Sending) : Type 0 where
  pub heap_of : sender.heap ≡ desk.writer.heap
  pub least_heap : MIN_HEAP ≤ desk.writer.heap.words
  pub greatest_heap : desk.writer.heap.words ≤ MAX_HEAP
  pub least_receive : MIN_HEAP ≤ desk.reader.heap.words
  pub greatest_receive : desk.reader.heap.words ≤ MAX_HEAP
  pub few_slices : desk.ring ≤ MAX_CAPACITY
  pub counted : desk.replies ≡ length sender.sent
  pub few : length desk.writer.stores ≤ 65536 * desk.replies

-- a desk before the first notice
pub record IsNewEchoState (desk : EchoState) (delivery : AppReceivers) (outgoing : AppSenders) : Type 0 where
  pub desk_is : IsEchoState desk outgoing.sender
  pub notices_heap : delivery.notices.heap ≡ desk.reader.heap
  pub stored : desk.writer.stores ≡ []
  pub loaded : desk.reader.loads ≡ []
  pub sent : outgoing.sender.sent ≡ []
  pub reclaimed : outgoing.reclaims.sent ≡ []
  pub taken : delivery.notices.taken ≡ []
  pub numbers : delivery.blocks.taken ≡ []

-- the copy of a notice's request: the tree of the reply, if there is one
pub data IsCopyOutcome (e : Echo) (d : Descriptor) (old new : Reading) (tree : Option Node) : Type 0 where
  left : is_copied e.table d ≡ false → tree ≡ None → map word_of_load new.loads ≡ map word_of_load old.loads
      → ((calls : List CallLoads) → AreFresh calls old.known → AreFresh calls new.known)
      → IsCopyOutcome e d old new tree
  made : (copy : RequestCopy)
      → is_copied e.table d ≡ true → IsCopyOf e d copy
      → MatchOption tree ((t : Node) → IsReplied e d copy t → ⊥) (IsReplied e d copy)
      → map word_of_load new.loads ≡ map word_of_load old.loads ++ copy.loads.loads
      → ((calls : List CallLoads) → AreFresh calls old.known → AreFresh (calls ++ copy.loads ∷ []) new.known)
      → IsCopyOutcome e d old new tree

-- the tree was placed in the next slice, and a reply was sent after these stores
pub record IsReplyPlaced (e : Echo) (method number : ℕ) (tree : Node) (old new : List (ℕ × ℕ) × List Submission)
    : Type 0 where
  pub placed : Placed
  pub stands : IsPlacedIn e.table e.heap (message_of e.table method Reply) tree (slice_at e.heap e.ring (length old.1))
      (tree_words e.table (message_of e.table method Reply) tree) placed
  pub stores : new.0 ≡ old.0 ++ placed.words
  pub calls : new.1 ≡ old.1 ++ record {
    method = method;
    number = number;
    addr = slice_at e.heap e.ring (length old.1);
    after = length new.0;
  } ∷ []
