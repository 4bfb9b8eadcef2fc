-- What an echo copies, stores and replies.
use Rattle.std.specs.Prelude.{◌≡◌, ℕ, ◌+◌, ◌-◌, ◌*◌, ◌/◌, ◌%◌, ◌≤◌, ◌<◌, List, [], ◌∷◌, ◌++◌, length, map, flat_map, true, false, nat_lt, ◌&&◌, Bool}
use Rattle.mrpc_table.specs.Calls.{message_of}
use Rattle.mrpc_table.specs.Node.{Node}
use Rattle.mrpc_table.specs.declared.call.CallKind.TheVariants.{Request, Reply}
use Rattle.mrpc_table.specs.declared.limits.TheConstants.{MAX_LOADS}
use Rattle.mrpc_table.specs.declared.table.Table.{Table}
use Rattle.graph_form.specs.Malformed.{GraphOutcome, copied, HasOutcome}
use Rattle.graph_form.specs.declared.placed.Placed.{Placed}
use Rattle.graph_place.specs.Size.{tree_words}
use Rattle.graph_place.specs.Stored.{IsPlacedIn}
use Rattle.shared_heap.specs.Fresh.{CallLoads, AreFresh, Reading, word_of_load}
use Rattle.descriptor_ring.specs.declared.descriptor.Descriptor.{Descriptor}
use Rattle.app_program.specs.Programs.{Submission}
use Rattle.app_stub.specs.Serving.{is_request, reply_to}

-- ---- slices

-- the size of each slice in words; there are two slices more than the ring holds calls
abbrev pub slice_words : (heap ring : ℕ) → ℕ
slice_words heap ring = (heap - 2) / (ring + 2)

-- the first place of a reply's slice, given the number of replies before it; slices are used in turn
abbrev pub slice_at : (heap ring replies : ℕ) → ℕ
slice_at heap ring replies = 2 + (replies % (ring + 2)) * slice_words heap ring

-- a place of the slice of a reply
pub record IsInSlice (heap ring replies place : ℕ) : Type 0 where
  pub from : slice_at heap ring replies ≤ place
  pub below : place < slice_at heap ring replies + slice_words heap ring

-- ---- one notice

-- an echo: the table, the words of its own heap and of its receive heap, and the capacity of its ring
pub record Echo : Type 0 where
  pub table : Table
  pub heap : ℕ
  pub receive : ℕ
  pub ring : ℕ

-- a copy of a request: its loads, with the number of stores before them, and its outcome
pub record RequestCopy : Type 0 where
  pub loads : CallLoads
  pub outcome : GraphOutcome

-- whether a notice is of a request of a method that the table has: each of these is copied
abbrev pub is_copied : Table → Descriptor → Bool
is_copied T d = is_request d && nat_lt d.method (length T.methods)

-- the copy of a request is that of the graph at its address
pub record IsCopyOf (e : Echo) (d : Descriptor) (copy : RequestCopy) : Type 0 where
  pub comes : HasOutcome e.table e.receive (message_of e.table d.method Request) d.addr MAX_LOADS copy.loads.loads
      copy.outcome
  pub after : copy.loads.after ≡ d.stores

-- a request whose copy is this tree has a reply: its number isn't 0, the method's input is its output, and the
-- tree fits into a slice
pub record HasReply (e : Echo) (method number : ℕ) (tree : Node) : Type 0 where
  pub numbered : 1 ≤ number
  pub types : message_of e.table method Request ≡ message_of e.table method Reply
  pub fits : tree_words e.table (message_of e.table method Reply) tree ≤ slice_words e.heap e.ring

-- a request has a reply, since its copy is this tree
pub record IsReplied (e : Echo) (d : Descriptor) (copy : RequestCopy) (tree : Node) : Type 0 where
  pub comes_to : copy.outcome ≡ copied tree
  pub has : HasReply e d.method d.number tree

-- what an echo did: its copies, its stores, and its replies, in order
pub record EchoTrace : Type 0 where
  pub copies : List RequestCopy
  pub stores : List (ℕ × ℕ)
  pub calls : List Submission

-- what an echo does for a notice, after what it did before
pub data IsEchoOf (e : Echo) (d : Descriptor) (old new : EchoTrace) : Type 0 where
  -- a notice of a reply, or of a method that the table lacks: nothing
  nothing : is_copied e.table d ≡ false → new ≡ old → IsEchoOf e d old new
  -- a copy, and no reply
  only_copy : (copy : RequestCopy)
      → is_copied e.table d ≡ true → IsCopyOf e d copy → ((tree : Node) → IsReplied e d copy tree → ⊥)
      → new ≡ record { copies = old.copies ++ copy ∷ []; stores = old.stores; calls = old.calls }
      → IsEchoOf e d old new
  -- a copy, whose tree is placed in the next slice, and a reply after these stores
  replies : (copy : RequestCopy) (tree : Node) (placed : Placed)
      → is_copied e.table d ≡ true → IsCopyOf e d copy → IsReplied e d copy tree
      → IsPlacedIn e.table e.heap (message_of e.table d.method Reply) tree (slice_at e.heap e.ring (length old.calls))
      (tree_words e.table (message_of e.table d.method Reply) tree) placed
      → new ≡ record {
        copies = old.copies ++ copy ∷ [];
        stores = old.stores ++ placed.words;
        calls = old.calls ++ reply_to (length old.stores + length placed.words)
            (slice_at e.heap e.ring (length old.calls)) d ∷ [];
      }
      → IsEchoOf e d old new

-- what an echo did for some notices, in order
abbrev pub AllEchoes : Echo → List Descriptor → EchoTrace → EchoTrace → Type 0
AllEchoes e [] old new = new ≡ old
AllEchoes e (d ∷ notices) old new = (next : EchoTrace) × IsEchoOf e d old next × AllEchoes e notices next new

abbrev pub empty_echo_trace : EchoTrace
empty_echo_trace = record { copies = []; stores = []; calls = [] }

-- an echo that took these notices made these stores and these replies. Its reader made the loads of its copies
-- and no others, and they are fresh for what the reader knows.
pub record HasEchoed (e : Echo) (notices : List Descriptor) (stores : List (ℕ × ℕ)) (calls : List Submission)
    (reader : Reading) : Type 0 where
  pub done : EchoTrace
  pub steps : AllEchoes e notices empty_echo_trace done
  pub stored : stores ≡ done.stores
  pub replied : calls ≡ done.calls
  pub fresh : AreFresh (map (λ copy. copy.loads) done.copies) reader.known
  pub loaded : map word_of_load reader.loads ≡ flat_map (λ copy. copy.loads.loads) done.copies
