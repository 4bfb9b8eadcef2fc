-- The fates of received frames (this project's own).
use Rattle.std.specs.Prelude.{◌≡◌, ◌≢◌, ℕ, ◌-◌, ◌<◌, ◌≤◌, ◌==◌, if◌then◌else◌, false, true, max, length, Option, Some, None}
use Rattle.mrpc_table.specs.Node.{Node}
use Rattle.mrpc_table.specs.Calls.{message_at}
use Rattle.mrpc_table.specs.declared.table.Table.{Table}
use Rattle.wire_decode.specs.Means.{Means}
use Rattle.wire_decode.specs.Faults.{IsFirstDecodeFault}
use Rattle.wire_decode.specs.declared.fault.DecodeReason.{DecodeReason}
use Rattle.mrpc_table.specs.Capped.{capped}
use Rattle.graph_place.specs.Size.{tree_words}
use Rattle.frame_transport.specs.declared.format.Frame.{Frame}
use Rattle.frame_transport.specs.declared.format.TheConstants.{HELLO}
use Rattle.policy_access.specs.Verdict.{AccessPolicy, verdict}
use Rattle.mrpc_table.specs.declared.call.Call.{Call}
use Rattle.receive_core.specs.declared.arrival.DropCause.{DropCause}
use Rattle.receive_core.specs.declared.arrival.DropCause.TheVariants.{Hello, NoMethod, Decode, Denied, Oversize}

-- The number with which the call of a frame is judged: 0 for a request, and for a reply the number of the
-- request that it answers. A reply to request 0 is judged as one to request 1.
abbrev pub judged_number : Frame → ℕ
judged_number f = if f.kind == 2 then max 1 f.number else 0

-- the message of a frame's payload, by its index in the table
abbrev pub message_of_frame : Table → Frame → ℕ
message_of_frame T f = message_at T f.method (judged_number f)

-- the call that arrived on a connection, as policies see it
abbrev pub received_call : ℕ → Frame → Node → Call
received_call conn f t = record { conn = conn; seq = f.number; method = f.method; number = judged_number f; tree = t }

-- the size of a message's block in words; a message of no words has a block of one
abbrev pub block_words : Table → ℕ → Node → ℕ
block_words T msg t = max 1 (tree_words T msg t)

-- a request or a reply of one of the table's methods
pub record IsCall (T : Table) (f : Frame) : Type 0 where
  pub kind : f.kind ≢ HELLO
  pub method : f.method < length T.methods

-- the policy allows the call, or there is none
abbrev pub IsCallAllowed : Option AccessPolicy → Call → Type 0
IsCallAllowed None call = Unit {0}
IsCallAllowed (Some policy) call = (verdict policy call).allow ≡ true

-- A frame is dropped for a cause, or a message arrives.
pub data Fate : Type 0 where
  drops : DropCause → Fate
  arrives : Node → Fate

-- The fate of a frame on a connection, under a table, a policy, and a heap of `words` words, whose word 0 is
-- reserved. The causes are checked in this order, the policy before the size.
pub data IsFate (T : Table) (policy : Option AccessPolicy) (conn words : ℕ) (f : Frame) (fate : Fate) : Type 0 where
  is_hello : f.kind ≡ HELLO → fate ≡ drops Hello → IsFate T policy conn words f fate
  has_no_method : f.kind ≢ HELLO → length T.methods ≤ f.method → fate ≡ drops NoMethod
      → IsFate T policy conn words f fate
  is_faulty : IsCall T f → (reason : DecodeReason) (place : ℕ)
      → IsFirstDecodeFault T (message_of_frame T f) f.payload reason place
      → fate ≡ drops (Decode reason place) → IsFate T policy conn words f fate
  is_denied : IsCall T f → (t : Node) → Means T (message_of_frame T f) f.payload t
      → (p : AccessPolicy) → policy ≡ Some p → (verdict p (received_call conn f t)).allow ≡ false
      → fate ≡ drops (Denied (verdict p (received_call conn f t)).rule) → IsFate T policy conn words f fate
  is_too_large : IsCall T f → (t : Node) → Means T (message_of_frame T f) f.payload t
      → IsCallAllowed policy (received_call conn f t)
      → words - 1 < block_words T (message_of_frame T f) t
      → fate ≡ drops (Oversize (capped (block_words T (message_of_frame T f) t)) words)
      → IsFate T policy conn words f fate
  arrived : IsCall T f → (t : Node) → Means T (message_of_frame T f) f.payload t
      → IsCallAllowed policy (received_call conn f t)
      → block_words T (message_of_frame T f) t ≤ words - 1
      → fate ≡ arrives t → IsFate T policy conn words f fate

-- each frame has a fate
abbrev pub HasFate : Type 0
HasFate = (T : Table) (policy : Option AccessPolicy) (conn words : ℕ) (f : Frame)
    → (fate : Fate) × IsFate T policy conn words f fate

-- and at most one
abbrev pub HasUniqueFate : Type 0
HasUniqueFate = (T : Table) (policy : Option AccessPolicy) (conn words : ℕ) (f : Frame) (fate other : Fate)
    → IsFate T policy conn words f fate → IsFate T policy conn words f other → fate ≡ other
