-- The code's own: the results of the readers of one payload.
use Rattle.std.specs.Prelude.{◌≡◌, ℕ, suc, ◌⊎◌, List}
use Rattle.mrpc_table.specs.Node.{Node, Content, one, many, node}
use Rattle.mrpc_table.specs.Normal.{fields_of}
use Rattle.mrpc_table.specs.declared.table.Kind.{Kind}
use Rattle.mrpc_table.specs.declared.table.Table.{Table}
use Rattle.wire_decode.specs.Words.{AreElements}
use Rattle.wire_decode.specs.RawMessages.{IsRawMessage, numbers}
use Rattle.wire_decode.specs.Known.{HasRoom, entry_fields}
use Rattle.wire_decode.specs.FaultWalk.{IsFaultReached}
use Rattle.wire_decode.specs.declared.fault.DecodeReason.{DecodeReason}
use Rattle.wire_decode.specs.declared.fault.DecodeReason.TheVariants.{Depth}

-- the bytes from an offset on are a packed payload
pub record IsPackedPayload (k : Kind) (bytes : List ℕ) (at : ℕ) (c : Content) : Type 0 where
  pub words : List ℕ
  pub whole : AreElements k bytes at words
  pub content : c ≡ many (numbers words)

-- the bytes from an offset on are no packed payload
abbrev pub HasNoPackedPayload : Kind → List ℕ → ℕ → Type 0
HasNoPackedPayload k bytes at = (ws : List ℕ) → AreElements k bytes at ws → ⊥

-- one of the wire types of numbers
abbrev pub IsFixedOrVarint : ℕ → Type 0
IsFixedOrVarint w = (w ≡ 0) ⊎ (w ≡ 1) ⊎ (w ≡ 5)

-- the bytes from an offset on are an entry
pub record IsEntry (T : Table) (room : ℕ) (key k : Kind) (bytes : List ℕ) (at : ℕ) (c : Content) : Type 0 where
  pub raw : Node
  pub reads : IsRawMessage T room (entry_fields key k) bytes at raw
  pub has_room : HasRoom room k
  pub content : c ≡ one (node raw)

-- the first fault of an entry
pub data IsEntryFault (T : Table) (room : ℕ) (key k : Kind) (bytes : List ℕ) (at : ℕ) (reason : DecodeReason)
    (place : ℕ) : Type 0 where
  entry_fault : IsFaultReached T room (entry_fields key k) bytes at reason place → IsEntryFault T room key k bytes at reason place
  entry_room : (t : Node) → IsRawMessage T room (entry_fields key k) bytes at t → (HasRoom room k → ⊥) → reason ≡ Depth
      → place ≡ at → IsEntryFault T room key k bytes at reason place

-- the bytes from an offset on are a nested message
pub record IsInner (T : Table) (room i : ℕ) (bytes : List ℕ) (at : ℕ) (c : Content) : Type 0 where
  pub inside : ℕ
  pub raw : Node
  pub has_room : room ≡ suc inside
  pub reads : IsRawMessage T inside (fields_of T i) bytes at raw
  pub content : c ≡ one (node raw)

-- the first fault of a nested message
pub data IsInnerFault (T : Table) (room i : ℕ) (bytes : List ℕ) (at : ℕ) (reason : DecodeReason) (place : ℕ) : Type 0 where
  inner_fault : (inside : ℕ) → room ≡ suc inside → IsFaultReached T inside (fields_of T i) bytes at reason place
      → IsInnerFault T room i bytes at reason place
  inner_room : room ≡ 0 → reason ≡ Depth → place ≡ at → IsInnerFault T room i bytes at reason place
