-- The code's own: the results of a reader that reads records straight into the tree that they mean.
use Rattle.std.specs.Prelude.{◌≡◌, ℕ, ◌+◌, ◌/◌, ◌%◌, nat_le, Bool, true, false, List, [], ◌∷◌, ◌++◌, map}
use Rattle.mrpc_table.specs.Node.{Node, no_fields, Content, one, Item, node}
use Rattle.mrpc_table.specs.declared.table.Kind.{Kind}
use Rattle.mrpc_table.specs.declared.table.Label.{Label}
use Rattle.mrpc_table.specs.declared.table.Label.TheVariants.{Map, Member}
use Rattle.mrpc_table.specs.declared.table.Field.{Field}
use Rattle.mrpc_table.specs.declared.table.Table.{Table}
use Rattle.wire_base.specs.Records.{IsTagAt, IsPayloadAt}
use Rattle.wire_base.specs.declared.records.Payload.{Payload}
use Rattle.wire_decode.specs.Words.{is_map}
use Rattle.wire_decode.specs.RawMessages.{IsRawMessage, IsContentUnder}
use Rattle.wire_decode.specs.Known.{HasRoom, entry_fields}
use Rattle.wire_decode.specs.Merged.{merged, counted_records, with_fields, join_fields, field_content, merged_element, merged_entry}
use Rattle.wire_decode.specs.Contents.{with_content}

-- the fields of the message that the bytes from an offset on mean
pub record HasEachField (T : Table) (room : ℕ) (fs : List Field) (bytes : List ℕ) (at : ℕ) (t : Node) : Type 0 where
  pub raw : Node
  pub reads : IsRawMessage T room fs bytes at raw
  pub same : t ≡ with_fields (merged T room) (counted_records fs raw) fs

-- a value of the kind from the payload of a wire type, and the offset after it
pub record IsValue (T : Table) (room : ℕ) (k : Kind) (bytes : List ℕ) (at w : ℕ) (i : Item) (next : ℕ) : Type 0 where
  pub payload : Payload
  pub held : Item
  pub stands : IsPayloadAt bytes at w payload next
  pub holds : (label : Label) → is_map label ≡ false → IsContentUnder T room label k bytes payload (one held)
  pub has_room : HasRoom room k
  pub same : i ≡ merged_element (merged T room) k held

-- records with this tag follow each other from one offset up to another, and have these contents
pub data AreRun (T : Table) (room : ℕ) (label : Label) (k : Kind) (bytes : List ℕ) (tag from : ℕ)
    : List Content → ℕ → Type 0 where
  none_yet : {cs : List Content} {at : ℕ} → cs ≡ [] → at ≡ from → AreRun T room label k bytes tag from cs at
  one_more : {cs : List Content} {at : ℕ} (before : List Content) (c : Content) (p : Payload) (middle first : ℕ)
      → AreRun T room label k bytes tag from before middle → IsTagAt bytes middle tag first
      → IsPayloadAt bytes first (tag % 8) p at → IsContentUnder T room label k bytes p c → cs ≡ before ++ c ∷ []
      → AreRun T room label k bytes tag from cs at

-- the records of a field, whose first tag ends at `start`, and what they add to the fields before them
pub record IsFieldRead (T : Table) (room : ℕ) (label : Label) (k : Kind) (bytes : List ℕ) (tag start next : ℕ)
    (old new : Node) : Type 0 where
  pub contents : List Content
  pub run : (at : ℕ) → IsTagAt bytes at tag start → AreRun T room label k bytes tag at contents next
  pub same : new ≡ join_fields old (with_content (tag / 8) (field_content (merged T room) label k contents) no_fields)

-- values of the kind, a record for each
pub record AreValues (T : Table) (room : ℕ) (k : Kind) (bytes : List ℕ) (tag start next : ℕ) (is : List Item)
    : Type 0 where
  pub held : List Item
  pub run : (label : Label) → is_map label ≡ false → (at : ℕ) → IsTagAt bytes at tag start
      → AreRun T room label k bytes tag at (map one held) next
  pub same : is ≡ map (merged_element (merged T room) k) held

-- entries of a map, a record for each
pub record AreEntriesRead (T : Table) (room : ℕ) (key k : Kind) (bytes : List ℕ) (tag start next : ℕ)
    (es : List (Item × Item)) : Type 0 where
  pub held : List Item
  pub run : (at : ℕ) → IsTagAt bytes at tag start → AreRun T room (Map key) k bytes tag at (map one held) next
  pub same : es ≡ map (merged_entry (merged T room) key k) held

-- an entry of a map, as a message of its own
pub record IsPair (T : Table) (room : ℕ) (key k : Kind) (bytes : List ℕ) (at : ℕ) (e : Item × Item) : Type 0 where
  pub raw : Node
  pub reads : IsRawMessage T room (entry_fields key k) bytes at raw
  pub has_room : HasRoom room k
  pub same : e ≡ merged_entry (merged T room) key k (node raw)

-- whether a field of this label may follow members of oneofs with indices below this number
abbrev pub may_follow : Label → ℕ → Bool
may_follow (Member o) oneofs = nat_le oneofs o
may_follow _ oneofs = true

-- a number above the indices of all oneofs with a member so far, after a field of this label
abbrev pub oneofs_with : Label → ℕ → ℕ
oneofs_with (Member o) oneofs = o + 1
oneofs_with _ oneofs = oneofs
