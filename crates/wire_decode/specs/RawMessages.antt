-- The records of a message, each read by itself: the contents of the records of known fields in the order of the bytes,
-- with those of the messages in them. Records of other numbers, and of known numbers with another wire type, are
-- skipped (Protocol Buffers, "Encoding").
use Rattle.std.specs.Prelude.{◌≡◌, ℕ, suc, true, false, List, [], ◌∷◌, length, take, Some, slice_range}
use Rattle.std.specs.Str.{IsUtf8}
use Rattle.mrpc_table.specs.Node.{Node, no_fields, field, Content, one, many, number, run, node, Items, no_items, item}
use Rattle.mrpc_table.specs.Normal.{fields_of, field_at}
use Rattle.mrpc_table.specs.Words.{is_numeric}
use Rattle.mrpc_table.specs.declared.table.Kind.{Kind}
use Rattle.mrpc_table.specs.declared.table.Kind.TheVariants.{Text, Octets, Message as OfMessage}
use Rattle.mrpc_table.specs.declared.table.Label.{Label}
use Rattle.mrpc_table.specs.declared.table.Label.TheVariants.{Map}
use Rattle.mrpc_table.specs.declared.table.Field.{Field}
use Rattle.mrpc_table.specs.declared.table.Table.{Table}
use Rattle.mrpc_table.specs.WireTypes.{wire_type_of}
use Rattle.wire_base.specs.Records.{IsRecordAt}
use Rattle.wire_base.specs.declared.records.Record.{Record}
use Rattle.wire_base.specs.declared.records.Payload.{Payload}
use Rattle.wire_base.specs.declared.records.Payload.TheVariants.{Len}
use Rattle.wire_decode.specs.Words.{word_form_of, payload_number, payload_type, is_map, may_be_packed, AreElements}
use Rattle.wire_decode.specs.Known.{is_known_record, entry_fields, HasRoom}

-- the words of a packed payload as items
abbrev pub numbers : List ℕ → Items
numbers [] = no_items
numbers (w ∷ ws) = item (number w) (numbers ws)

mutual
  -- The records are the bytes from an offset to their end, and the tree has the contents of the known ones in order.
  -- Messages may nest `room` more levels deep inside.
  pub data IsRawMessage (T : Table) : ℕ → List Field → List ℕ → ℕ → Node → Type 0 where
    read_end : {room : ℕ} {fields : List Field} {bytes : List ℕ} {at : ℕ} {tree : Node} → at ≡ length bytes
        → tree ≡ no_fields → IsRawMessage T room fields bytes at tree
    read_other : {room : ℕ} {fields : List Field} {bytes : List ℕ} {at : ℕ} {tree : Node} (r : Record)
        → IsRecordAt bytes at r → is_known_record fields r ≡ false → IsRawMessage T room fields bytes r.next tree
        → IsRawMessage T room fields bytes at tree
    read_known : {room : ℕ} {fields : List Field} {bytes : List ℕ} {at : ℕ} {tree : Node} (r : Record) (f : Field)
        (c : Content) (rest : Node) → IsRecordAt bytes at r → field_at fields r.number ≡ Some f
        → IsContentUnder T room f.label f.kind bytes r.payload c → tree ≡ field r.number c rest
        → IsRawMessage T room fields bytes r.next rest → IsRawMessage T room fields bytes at tree

  -- the content of a record of a field: a number, the elements of a packed payload, a string, bytes, a message, or an
  -- entry
  pub data IsContentUnder (T : Table) : ℕ → Label → Kind → List ℕ → Payload → Content → Type 0 where
    holds_number : {room : ℕ} {label : Label} {kind : Kind} {bytes : List ℕ} {payload : Payload} {c : Content}
        → is_map label ≡ false → is_numeric kind ≡ true → payload_type payload ≡ wire_type_of kind
        → c ≡ one (number (word_form_of kind (payload_number payload))) → IsContentUnder T room label kind bytes payload c
    holds_piece : {room : ℕ} {label : Label} {kind : Kind} {bytes : List ℕ} {payload : Payload} {c : Content}
        (start end : ℕ) (ws : List ℕ) → may_be_packed label kind ≡ true → payload ≡ Len start end
        → AreElements kind (take end bytes) start ws → c ≡ many (numbers ws) → IsContentUnder T room label kind bytes payload c
    holds_text : {room : ℕ} {label : Label} {kind : Kind} {bytes : List ℕ} {payload : Payload} {c : Content}
        (start end : ℕ) → is_map label ≡ false → kind ≡ Text → payload ≡ Len start end
        → IsUtf8 (slice_range bytes start end) → c ≡ one (run (slice_range bytes start end))
        → IsContentUnder T room label kind bytes payload c
    holds_octets : {room : ℕ} {label : Label} {kind : Kind} {bytes : List ℕ} {payload : Payload} {c : Content}
        (start end : ℕ) → is_map label ≡ false → kind ≡ Octets → payload ≡ Len start end
        → c ≡ one (run (slice_range bytes start end)) → IsContentUnder T room label kind bytes payload c
    holds_message : {room : ℕ} {label : Label} {kind : Kind} {bytes : List ℕ} {payload : Payload} {c : Content}
        (inside i start end : ℕ) (tree : Node) → is_map label ≡ false → kind ≡ OfMessage i → payload ≡ Len start end
        → room ≡ suc inside → IsRawMessage T inside (fields_of T i) (take end bytes) start tree → c ≡ one (node tree)
        → IsContentUnder T room label kind bytes payload c
    holds_entry : {room : ℕ} {label : Label} {kind : Kind} {bytes : List ℕ} {payload : Payload} {c : Content}
        (key : Kind) (start end : ℕ) (tree : Node) → label ≡ Map key → payload ≡ Len start end
        → IsRawMessage T room (entry_fields key kind) (take end bytes) start tree → HasRoom room kind → c ≡ one (node tree)
        → IsContentUnder T room label kind bytes payload c
