-- The first fault of a byte string, as a walk over its records reaches it.
use Rattle.std.specs.Prelude.{◌≡◌, ℕ, suc, ◌<◌, true, false, List, length, take, Some, slice_range}
use Rattle.std.specs.Str.{IsUtf8}
use Rattle.mrpc_table.specs.Node.{Node, Content}
use Rattle.mrpc_table.specs.Normal.{fields_of, field_at}
use Rattle.mrpc_table.specs.declared.table.Kind.{Kind}
use Rattle.mrpc_table.specs.declared.table.Kind.TheVariants.{Text, Message as OfMessage}
use Rattle.mrpc_table.specs.declared.table.Label.{Label}
use Rattle.mrpc_table.specs.declared.table.Label.TheVariants.{Map}
use Rattle.mrpc_table.specs.declared.table.Field.{Field}
use Rattle.mrpc_table.specs.declared.table.Table.{Table}
use Rattle.wire_base.specs.Records.{IsRecordAt, IsWireFaultAt}
use Rattle.wire_base.specs.declared.records.Record.{Record}
use Rattle.wire_base.specs.declared.records.Payload.{Payload}
use Rattle.wire_base.specs.declared.records.Payload.TheVariants.{Len}
use Rattle.wire_base.specs.declared.fault.WireFault.{WireFault}
use Rattle.wire_decode.specs.Words.{is_map, may_be_packed, AreElements}
use Rattle.wire_decode.specs.RawMessages.{IsRawMessage, IsContentUnder}
use Rattle.wire_decode.specs.Known.{HasRoom, is_known_record, entry_fields}
use Rattle.wire_decode.specs.Reason.{decode_reason_of}
use Rattle.wire_decode.specs.declared.fault.DecodeReason.{DecodeReason}
use Rattle.wire_decode.specs.declared.fault.DecodeReason.TheVariants.{Utf8, PackedLength, Depth}

mutual
  -- Records follow each other from an offset on, and this is the first fault after them: there is no record, or the
  -- payload of a known field is at fault.
  pub data IsFaultReached (T : Table) : ℕ → List Field → List ℕ → ℕ → DecodeReason → ℕ → Type 0 where
    no_record : {room : ℕ} {fields : List Field} {bytes : List ℕ} {at : ℕ} {reason : DecodeReason} {place : ℕ}
        (f : WireFault) → at < length bytes → IsWireFaultAt bytes at f → reason ≡ decode_reason_of f.reason → place ≡ f.place
        → IsFaultReached T room fields bytes at reason place
    behind_other : {room : ℕ} {fields : List Field} {bytes : List ℕ} {at : ℕ} {reason : DecodeReason} {place : ℕ}
        (r : Record) → IsRecordAt bytes at r → is_known_record fields r ≡ false
        → IsFaultReached T room fields bytes r.next reason place → IsFaultReached T room fields bytes at reason place
    behind_known : {room : ℕ} {fields : List Field} {bytes : List ℕ} {at : ℕ} {reason : DecodeReason} {place : ℕ}
        (r : Record) (f : Field) (c : Content) → IsRecordAt bytes at r → field_at fields r.number ≡ Some f
        → IsContentUnder T room f.label f.kind bytes r.payload c → IsFaultReached T room fields bytes r.next reason place
        → IsFaultReached T room fields bytes at reason place
    in_payload : {room : ℕ} {fields : List Field} {bytes : List ℕ} {at : ℕ} {reason : DecodeReason} {place : ℕ}
        (r : Record) (f : Field) → IsRecordAt bytes at r → field_at fields r.number ≡ Some f
        → IsPayloadFault T room f.label f.kind bytes r.payload reason place → IsFaultReached T room fields bytes at reason place

  -- the first fault of the payload of a field
  pub data IsPayloadFault (T : Table) : ℕ → Label → Kind → List ℕ → Payload → DecodeReason → ℕ → Type 0 where
    -- the payload isn't a sequence of whole elements
    no_elements : {room : ℕ} {label : Label} {kind : Kind} {bytes : List ℕ} {payload : Payload} {reason : DecodeReason}
        {place : ℕ} (end : ℕ) → may_be_packed label kind ≡ true → payload ≡ Len place end → reason ≡ PackedLength
        → ((ws : List ℕ) → AreElements kind (take end bytes) place ws → ⊥)
        → IsPayloadFault T room label kind bytes payload reason place
    no_text : {room : ℕ} {label : Label} {kind : Kind} {bytes : List ℕ} {payload : Payload} {reason : DecodeReason}
        {place : ℕ} (end : ℕ) → is_map label ≡ false → kind ≡ Text → payload ≡ Len place end → reason ≡ Utf8
        → (IsUtf8 (slice_range bytes place end) → ⊥) → IsPayloadFault T room label kind bytes payload reason place
    -- it would be a message at depth 33
    too_deep : {room : ℕ} {label : Label} {kind : Kind} {bytes : List ℕ} {payload : Payload} {reason : DecodeReason}
        {place : ℕ} (i end : ℕ) → is_map label ≡ false → kind ≡ OfMessage i → payload ≡ Len place end → room ≡ 0
        → reason ≡ Depth → IsPayloadFault T room label kind bytes payload reason place
    in_message : {room : ℕ} {label : Label} {kind : Kind} {bytes : List ℕ} {payload : Payload} {reason : DecodeReason}
        {place : ℕ} (inside i start end : ℕ) → is_map label ≡ false → kind ≡ OfMessage i → payload ≡ Len start end
        → room ≡ suc inside → IsFaultReached T inside (fields_of T i) (take end bytes) start reason place
        → IsPayloadFault T room label kind bytes payload reason place
    in_entry : {room : ℕ} {label : Label} {kind : Kind} {bytes : List ℕ} {payload : Payload} {reason : DecodeReason}
        {place : ℕ} (key : Kind) (start end : ℕ) → label ≡ Map key → payload ≡ Len start end
        → IsFaultReached T room (entry_fields key kind) (take end bytes) start reason place
        → IsPayloadFault T room label kind bytes payload reason place
    -- the default of the entry's value would be a message at depth 33
    no_room : {room : ℕ} {label : Label} {kind : Kind} {bytes : List ℕ} {payload : Payload} {reason : DecodeReason}
        {place : ℕ} (key : Kind) (end : ℕ) (tree : Node) → label ≡ Map key → payload ≡ Len place end
        → IsRawMessage T room (entry_fields key kind) (take end bytes) place tree → (HasRoom room kind → ⊥) → reason ≡ Depth
        → IsPayloadFault T room label kind bytes payload reason place
