-- The first fault of a byte string that isn't a message of the table. Valid records follow each other up to an offset,
-- and there is no record there, or the payload of a known field is at fault.
use Rattle.std.specs.Prelude.{◌-◌, ◌≡◌, ℕ, suc, ◌<◌, true, false, List, [], ◌∷◌, length, take, Some, slice_range}
use Rattle.std.specs.Str.{IsUtf8}
use Rattle.mrpc_table.specs.Node.{Node}
use Rattle.mrpc_table.specs.Normal.{fields_of, field_at}
use Rattle.mrpc_table.specs.declared.table.Kind.{Kind}
use Rattle.mrpc_table.specs.declared.table.Kind.TheVariants.{Text, Message as OfMessage}
use Rattle.mrpc_table.specs.declared.table.Label.TheVariants.{Map}
use Rattle.mrpc_table.specs.declared.table.Field.{Field}
use Rattle.mrpc_table.specs.declared.limits.TheConstants.{MAX_DEPTH}
use Rattle.mrpc_table.specs.declared.table.Table.{Table}
use Rattle.wire_base.specs.Records.{IsRecordAt, IsWireFaultAt}
use Rattle.wire_base.specs.declared.records.Record.{Record}
use Rattle.wire_base.specs.declared.records.Payload.TheVariants.{Len}
use Rattle.wire_base.specs.declared.fault.WireFault.{WireFault}
use Rattle.wire_decode.specs.Words.{is_map, may_be_packed, AreElements}
use Rattle.wire_decode.specs.Known.{HasRoom, is_known_record, entry_fields}
use Rattle.wire_decode.specs.Meaning.{RecordValue, MeansIn, HasValue}
use Rattle.wire_decode.specs.Reason.{decode_reason_of}
use Rattle.wire_decode.specs.declared.fault.DecodeFault.{DecodeFault}
use Rattle.wire_decode.specs.declared.fault.DecodeFault.TheVariants.{At, Memory}
use Rattle.wire_decode.specs.declared.fault.DecodeReason.{DecodeReason}
use Rattle.wire_decode.specs.declared.fault.DecodeReason.TheVariants.{Utf8, PackedLength, Depth}

-- a record that is skipped, or one of a known field whose payload is valid by itself
pub data IsValidRecord (T : Table) (room : ℕ) (fields : List Field) (bytes : List ℕ) (r : Record) : Type 0 where
  is_skipped : is_known_record fields r ≡ false → IsValidRecord T room fields bytes r
  is_known_and_valid : (f : Field) (value : RecordValue) → field_at fields r.number ≡ Some f
      → HasValue T room f.label f.kind bytes r.payload value → IsValidRecord T room fields bytes r

-- valid records follow each other from one offset up to another
abbrev pub AreValidRecords : Table → ℕ → List Field → List ℕ → ℕ → List Record → ℕ → Type 0
AreValidRecords T room fields bytes from [] at = from ≡ at
AreValidRecords T room fields bytes from (r ∷ records) at = IsRecordAt bytes from r × IsValidRecord T room fields bytes r
    × AreValidRecords T room fields bytes r.next records at

-- the payload, from one offset up to another, of the record at an offset: it has a length, and is of a field of the
-- message
pub record HasPayload (fields : List Field) (bytes : List ℕ) (at : ℕ) (f : Field) (start end : ℕ) : Type 0 where
  pub number : ℕ
  pub next : ℕ
  pub stands : IsRecordAt bytes at (record { number = number; payload = Len start end; next = next })
  pub known : field_at fields number ≡ Some f

mutual
  -- the first fault at or after an offset, of the bytes as a message of these fields; messages may nest `room` more
  -- levels deep inside
  pub data IsFirstFaultFrom (T : Table) : ℕ → List Field → List ℕ → ℕ → DecodeReason → ℕ → Type 0 where
    first_fault : {room : ℕ} {fields : List Field} {bytes : List ℕ} {from : ℕ} {reason : DecodeReason} {place : ℕ}
        (before : List Record) (at : ℕ) → AreValidRecords T room fields bytes from before at
        → IsFault T room fields bytes at reason place → IsFirstFaultFrom T room fields bytes from reason place

  -- why there is no valid record at an offset, and the offset of the fault: for a payload, its start
  pub data IsFault (T : Table) : ℕ → List Field → List ℕ → ℕ → DecodeReason → ℕ → Type 0 where
    no_record_there : {room : ℕ} {fields : List Field} {bytes : List ℕ} {at : ℕ} {reason : DecodeReason} {place : ℕ}
        (f : WireFault) → at < length bytes → IsWireFaultAt bytes at f → reason ≡ decode_reason_of f.reason → place ≡ f.place
        → IsFault T room fields bytes at reason place
    not_whole_elements : {room : ℕ} {fields : List Field} {bytes : List ℕ} {at : ℕ} {reason : DecodeReason} {place : ℕ}
        (f : Field) (end : ℕ) → HasPayload fields bytes at f place end → may_be_packed f.label f.kind ≡ true
        → ((ns : List ℕ) → AreElements f.kind (slice_range bytes place end) 0 ns → ⊥) → reason ≡ PackedLength
        → IsFault T room fields bytes at reason place
    not_utf8 : {room : ℕ} {fields : List Field} {bytes : List ℕ} {at : ℕ} {reason : DecodeReason} {place : ℕ}
        (f : Field) (end : ℕ) → HasPayload fields bytes at f place end → is_map f.label ≡ false → f.kind ≡ Text
        → (IsUtf8 (slice_range bytes place end) → ⊥) → reason ≡ Utf8 → IsFault T room fields bytes at reason place
    message_too_deep : {room : ℕ} {fields : List Field} {bytes : List ℕ} {at : ℕ} {reason : DecodeReason} {place : ℕ}
        (f : Field) (i end : ℕ) → HasPayload fields bytes at f place end → is_map f.label ≡ false → f.kind ≡ OfMessage i
        → room ≡ 0 → reason ≡ Depth → IsFault T room fields bytes at reason place
    inside_message : {room : ℕ} {fields : List Field} {bytes : List ℕ} {at : ℕ} {reason : DecodeReason} {place : ℕ}
        (f : Field) (i inside start end : ℕ) → HasPayload fields bytes at f start end → is_map f.label ≡ false
        → f.kind ≡ OfMessage i → room ≡ suc inside
        → IsFirstFaultFrom T inside (fields_of T i) (take end bytes) start reason place
        → IsFault T room fields bytes at reason place
    inside_entry : {room : ℕ} {fields : List Field} {bytes : List ℕ} {at : ℕ} {reason : DecodeReason} {place : ℕ}
        (f : Field) (key : Kind) (start end : ℕ) → HasPayload fields bytes at f start end → f.label ≡ Map key
        → IsFirstFaultFrom T room (entry_fields key f.kind) (take end bytes) start reason place
        → IsFault T room fields bytes at reason place
    -- the entry is valid, but the default of its value would be one message too deep
    default_too_deep : {room : ℕ} {fields : List Field} {bytes : List ℕ} {at : ℕ} {reason : DecodeReason} {place : ℕ}
        (f : Field) (key : Kind) (end : ℕ) (tree : Node) → HasPayload fields bytes at f place end → f.label ≡ Map key
        → MeansIn T room (entry_fields key f.kind) (slice_range bytes place end) tree → (HasRoom room f.kind → ⊥)
        → reason ≡ Depth → IsFault T room fields bytes at reason place

-- the first fault of the bytes as a message at an index of the table
abbrev pub IsFirstDecodeFault : Table → ℕ → List ℕ → DecodeReason → ℕ → Type 0
IsFirstDecodeFault T msg bytes reason place = IsFirstFaultFrom T (MAX_DEPTH - 1) (fields_of T msg) bytes 0 reason place

-- the fault is one of these, unless it is out of memory
abbrev pub OnDecodeFault : (DecodeReason → ℕ → Type 0) → DecodeFault → Type 0
OnDecodeFault P Memory = Unit {0}
OnDecodeFault P (At reason place) = P reason place
