-- The records of a byte string (Protocol Buffers, "Encoding": "Base 128 Varints", "Message Structure"), and the first
-- offset without a record.
use Rattle.std.specs.Prelude.{◌≡◌, ◌≢◌, ℕ, ◌+◌, ◌*◌, ◌/◌, ◌%◌, ◌^◌, ◌<◌, ◌≤◌, ◌⊎◌, List, [], ◌∷◌, length, drop, All, slice_range}
use Rattle.std.specs.Int.{w32, w64, from_le_bytes}
use Rattle.mrpc_table.specs.WireTypes.{wire_varint, wire_i64, wire_len, wire_i32}
use Rattle.wire_base.specs.declared.varint.TheConstants.{MAX_VARINT}
use Rattle.wire_base.specs.declared.records.Payload.{Payload}
use Rattle.wire_base.specs.declared.records.Payload.TheVariants.{Varint, I64, I32, Len}
use Rattle.wire_base.specs.declared.records.Record.{Record}
use Rattle.wire_base.specs.declared.fault.WireReason.{WireReason}
use Rattle.wire_base.specs.declared.fault.WireReason.TheVariants.{Varint as NoVarint, TagRange, NumberZero, WireType, Short}
use Rattle.wire_base.specs.declared.fault.WireFault.{WireFault}

-- the top bit is set on all bytes but the last
abbrev pub HasVarintForm : List ℕ → Type 0
HasVarintForm [] = ⊥
HasVarintForm (b ∷ []) = b < 128
HasVarintForm (b ∷ c ∷ bs) = (128 ≤ b) × HasVarintForm (c ∷ bs)

-- the sum of the groups of seven bits, the low group first
abbrev pub group_sum : List ℕ → ℕ
group_sum [] = 0
group_sum (b ∷ bs) = b % 128 + 128 * group_sum bs

-- a varint of one to ten bytes; bits above 64 are dropped
pub record IsVarint (bytes : List ℕ) (v : ℕ) : Type 0 where
  pub form : HasVarintForm bytes
  pub short : length bytes ≤ MAX_VARINT
  pub value : v ≡ group_sum bytes % 2 ^ 64

-- a varint is at this offset, and ends before the next
pub record IsVarintAt (bytes : List ℕ) (at v next : ℕ) : Type 0 where
  pub within : next ≤ length bytes
  pub spelled : IsVarint (slice_range bytes at next) v

-- ten bytes with the top bit set are at this offset
pub record IsTooLongAt (bytes : List ℕ) (at : ℕ) : Type 0 where
  pub ten : at + MAX_VARINT ≤ length bytes
  pub top : All (λ b. 128 ≤ b) (slice_range bytes at (at + MAX_VARINT))

-- the bytes end after fewer than ten bytes with the top bit set
pub record IsCutShortAt (bytes : List ℕ) (at : ℕ) : Type 0 where
  pub fewer : length bytes < at + MAX_VARINT
  pub top : All (λ b. 128 ≤ b) (drop at bytes)

-- why there is no varint at this offset
abbrev pub HasNoVarintAt : List ℕ → ℕ → WireReason → Type 0
HasNoVarintAt bytes at NoVarint = IsTooLongAt bytes at
HasNoVarintAt bytes at Short = IsCutShortAt bytes at
HasNoVarintAt bytes at TagRange = ⊥
HasNoVarintAt bytes at NumberZero = ⊥
HasNoVarintAt bytes at WireType = ⊥

-- a payload of the wire type is at this offset, and ends before the next
abbrev pub IsPayloadAt : List ℕ → ℕ → ℕ → Payload → ℕ → Type 0
IsPayloadAt bytes at wire_type (Varint v) next = (wire_type ≡ wire_varint) × IsVarintAt bytes at v next
IsPayloadAt bytes at wire_type (I64 v) next = (wire_type ≡ wire_i64) × (next ≡ at + 8) × (next ≤ length bytes)
    × (v ≡ from_le_bytes w64 (slice_range bytes at next))
IsPayloadAt bytes at wire_type (I32 v) next = (wire_type ≡ wire_i32) × (next ≡ at + 4) × (next ≤ length bytes)
    × (v ≡ from_le_bytes w32 (slice_range bytes at next))
IsPayloadAt bytes at wire_type (Len start end) next = (wire_type ≡ wire_len) × (n : ℕ) × IsVarintAt bytes at n start
    × (end ≡ start + n) × (end ≤ length bytes) × (next ≡ end)

-- the bytes of a payload are within the first `len` bytes
abbrev pub IsWithin : ℕ → Payload → Type 0
IsWithin len (Len start end) = (start ≤ end) × (end ≤ len)
IsWithin len (Varint v) = Unit {0}
IsWithin len (I64 v) = Unit {0}
IsWithin len (I32 v) = Unit {0}

-- a tag with a field number is at this offset
pub record IsTagAt (bytes : List ℕ) (at tag start : ℕ) : Type 0 where
  pub stands : IsVarintAt bytes at tag start
  pub small : tag < 2 ^ 32
  pub numbered : tag / 8 ≢ 0

-- a record is at this offset: a tag, followed by a payload of the tag's wire type
pub record IsRecordAt (bytes : List ℕ) (at : ℕ) (r : Record) : Type 0 where
  pub tag : ℕ
  pub start : ℕ
  pub tagged : IsTagAt bytes at tag start
  pub number : r.number ≡ tag / 8
  pub payload : IsPayloadAt bytes start (tag % 8) r.payload r.next

-- the bytes from this offset to the end are these records, in order
abbrev pub AreRecordsFrom : List ℕ → ℕ → List Record → Type 0
AreRecordsFrom bytes at [] = at ≡ length bytes
AreRecordsFrom bytes at (r ∷ rs) = IsRecordAt bytes at r × AreRecordsFrom bytes r.next rs

-- the bytes are these records, in order
abbrev pub AreRecords : List ℕ → List Record → Type 0
AreRecords bytes rs = AreRecordsFrom bytes 0 rs

abbrev pub IsWireType : ℕ → Type 0
IsWireType w = (w ≡ wire_varint) ⊎ (w ≡ wire_i64) ⊎ (w ≡ wire_len) ⊎ (w ≡ wire_i32)

-- why there is no payload of the wire type at this offset
pub data HasNoPayloadAt (bytes : List ℕ) (at wire_type : ℕ) (reason : WireReason) : Type 0 where
  no_varint : wire_type ≡ wire_varint → HasNoVarintAt bytes at reason → HasNoPayloadAt bytes at wire_type reason
  no_length : wire_type ≡ wire_len → HasNoVarintAt bytes at reason → HasNoPayloadAt bytes at wire_type reason
  short_i64 : wire_type ≡ wire_i64 → reason ≡ Short → length bytes < at + 8 → HasNoPayloadAt bytes at wire_type reason
  short_i32 : wire_type ≡ wire_i32 → reason ≡ Short → length bytes < at + 4 → HasNoPayloadAt bytes at wire_type reason
  short_len : (n start : ℕ) → wire_type ≡ wire_len → reason ≡ Short → IsVarintAt bytes at n start
      → length bytes < start + n → HasNoPayloadAt bytes at wire_type reason

-- why there is no record at this offset, and the offset of the fault: that of the tag, or of the payload
pub data IsWireFaultAt (bytes : List ℕ) (at : ℕ) (f : WireFault) : Type 0 where
  no_tag : f.place ≡ at → HasNoVarintAt bytes at f.reason → IsWireFaultAt bytes at f
  tag_range : (tag start : ℕ) → f.place ≡ at → f.reason ≡ TagRange → IsVarintAt bytes at tag start → 2 ^ 32 ≤ tag
      → IsWireFaultAt bytes at f
  number_zero : (tag start : ℕ) → f.place ≡ at → f.reason ≡ NumberZero → IsVarintAt bytes at tag start → tag < 2 ^ 32
      → tag / 8 ≡ 0 → IsWireFaultAt bytes at f
  wire_type : (tag start : ℕ) → f.place ≡ at → f.reason ≡ WireType → IsTagAt bytes at tag start
      → (IsWireType (tag % 8) → ⊥) → IsWireFaultAt bytes at f
  no_payload : (tag start : ℕ) → f.place ≡ start → IsTagAt bytes at tag start
      → HasNoPayloadAt bytes start (tag % 8) f.reason → IsWireFaultAt bytes at f

-- these records follow each other from this offset on, and there is no record after them
abbrev pub IsWireFaultAfter : List ℕ → ℕ → List Record → WireFault → Type 0
IsWireFaultAfter bytes at [] f = (at < length bytes) × IsWireFaultAt bytes at f
IsWireFaultAfter bytes at (r ∷ rs) f = IsRecordAt bytes at r × IsWireFaultAfter bytes r.next rs f

-- the first fault of a byte string that isn't a list of records
pub record HasFirstFault (bytes : List ℕ) (f : WireFault) : Type 0 where
  pub before : List Record
  pub first : IsWireFaultAfter bytes 0 before f
