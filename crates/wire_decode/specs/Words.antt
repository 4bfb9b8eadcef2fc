-- The numbers that are read, in the word form of their kind (Protocol Buffers, "Encoding"; language guide, "Updating A
-- Message Type": a 32-bit kind keeps the low 32 bits of a longer varint).
use Rattle.std.specs.Prelude.{◌≡◌, ◌==◌, ◌||◌, ◌&&◌, ℕ, ◌+◌, ◌-◌, ◌/◌, ◌%◌, ◌^◌, if◌then◌else◌, nat_lt, Bool, true, false, List, [], ◌∷◌, length}
use Rattle.mrpc_table.specs.Words.{is_numeric}
use Rattle.mrpc_table.specs.declared.table.Kind.{Kind}
use Rattle.mrpc_table.specs.declared.table.Kind.TheVariants.{Int32, Uint32, Sint32, Sint64, Bool as TheBool, Sfixed32, Choice}
use Rattle.mrpc_table.specs.declared.table.Label.{Label}
use Rattle.mrpc_table.specs.declared.table.Label.TheVariants.{Repeated, Packed, Map}
use Rattle.mrpc_table.specs.WireTypes.{wire_varint, wire_i64, wire_len, wire_i32, wire_type_of}
use Rattle.wire_base.specs.Records.{IsPayloadAt}
use Rattle.wire_base.specs.declared.records.Payload.{Payload}
use Rattle.wire_base.specs.declared.records.Payload.TheVariants.{Varint, I64, I32, Len}

-- a 32-bit word in two's complement as one of 64 bits
abbrev pub sign_extended : ℕ → ℕ
sign_extended n = if nat_lt n (2 ^ 31) then n else n + (2 ^ 64 - 2 ^ 32)

-- the word whose ZigZag number is n: 0, 1, 2, 3, .. are 0, -1, 1, -2, ..
abbrev pub unzigzag_of : ℕ → ℕ
unzigzag_of n = if n % 2 == 0 then n / 2 else 2 ^ 64 - 1 - n / 2

-- the word form of a number that was read
abbrev pub word_form_of : Kind → ℕ → ℕ
word_form_of Int32 v = sign_extended (v % 2 ^ 32)
word_form_of (Choice i) v = sign_extended (v % 2 ^ 32)
word_form_of Sfixed32 v = sign_extended (v % 2 ^ 32)
word_form_of Uint32 v = v % 2 ^ 32
word_form_of Sint32 v = unzigzag_of (v % 2 ^ 32)
word_form_of Sint64 v = unzigzag_of v
word_form_of TheBool v = if v == 0 then 0 else 1
word_form_of _ v = v

-- the number in a payload
abbrev pub payload_number : Payload → ℕ
payload_number (Varint v) = v
payload_number (I64 v) = v
payload_number (I32 v) = v
payload_number (Len start end) = 0

-- the wire type of a payload
abbrev pub payload_type : Payload → ℕ
payload_type (Varint v) = wire_varint
payload_type (I64 v) = wire_i64
payload_type (I32 v) = wire_i32
payload_type (Len start end) = wire_len

-- the wire type of a field's records; an entry of a map is a message
abbrev pub own_type : Label → Kind → ℕ
own_type (Map key) k = wire_len
own_type _ k = wire_type_of k

-- the label of a field with any number of elements
abbrev pub is_list : Label → Bool
is_list Repeated = true
is_list Packed = true
is_list _ = false

-- the label of a map
abbrev pub is_map : Label → Bool
is_map (Map key) = true
is_map _ = false

-- the numbers of a repeated field may also be packed, however the field is written
abbrev pub may_be_packed : Label → Kind → Bool
may_be_packed label k = is_list label && is_numeric k

-- whether a field is read from a payload of this wire type
abbrev pub accepts_payload : Label → Kind → Payload → Bool
accepts_payload label k p = payload_type p == own_type label k || (may_be_packed label k && payload_type p == wire_len)

-- the bytes from this offset to the end are whole elements of the kind, in order
abbrev pub AreElements : Kind → List ℕ → ℕ → List ℕ → Type 0
AreElements k bytes at [] = at ≡ length bytes
AreElements k bytes at (w ∷ ws) = (p : Payload) × (next : ℕ) × IsPayloadAt bytes at (wire_type_of k) p next
    × (w ≡ word_form_of k (payload_number p)) × AreElements k bytes next ws
