-- The kinds of values, and the word form of a number of each kind: an unsigned 64-bit word, signed kinds
-- in two's complement (Protocol Buffers, language guide, "Scalar Value Types").
use Rattle.std.specs.Prelude.{ℕ, ◌+◌, ◌%◌, ◌^◌, ◌<◌, ◌≤◌, ◌⊎◌, Bool, true, false}
use Rattle.mrpc_table.specs.declared.table.Kind.{Kind}
use Rattle.mrpc_table.specs.declared.table.Label.{Label}
use Rattle.mrpc_table.specs.declared.table.Label.TheVariants.{Plain, Optional, Map, Member}
use Rattle.mrpc_table.specs.declared.table.Kind.TheVariants.{Int32, Int64, Uint32, Uint64, Sint32, Sint64, Bool as TheBool, Fixed32, Fixed64, Sfixed32, Sfixed64, Float, Double, Text, Octets, Message, Choice}

-- a signed 32-bit number, sign extended to 64 bits
abbrev pub IsSigned32 : ℕ → Type 0
IsSigned32 n = (n < 2 ^ 31) ⊎ ((2 ^ 64 ≤ n + 2 ^ 31) × (n < 2 ^ 64))

-- the word is the form of a number of the kind
abbrev pub IsWordForm : Kind → ℕ → Type 0
IsWordForm Int32 n = IsSigned32 n
IsWordForm Sint32 n = IsSigned32 n
IsWordForm Sfixed32 n = IsSigned32 n
IsWordForm (Choice i) n = IsSigned32 n
IsWordForm Int64 n = n < 2 ^ 64
IsWordForm Sint64 n = n < 2 ^ 64
IsWordForm Uint64 n = n < 2 ^ 64
IsWordForm Fixed64 n = n < 2 ^ 64
IsWordForm Sfixed64 n = n < 2 ^ 64
IsWordForm Double n = n < 2 ^ 64
IsWordForm Uint32 n = n < 2 ^ 32
IsWordForm Fixed32 n = n < 2 ^ 32
IsWordForm Float n = n < 2 ^ 32
IsWordForm TheBool n = n < 2
IsWordForm Text n = ⊥
IsWordForm Octets n = ⊥
IsWordForm (Message i) n = ⊥

-- the kinds for which a word of 2^63 or more is a number below zero
abbrev pub is_signed : Kind → Bool
is_signed Int32 = true
is_signed Int64 = true
is_signed Sint32 = true
is_signed Sint64 = true
is_signed Sfixed32 = true
is_signed Sfixed64 = true
is_signed (Choice i) = true
is_signed _ = false

-- a number of a kind that has a fixed length or a varint: neither text, bytes nor a message
abbrev pub is_numeric : Kind → Bool
is_numeric Text = false
is_numeric Octets = false
is_numeric (Message i) = false
is_numeric _ = true

-- a kind whose values are runs of bytes
abbrev pub is_run : Kind → Bool
is_run Text = true
is_run Octets = true
is_run _ = false

-- a kind that a map's key may have: integral, bool or string
abbrev pub is_key : Kind → Bool
is_key Float = false
is_key Double = false
is_key Octets = false
is_key (Message i) = false
is_key (Choice i) = false
is_key _ = true

-- the rank of a word of the kind in the order of its numbers
abbrev pub rank : Kind → ℕ → ℕ
rank k n = elim (is_signed k) [ true ↦ (n + 2 ^ 63) % 2 ^ 64 | false ↦ n ]

-- the message that a kind names
abbrev pub nested_message : Kind → ℕ
nested_message (Message i) = i
nested_message _ = 0

-- the kind of a map's keys
abbrev pub key_kind : Label → Kind
key_kind (Map key) = key
key_kind _ = Uint64

-- the label of a field that has at most one value
abbrev pub has_one_value : Label → Bool
has_one_value Plain = true
has_one_value Optional = true
has_one_value (Member o) = true
has_one_value _ = false
