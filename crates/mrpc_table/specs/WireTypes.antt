-- The wire types (Protocol Buffers, "Encoding": "Message Structure").
use Rattle.std.specs.Prelude.{ℕ}
use Rattle.mrpc_table.specs.declared.table.Kind.{Kind}
use Rattle.mrpc_table.specs.declared.table.Kind.TheVariants.{Fixed32, Fixed64, Sfixed32, Sfixed64, Float, Double, Text, Octets, Message}

abbrev pub wire_varint : ℕ
wire_varint = 0

abbrev pub wire_i64 : ℕ
wire_i64 = 1

abbrev pub wire_len : ℕ
wire_len = 2

abbrev pub wire_i32 : ℕ
wire_i32 = 5

-- the wire type of a record of one value of the kind
abbrev pub wire_type_of : Kind → ℕ
wire_type_of Fixed64 = wire_i64
wire_type_of Sfixed64 = wire_i64
wire_type_of Double = wire_i64
wire_type_of Fixed32 = wire_i32
wire_type_of Sfixed32 = wire_i32
wire_type_of Float = wire_i32
wire_type_of Text = wire_len
wire_type_of Octets = wire_len
wire_type_of (Message i) = wire_len
wire_type_of _ = wire_varint
